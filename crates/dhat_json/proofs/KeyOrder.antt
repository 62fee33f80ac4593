-- The keys of a profile's value are in order, and it nests four levels deep.
use Rattle.std.proofs.Common.{◌≡◌, ℕ, suc, List, [], ◌∷◌, map, Less, Option, Some, None, refl, rules}
use Rattle.std.specs.Prelude.{codes}
use Rattle.std.specs.Option.{option_map}
use Rattle.std.specs.Ordering.{nat_cmp}
use Rattle.std.specs.Cmp.Lexicographic.{slice_cmp}
use Rattle.serde_json.specs.Data.{Data, string, Members}
use Rattle.serde_json.specs.View.{items_of}
use Rattle.dhat_json.specs.declared.profile.Life.{Life}
use Rattle.dhat_json.specs.declared.profile.Access.{Access}
use Rattle.dhat_json.specs.declared.profile.Point.{Point}
use Rattle.dhat_json.specs.declared.profile.Dhat.{Dhat}
use Rattle.dhat_json.specs.DhatValue.{whole, optional, optional_text, optional_whole, point_members, point_value}
use Rattle.dhat_json.specs.DhatValue.{dhat_value}
use Rattle.dhat_json.proofs.ReadAgain.{Above, InOrder, ItemsInOrder, MembersInOrder}
use Rattle.dhat_json.proofs.RoundTrip.{verb_on, tu_on, tg_on, cmd_on, bu_on, bsu_on, bksu_on}

texts_in : (n : ℕ) (texts : List (List ℕ)) → ItemsInOrder n (items_of (map string texts))
texts_in n [] = tt
texts_in n (text ∷ texts) = (tt, texts_in n texts)

wholes_in : (n : ℕ) (numbers : List ℕ) → ItemsInOrder n (items_of (map whole numbers))
wholes_in n [] = tt
wholes_in n (number ∷ numbers) = (tt, wholes_in n numbers)

-- ---- points

parts_in : (n tb tbk : ℕ) (life : Option Life) (access : Option Access) (fs : List ℕ)
    → MembersInOrder (suc n) (point_members (record { tb = tb; tbk = tbk; life = life; access = access; fs = fs }))
parts_in n tb tbk None None fs = search (rules, wholes_in)
parts_in n tb tbk None (Some access) fs = search (rules, wholes_in)
parts_in n tb tbk (Some life) None fs = search (rules, wholes_in)
parts_in n tb tbk (Some life) (Some access) fs = search (rules, wholes_in)

points_in : (n : ℕ) (points : List Point) → ItemsInOrder (suc (suc n)) (items_of (map point_value points))
points_in n [] = tt
points_in n (point ∷ points) = (parts_in n point.tb point.tbk point.life point.access point.fs, points_in n points)

-- ---- the profile

above_optional : (k l : List ℕ) (o : Option Data) (rest : Members) → slice_cmp nat_cmp k l ≡ Less → Above k rest
    → Above k (optional l o rest)
above_optional k l None rest lt above = above
above_optional k l (Some d) rest lt above = lt

text_in_order : (n : ℕ) (k : List ℕ) (text : Option (List ℕ)) (rest : Members) → Above k rest → MembersInOrder n rest
    → MembersInOrder n (optional_text k text rest)
text_in_order n k None rest above h = h
text_in_order n k (Some text) rest above h = (tt, (above, h))

whole_in_order : (n : ℕ) (k : List ℕ) (number : Option ℕ) (rest : Members) → Above k rest → MembersInOrder n rest
    → MembersInOrder n (optional_whole k number rest)
whole_in_order n k None rest above h = h
whole_in_order n k (Some number) rest above h = (tt, (above, h))

times_in : (n : ℕ) (d : Dhat) → MembersInOrder n (tg_on d)
times_in n d =
    whole_in_order n (codes "tg") d.tg (tu_on d) refl (
      tt,
      (
        above_optional (codes "tu") (codes "tuth") (option_map whole d.tuth) (verb_on d) refl refl,
        whole_in_order n (codes "tuth") d.tuth (verb_on d) refl (tt, (tt, tt)),
      ),
    )

run_in : (n : ℕ) (d : Dhat) → MembersInOrder (suc (suc (suc n))) (cmd_on d)
run_in n d = (
  tt,
  (
    refl,
    (
      tt,
      (
        refl,
        (
          texts_in (suc (suc n)) d.ftbl,
          (
            refl,
            (
              tt,
              (
                refl,
                (
                  tt,
                  (
                    refl,
                    (
                      points_in n d.pps,
                      (
                        refl,
                        (
                          tt,
                          (
                            above_optional (codes "te") (codes "tg") (option_map whole d.tg) (tu_on d) refl refl,
                            times_in (suc (suc (suc n))) d,
                          ),
                        ),
                      ),
                    ),
                  ),
                ),
              ),
            ),
          ),
        ),
      ),
    ),
  ),
)

units_in : (n : ℕ) (d : Dhat) → MembersInOrder (suc (suc (suc n))) (bksu_on d)
units_in n d =
    text_in_order _ (codes "bksu") d.bksu (bsu_on d)
    (above_optional (codes "bksu") (codes "bsu") (option_map string d.bsu) (bu_on d) refl
    (above_optional (codes "bksu") (codes "bu") (option_map string d.bu) (cmd_on d) refl refl))
    (text_in_order _ (codes "bsu") d.bsu (bu_on d)
    (above_optional (codes "bsu") (codes "bu") (option_map string d.bu) (cmd_on d) refl refl)
    (text_in_order _ (codes "bu") d.bu (cmd_on d) refl (run_in n d)))

pub value_in_order : (n : ℕ) (d : Dhat) → InOrder (suc (suc (suc (suc n)))) (dhat_value d)
unfolding dhat_value
value_in_order n d = (
  tt,
  (
    refl,
    (
      tt,
      (
        refl,
        (
          tt,
          (
            above_optional (codes "bklt") (codes "bksu") (option_map string d.bksu) (bsu_on d) refl
                (above_optional (codes "bklt") (codes "bsu") (option_map string d.bsu) (bu_on d) refl
                (above_optional (codes "bklt") (codes "bu") (option_map string d.bu) (cmd_on d) refl refl)),
            units_in n d,
          ),
        ),
      ),
    ),
  ),
)
