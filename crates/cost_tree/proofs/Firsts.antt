-- Stacks of which only first texts are left go on from a front as the whole ones do, where these are enough for that.
use Rattle.std.proofs.Common.{◌≡◌, ℕ, zero, suc, ◌+◌, ◌<◌, ◌≤◌, inl, inr, ◌&&◌, not, Bool, true, false, eqb, cond, List}
use Rattle.std.proofs.Common.{[], ◌∷◌, ◌++◌, length, map, filter, take, refl, sym, ap, ◌∙◌, arith}
use Rattle.std.specs.Prelude.{All, nat_lt}
use Rattle.std.specs.List.{flat_map, range_with_len}
use Rattle.std.proofs.lemmas.Bool.{both_ways, cases_Bool, cases_lt, false_from_ne_true, lt-ltb, ltb-true}
use Rattle.std.proofs.lemmas.Bool.Decides.{same_from_decides}
use Rattle.std.proofs.lemmas.List.{length-take, length_push, take-append-le, take-take, take_all}
use Rattle.std.proofs.lemmas.List.Elements.{All-filter, All-weaker, filter_passes}
use Rattle.std.proofs.lemmas.List.Sorted.{All-permutation}
use Rattle.cost_tree.specs.declared.scale.Scale.{Scale}
use Rattle.cost_tree.specs.Costed.{Costed}
use Rattle.cost_tree.specs.CostLines.{FrontLine, a_front, cost_of, front_line, front_lines, gathered, gathered_lines}
use Rattle.cost_tree.specs.CostLines.{is_small, kept_fronts, last_of, small_fronts}
use Rattle.cost_tree.specs.Inclusive.{has_front, inclusive, least}
use Rattle.cost_tree.specs.NextFronts.{longer_front, next_fronts, opens, texts_at}
use Rattle.cost_tree.specs.Order.{by_cost}
use Rattle.cost_tree.proofs.Heads.{inclusive-cons, least-cons}
use Rattle.cost_tree.proofs.ChildNodes.{sum-same}
use Rattle.cost_tree.proofs.Nexts.{IsLonger, next-longer}
use Rattle.cost_tree.proofs.Orders.{by_cost-permutation, by_cost-same, filter-same}
use Rattle.cost_tree.proofs.Prefixes.{has_front-Decides}

-- a stack's first texts, and all of its cost
pub record IsFirst (whole cut : Costed) : Type 0 where
  pub count : ℕ
  pub texts : cut.texts ≡ take count whole.texts
  pub cost : cut.cost ≡ whole.cost

abbrev pub AreFirst : List Costed → List Costed → Type 0
AreFirst [] [] = Unit {0}
AreFirst [] (cut ∷ cuts) = ⊥
AreFirst (whole ∷ stacks) [] = ⊥
AreFirst (whole ∷ stacks) (cut ∷ cuts) = IsFirst whole cut × AreFirst stacks cuts

-- of each stack that begins with a front they have the first n texts
abbrev pub AreFirstTo : ℕ → List (List ℕ) → List Costed → List Costed → Type 0
AreFirstTo n front stacks cuts =
    (k : ℕ) → has_front front (texts_at stacks k) ≡ true → take n (texts_at cuts k) ≡ take n (texts_at stacks k)

-- so they begin with the same fronts
begins-same : (front : List (List ℕ)) (whole cut : Costed) → IsFirst whole cut
    → (has_front front whole.texts ≡ true → take (length front) cut.texts ≡ take (length front) whole.texts)
    → has_front front cut.texts ≡ has_front front whole.texts
begins-same front whole cut is same =
    same_from_decides (has_front front cut.texts) (has_front front whole.texts) (has_front-Decides front cut.texts) (
      (λ has. (has_front-Decides front whole.texts).0 has ∙ sym (same has)),
      (λ begins.
          let first : front ≡ take (length front) (take is.count whole.texts) =
          begins ∙ ap (λ (xs : List (List ℕ)). take (length front) xs) is.texts in
          let long = ap (λ (xs : List (List ℕ)). length xs) first in
          let one = length-take (length front) (take is.count whole.texts) in
          let two = length-take is.count whole.texts in
          (has_front-Decides front whole.texts).1
          (first ∙ take-take (length front) is.count whole.texts (omega arith))),
    )

-- a front costs the same, and has the same first stack
figures-same : (front : List (List ℕ)) (stacks cuts : List Costed) → AreFirst stacks cuts
    → AreFirstTo (length front) front stacks cuts
    → (inclusive front cuts ≡ inclusive front stacks) × (least front cuts ≡ least front stacks)
figures-same front [] [] are same = (refl, refl)
figures-same front [] (cut ∷ cuts) are same = absurd are
figures-same front (whole ∷ stacks) [] are same = absurd are
figures-same front (whole ∷ stacks) (cut ∷ cuts) are same =
    let one = inclusive-cons front cut cuts in
    let two = inclusive-cons front whole stacks in
    let begins = begins-same front whole cut are.0 (same 0) in
    let here : cond {A = ℕ} (has_front front cut.texts) cut.cost 0
    ≡ cond {A = ℕ} (has_front front whole.texts) whole.cost 0 =
    ap (λ (b : Bool). cond {A = ℕ} b cut.cost 0) begins
    ∙ ap (λ (n : ℕ). cond {A = ℕ} (has_front front whole.texts) n 0) are.0.cost in
    let rest = figures-same front stacks cuts are.1 (λ k. same (suc k)) in
    let rest_cost = rest.0 in (
      omega arith,
      least-cons front cut cuts
          ∙ ap (λ (b : Bool). cond {A = ℕ} (nat_lt 0 cut.cost && b) 0 (1 + least front cuts)) begins
          ∙ ap (λ (n : ℕ). cond {A = ℕ} (nat_lt 0 n && has_front front whole.texts) 0 (1 + least front cuts)) are.0.cost
          ∙ ap (λ (n : ℕ). cond {A = ℕ} (nat_lt 0 whole.cost && has_front front whole.texts) 0 (1 + n)) rest.1
          ∙ sym (least-cons front whole stacks),
    )

pub inclusive-same : (front : List (List ℕ)) (stacks cuts : List Costed) → AreFirst stacks cuts
    → AreFirstTo (length front) front stacks cuts → inclusive front cuts ≡ inclusive front stacks
inclusive-same front stacks cuts are same = (figures-same front stacks cuts are same).0

pub least-same : (front : List (List ℕ)) (stacks cuts : List Costed) → AreFirst stacks cuts
    → AreFirstTo (length front) front stacks cuts → least front cuts ≡ least front stacks
least-same front stacks cuts are same = (figures-same front stacks cuts are same).1

count-same : (stacks cuts : List Costed) → AreFirst stacks cuts → length cuts ≡ length stacks
count-same [] [] are = refl
count-same [] (cut ∷ cuts) are = absurd are
count-same (whole ∷ stacks) [] are = absurd are
count-same (whole ∷ stacks) (cut ∷ cuts) are = let rest = count-same stacks cuts are.1 in omega arith

-- one of them, or none
abbrev stack_at : List Costed → ℕ → Costed
stack_at stacks n = record { texts = texts_at stacks n; cost = 0 }

first-at : (stacks cuts : List Costed) (n : ℕ) → AreFirst stacks cuts → IsFirst (stack_at stacks n) (stack_at cuts n)
first-at [] [] n are = record { count = 0; texts = refl; cost = refl }
first-at [] (cut ∷ cuts) n are = absurd are
first-at (whole ∷ stacks) [] n are = absurd are
first-at (whole ∷ stacks) (cut ∷ cuts) zero are = record { count = are.0.count; texts = are.0.texts; cost = refl }
first-at (whole ∷ stacks) (cut ∷ cuts) (suc n) are =
    let rest = first-at stacks cuts n are.1 in
    record { count = rest.count; texts = rest.texts; cost = refl }

pub begins-at : (front : List (List ℕ)) (stacks cuts : List Costed) (n : ℕ) → AreFirst stacks cuts
    → AreFirstTo (length front) front stacks cuts
    → has_front front (texts_at cuts n) ≡ has_front front (texts_at stacks n)
begins-at front stacks cuts n are same =
    begins-same front (stack_at stacks n) (stack_at cuts n) (first-at stacks cuts n are) (same n)

-- fewer texts
pub fewer-first : (m n : ℕ) (front : List (List ℕ)) (stacks cuts : List Costed) → m ≤ n → AreFirstTo n front stacks cuts
    → AreFirstTo m front stacks cuts
fewer-first m n front stacks cuts less same k has =
    sym (take-take m n (texts_at cuts k) less) ∙ ap (λ (xs : List (List ℕ)). take m xs) (same k has)
    ∙ take-take m n (texts_at stacks k) less

-- what begins with a longer front begins with the shorter one
pub has-begun : (front next texts : List (List ℕ)) → front ≡ take (length front) next → has_front next texts ≡ true
    → has_front front texts ≡ true
has-begun front next texts begins has =
    let long = ap (λ (xs : List (List ℕ)). length xs) begins in
    let one = length-take (length front) next in
    (has_front-Decides front texts).1
    (begins ∙ ap (λ (xs : List (List ℕ)). take (length front) xs) ((has_front-Decides next texts).0 has)
    ∙ take-take (length front) (length next) texts (omega arith))

-- and those of a front that begins with it
further-first : (front next : List (List ℕ)) (stacks cuts : List Costed) → front ≡ take (length front) next
    → length next ≤ length front + 1 → AreFirstTo (length front + 1) front stacks cuts
    → AreFirstTo (length next) next stacks cuts
further-first front next stacks cuts begins short same k has =
    fewer-first (length next) (length front + 1) front stacks cuts short same k
    (has-begun front next (texts_at stacks k) begins has)

less-same : (a b c : ℕ) → (a < b → a < c) → (a < c → a < b) → nat_lt a b ≡ nat_lt a c
less-same a b c there back =
    elim (cases_lt a b) [
      | inl less ↦ lt-ltb a b less ∙ sym (lt-ltb a c (there less))
      | inr more ↦
          false_from_ne_true (nat_lt a b) (λ is. let less = ltb-true a b is in absurd (omega arith))
          ∙ sym (false_from_ne_true (nat_lt a c) (λ is. let less = back (ltb-true a c is) in absurd (omega arith)))
    ]

-- a stack goes on from such a front as the whole one does
record IsAlike (front : List (List ℕ)) (stacks cuts : List Costed) (n : ℕ) : Type 0 where
  same : opens front cuts n ≡ opens front stacks n
  longer : opens front stacks n ≡ true → longer_front front cuts n ≡ longer_front front stacks n

goes-on : (front : List (List ℕ)) (stacks cuts : List Costed) (n : ℕ) → AreFirst stacks cuts
    → AreFirstTo (length front + 1) front stacks cuts → IsAlike front stacks cuts n
goes-on front stacks cuts n are same =
    elim (cases_Bool (has_front front texts)) [
      | inl has ↦
          let begins : front ≡ take (length front) texts = (has_front-Decides front texts).0 has in
          let longer : longer_front front cuts n ≡ longer_front front stacks n = same n has in
          let one = length-take (length front + 1) (texts_at cuts n) in
          let two = length-take (length front + 1) texts in
          let long = ap (λ (xs : List (List ℕ)). length xs) longer in
          let on =
          less-same (length front) (length (texts_at cuts n)) (length texts) (λ less. omega arith)
          (λ less. omega arith) in
          let first : least (longer_front front cuts n) cuts ≡ least (longer_front front stacks n) stacks =
          ap (λ (xs : List (List ℕ)). least xs cuts) longer
          ∙ least-same (longer_front front stacks n) stacks cuts are
          (further-first front (longer_front front stacks n) stacks cuts
          (begins ∙ sym (take-take (length front) (length front + 1) texts (omega arith))) (omega arith) same) in
          record {
            same =
                ap
                (λ (b : Bool). b && nat_lt (length front) (length (texts_at cuts n)) && eqb
                (least (longer_front front cuts n) cuts) n)
                begun
                ∙ ap (λ (b : Bool). has_front front texts && b && eqb (least (longer_front front cuts n) cuts) n) on
                ∙ ap (λ (k : ℕ). has_front front texts && nat_lt (length front) (length texts) && eqb k n) first;
            longer = λ opened. longer;
          }
      | inr other ↦ record {
        same =
            ap (λ (b : Bool). b && nat_lt (length front) (length (texts_at cuts n)) && eqb
            (least (longer_front front cuts n) cuts) n) (begun
            ∙ other)
            ∙ sym
            (ap
            (λ (b : Bool). b && nat_lt (length front) (length texts) && eqb
            (least (longer_front front stacks n) stacks) n)
            other);
        longer = λ opened.
            absurd
            (both_ways (opens front stacks n)
            (ap
            (λ (b : Bool). b && nat_lt (length front) (length texts) && eqb
            (least (longer_front front stacks n) stacks) n)
            other)
            opened);
      }
    ]
  where
    texts : List (List ℕ)
    texts = texts_at stacks n

    begun : has_front front (texts_at cuts n) ≡ has_front front texts
    begun =
        begins-at front stacks cuts n are
        (fewer-first (length front) (length front + 1) front stacks cuts (omega arith) same)

chosen-same : {X : Type 0} (p q : ℕ → Bool) (f g : ℕ → X) (ns : List ℕ) → ((n : ℕ) → p n ≡ q n)
    → ((n : ℕ) → q n ≡ true → f n ≡ g n) → map f (filter p ns) ≡ map g (filter q ns)
chosen-same p q f g [] tests values = refl
chosen-same {X} p q f g (n ∷ ns) tests values =
    let rest = chosen-same p q f g ns tests values in
    ap (λ (b : Bool). map f (cond {A = List ℕ} b (n ∷ filter p ns) (filter p ns))) (tests n)
    ∙ by_flag (q n) (values n) rest
  where
    by_flag : (b : Bool) → (b ≡ true → f n ≡ g n) → map f (filter p ns) ≡ map g (filter q ns)
        → map f (cond {A = List ℕ} b (n ∷ filter p ns) (filter p ns))
        ≡ map g (cond {A = List ℕ} b (n ∷ filter q ns) (filter q ns))
    by_flag true value rest = ap (λ (x : X). x ∷ map f (filter p ns)) (value refl) ∙ ap (λ (xs : List X). g n ∷ xs) rest
    by_flag false value rest = rest

-- so the fronts that are one text longer are the same
next-same : (front : List (List ℕ)) (stacks cuts : List Costed) → AreFirst stacks cuts
    → AreFirstTo (length front + 1) front stacks cuts → next_fronts front cuts ≡ next_fronts front stacks
unfolding next_fronts
next-same front stacks cuts are same =
    ap (λ (k : ℕ). map (longer_front front cuts) (filter (opens front cuts) (range_with_len 0 k)))
    (count-same stacks cuts are)
    ∙ chosen-same (opens front cuts) (opens front stacks) (longer_front front cuts) (longer_front front stacks)
    (range_with_len 0 (length stacks))
    (λ n. (goes-on front stacks cuts n are same).same)
    (λ n opened. (goes-on front stacks cuts n are same).longer opened)

-- a front that is one text longer than another
pub record IsOneLonger (front next : List (List ℕ)) : Type 0 where
  pub count : length next ≡ length front + 1
  pub begins : front ≡ take (length front) next

pub one-longer : (front next : List (List ℕ)) (stacks : List Costed) → IsLonger front stacks next
    → IsOneLonger front next
one-longer front next stacks is = record {
  count = ap (λ (xs : List (List ℕ)). length xs) is.is ∙ length_push front (last_of next);
  begins =
      sym (take_all (length front) front (omega arith))
      ∙ sym (take-append-le (length front) front (last_of next ∷ []) (omega arith))
      ∙ ap (λ (xs : List (List ℕ)). take (length front) xs) (sym is.is);
}

-- they cost the same
pub next-first : (front next : List (List ℕ)) (stacks cuts : List Costed) → IsOneLonger front next
    → AreFirstTo (length front + 1) front stacks cuts → AreFirstTo (length next) next stacks cuts
next-first front next stacks cuts is same =
    let count = is.count in further-first front next stacks cuts is.begins (omega arith) same

costs-same : (front : List (List ℕ)) (stacks cuts : List Costed) → AreFirst stacks cuts
    → AreFirstTo (length front + 1) front stacks cuts
    → All (λ next. cost_of cuts next ≡ cost_of stacks next) (next_fronts front stacks)
costs-same front stacks cuts are same =
    All-weaker (IsLonger front stacks) (λ next. cost_of cuts next ≡ cost_of stacks next)
    (λ next is. inclusive-same next stacks cuts are
    (next-first front next stacks cuts (one-longer front next stacks is) same))
    (next_fronts front stacks) (next-longer front stacks)

kept-same : (scale : Scale) (front : List (List ℕ)) (stacks cuts : List Costed) → AreFirst stacks cuts
    → AreFirstTo (length front + 1) front stacks cuts → kept_fronts scale cuts front ≡ kept_fronts scale stacks front
unfolding kept_fronts
kept-same scale front stacks cuts are same =
    let costs = costs-same front stacks cuts are same in
    let kept : List Costed → List (List ℕ) → Bool = λ ss next. not (is_small scale (cost_of ss next)) in
    ap (λ (fronts : List (List (List ℕ))). by_cost (cost_of cuts) (filter (kept cuts) fronts))
    (next-same front stacks cuts are same)
    ∙ ap (λ (fronts : List (List (List ℕ))). by_cost (cost_of cuts) fronts)
    (filter-same (kept cuts) (kept stacks) (next_fronts front stacks)
    (All-weaker (λ next. cost_of cuts next ≡ cost_of stacks next) (λ next. kept cuts next ≡ kept stacks next)
    (λ next equal. ap (λ (n : ℕ). not (is_small scale n)) equal) (next_fronts front stacks) costs))
    ∙ by_cost-same (cost_of cuts) (cost_of stacks) (filter (kept stacks) (next_fronts front stacks))
    (All-filter (kept stacks) (λ next. cost_of cuts next ≡ cost_of stacks next) (next_fronts front stacks) costs)

small-same : (scale : Scale) (front : List (List ℕ)) (stacks cuts : List Costed) → AreFirst stacks cuts
    → AreFirstTo (length front + 1) front stacks cuts → small_fronts scale cuts front ≡ small_fronts scale stacks front
unfolding small_fronts
small-same scale front stacks cuts are same =
    let costs = costs-same front stacks cuts are same in
    let small : List Costed → List (List ℕ) → Bool = λ ss next. is_small scale (cost_of ss next) in
    ap (λ (fronts : List (List (List ℕ))). filter (small cuts) fronts) (next-same front stacks cuts are same)
    ∙ filter-same (small cuts) (small stacks) (next_fronts front stacks)
    (All-weaker (λ next. cost_of cuts next ≡ cost_of stacks next) (λ next. small cuts next ≡ small stacks next)
    (λ next equal. ap (λ (n : ℕ). is_small scale n) equal) (next_fronts front stacks) costs)

gathered-same : (stacks cuts : List Costed) (level : ℕ) (fronts : List (List (List ℕ)))
    → All (λ next. cost_of cuts next ≡ cost_of stacks next) fronts
    → gathered_lines cuts level fronts ≡ gathered_lines stacks level fronts
unfolding gathered_lines
gathered-same stacks cuts level [] costs = refl
gathered-same stacks cuts level (next ∷ more) costs =
    let line =
    λ (n : ℕ). let made : FrontLine = record {
      level = level;
      children = 0;
      cost = n;
      shown = gathered (length (next ∷ more));
    } in made in
    ap (λ (n : ℕ). line n ∷ []) (sum-same (cost_of cuts) (cost_of stacks) (next ∷ more) costs)

small-costs : (scale : Scale) (front : List (List ℕ)) (stacks cuts : List Costed) → AreFirst stacks cuts
    → AreFirstTo (length front + 1) front stacks cuts
    → All (λ next. cost_of cuts next ≡ cost_of stacks next) (small_fronts scale stacks front)
unfolding small_fronts
small-costs scale front stacks cuts are same =
    All-filter (λ next. is_small scale (cost_of stacks next)) (λ next. cost_of cuts next ≡ cost_of stacks next)
    (next_fronts front stacks) (costs-same front stacks cuts are same)

-- a front with a line of its own costs enough for it
pub record IsCostly (scale : Scale) (front : List (List ℕ)) (stacks : List Costed) (next : List (List ℕ)) : Type 0 where
  pub longer : IsLonger front stacks next
  pub large : is_small scale (cost_of stacks next) ≡ false

pub kept-costly : (scale : Scale) (front : List (List ℕ)) (stacks : List Costed)
    → All (IsCostly scale front stacks) (kept_fronts scale stacks front)
unfolding kept_fronts
kept-costly scale front stacks =
    let kept : List (List ℕ) → Bool = λ next. not (is_small scale (cost_of stacks next)) in
    let fronts : List (List (List ℕ)) = filter kept (next_fronts front stacks) in
    let longer = All-filter kept (IsLonger front stacks) (next_fronts front stacks) (next-longer front stacks) in
    All-permutation (IsCostly scale front stacks) fronts (by_cost (cost_of stacks) fronts)
    (by_cost-permutation (cost_of stacks) fronts)
    (λ k d within. record {
      longer = longer k d within;
      large = flipped _ (filter_passes kept (next_fronts front stacks) k d within);
    })
  where
    flipped : (b : Bool) → not b ≡ true → b ≡ false
    flipped true is = sym is
    flipped false is = refl

-- the front's own line, where it has none below it
pub line-same : (scale : Scale) (front : List (List ℕ)) (stacks cuts : List Costed) → AreFirst stacks cuts
    → AreFirstTo (length front) front stacks cuts → front_lines 0 scale cuts front ≡ front_lines 0 scale stacks front
unfolding front_lines
line-same scale front stacks cuts are same = ap (λ (n : ℕ). line n ∷ []) (inclusive-same front stacks cuts are same)
  where
    line : ℕ → FrontLine
    line cost = record { level = length front; children = 0; cost = cost; shown = a_front front }

-- its lines, where these fronts have their own
abbrev pub lines_with : Scale → List Costed → List (List ℕ) → (List (List ℕ) → List FrontLine) → List FrontLine
lines_with scale stacks front below =
    front_line
    (length (kept_fronts scale stacks front)
    + length (gathered_lines stacks (length front + 1) (small_fronts scale stacks front)))
    stacks front
    ∷ (flat_map below (kept_fronts scale stacks front)
    ++ gathered_lines stacks (length front + 1) (small_fronts scale stacks front))

-- are those of the whole stacks, where those of longer fronts are
pub lines-below : (more : ℕ) (scale : Scale) (front : List (List ℕ)) (stacks cuts : List Costed) → AreFirst stacks cuts
    → AreFirstTo (length front + 1) front stacks cuts
    → front_lines (suc more) scale cuts front ≡ lines_with scale stacks front (front_lines more scale cuts)
unfolding front_lines
lines-below more scale front stacks cuts are same =
    let level : ℕ = length front + 1 in
    let kept : List (List (List ℕ)) = kept_fronts scale stacks front in
    let last : List FrontLine = gathered_lines stacks level (small_fronts scale stacks front) in
    let lines : List (List (List ℕ)) → List FrontLine → ℕ → List FrontLine =
    λ fronts few cost. line (length fronts + length few) cost
    ∷ (flat_map (front_lines more scale cuts) fronts ++ few) in
    let few : gathered_lines cuts level (small_fronts scale cuts front) ≡ last =
    ap (λ (fronts : List (List (List ℕ))). gathered_lines cuts level fronts)
    (small-same scale front stacks cuts are same)
    ∙ gathered-same stacks cuts level (small_fronts scale stacks front)
    (small-costs scale front stacks cuts are same) in
    ap (λ (fronts : List (List (List ℕ))). lines fronts (gathered_lines cuts level (small_fronts scale cuts front))
    (cost_of cuts front)) (kept-same
    scale front stacks cuts are same)
    ∙ ap (λ (ls : List FrontLine). lines kept ls (cost_of cuts front)) few
    ∙ ap (λ (n : ℕ). lines kept last n)
    (inclusive-same front stacks cuts are
    (fewer-first (length front) (length front + 1) front stacks cuts (omega arith) same))
  where
    line : ℕ → ℕ → FrontLine
    line children cost = record { level = length front; children = children; cost = cost; shown = a_front front }
