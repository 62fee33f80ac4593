-- Lemmas on lists of numbers that are cut, and made longer where they cost enough for a line.
use Rattle.std.proofs.Common.{◌≡◌, ℕ, zero, suc, ◌+◌, ◌*◌, ◌<◌, ◌≤◌, ◌⊎◌, inl, inr, ◌&&◌, not, Bool, true, false, eqb}
use Rattle.std.proofs.Common.{cond, List, [], ◌∷◌, ◌++◌, length, map, min, replicate, set, take, get_or, Some, refl}
use Rattle.std.proofs.Common.{sym, ap, ◌∙◌, subst, sum, arith}
use Rattle.std.specs.Prelude.{All, nat_lt, slice_get, slice_index}
use Rattle.std.specs.Str.{bytes_eq}
use Rattle.std.proofs.lemmas.Bool.{both_ways, cases_Bool, cases_eq, cases_lt, cond_both, eq-eqb, eqb-true, lt-ltb}
use Rattle.std.proofs.lemmas.Bool.{ltb-true, ne_eqb}
use Rattle.std.proofs.lemmas.Bool.Decides.{same_from_decides}
use Rattle.std.proofs.lemmas.Grind.{get_or-set_at}
use Rattle.std.proofs.lemmas.List.{get_or-replicate, get_or-set_other, length-map, length-take, map-append, take-map}
use Rattle.std.proofs.lemmas.List.{take-take, take_more}
use Rattle.std.proofs.lemmas.List.Elements.{All-cons, All-head, All-nil, All-tail, All-take}
use Rattle.std.proofs.lemmas.List.Sums.{sum_by-cons, sum_by-take-le}
use Rattle.std.proofs.lemmas.Option.{none-some, same_Some, slice_get-get_or, slice_get_within}
use Rattle.std.proofs.lemmas.Slice.Eq.{bytes_eq-Decides}
use Rattle.intern_tables.specs.Distinct.{AreDistinct}
use Rattle.cost_tree.specs.declared.edge.Edge.{Edge}
use Rattle.cost_tree.specs.declared.scale.Scale.{Scale}
use Rattle.cost_tree.specs.Costed.{Costed, costed}
use Rattle.cost_tree.specs.CostLines.{cost_of, is_small}
use Rattle.cost_tree.specs.CutShapes.{AreCutAlike, ended_cost, equal_cost, left, next_count, raised, raised_counts}
use Rattle.cost_tree.specs.Cuts.{AreEnough, IsEnough, cut_lists}
use Rattle.cost_tree.specs.Inclusive.{has_front, inclusive}
use Rattle.cost_tree.specs.Shapes.{AreSteps, list_at, lists_in, numbers_of}
use Rattle.cost_tree.specs.Texts.{AreTexts, IsText, lists_of, text_of, texts_of}
use Rattle.cost_tree.proofs.Heads.{inclusive-cons}
use Rattle.cost_tree.proofs.Prefixes.{has_front-Decides}
use Rattle.cost_tree.proofs.Steps.{texts-same}

-- one list more
pub cut-push : {X : Type 0} (counts : List ℕ) (lists : List (List X)) (count : ℕ) (list : List X)
    → length counts ≡ length lists
    → cut_lists (counts ++ count ∷ []) (lists ++ list ∷ []) ≡ cut_lists counts lists ++ take count list ∷ []
unfolding cut_lists
cut-push [] [] count list same = refl
cut-push [] (x ∷ lists) count list same = absurd (omega arith)
cut-push (k ∷ counts) [] count list same = absurd (omega arith)
cut-push {X} (k ∷ counts) (x ∷ lists) count list same =
    ap (λ (ls : List (List X)). take k x ∷ ls) (cut-push counts lists count list (omega arith))

pub cut-count : {X : Type 0} (counts : List ℕ) (lists : List (List X)) → length counts ≡ length lists
    → length (cut_lists counts lists) ≡ length lists
unfolding cut_lists
cut-count [] [] same = refl
cut-count [] (x ∷ lists) same = absurd (omega arith)
cut-count (k ∷ counts) [] same = absurd (omega arith)
cut-count (k ∷ counts) (x ∷ lists) same = let rest = cut-count counts lists (omega arith) in omega arith

-- a list of them
pub cut-get : {X : Type 0} (counts : List ℕ) (lists : List (List X)) (k count : ℕ) (list : List X)
    → slice_get counts k ≡ Some count → slice_get lists k ≡ Some list
    → slice_get (cut_lists counts lists) k ≡ Some (take count list)
unfolding cut_lists
cut-get [] lists k count list count_at list_at = absurd (none-some count count_at)
cut-get (c ∷ counts) [] k count list count_at list_at = absurd (none-some list list_at)
cut-get {X} (c ∷ counts) (x ∷ lists) zero count list count_at list_at =
    ap (λ (n : ℕ). Some (take n x)) (same_Some c count count_at)
    ∙ ap (λ (xs : List X). Some (take count xs)) (same_Some x list list_at)
cut-get (c ∷ counts) (x ∷ lists) (suc k) count list count_at list_at =
    cut-get counts lists k count list count_at list_at

-- their texts are those of the whole lists, cut
pub cut-texts : (names : List (List ℕ)) (counts : List ℕ) (lists : List (List ℕ))
    → lists_of names (cut_lists counts lists) ≡ cut_lists counts (lists_of names lists)
unfolding cut_lists
cut-texts names [] lists = refl
cut-texts names (k ∷ counts) [] = refl
cut-texts names (k ∷ counts) (list ∷ lists) =
    ap (λ (texts : List (List ℕ)). texts ∷ lists_of names (cut_lists counts lists))
    (sym (take-map (text_of names) k list))
    ∙ ap (λ (ls : List (List (List ℕ))). take k (texts_of names list) ∷ ls) (cut-texts names counts lists)

pub cut-named : (names : List (List ℕ)) (counts : List ℕ) (lists : List (List ℕ)) → AreTexts names lists
    → AreTexts names (cut_lists counts lists)
unfolding cut_lists
cut-named names [] lists are = All-nil (All (IsText names))
cut-named names (k ∷ counts) [] are = All-nil (All (IsText names))
cut-named names (k ∷ counts) (list ∷ lists) are =
    All-cons (All (IsText names)) (take k list) (cut_lists counts lists)
    (All-take (IsText names) k list (All-head (All (IsText names)) list lists are))
    (cut-named names counts lists (All-tail (All (IsText names)) list lists are))

-- at first each list has one number
ones : (n k count : ℕ) → slice_get (replicate n 1) k ≡ Some count → count ≡ 1
ones zero k count is = absurd (none-some count is)
ones (suc n) zero count is = sym (same_Some 1 count is)
ones (suc n) (suc k) count is = ones n k count is

pub ones-some : (n k count : ℕ) → slice_get (replicate n 1) k ≡ Some count → 0 < count
ones-some n k count is = let same = ones n k count is in omega arith

pub ones-alike : (whole : List (List ℕ)) (n : ℕ) → AreCutAlike whole (replicate n 1)
ones-alike whole n =
    λ s t count other list begins s_at t_at count_at other_at cut same. ones n t other other_at
    ∙ sym (ones n s count count_at)

-- one count more
pub raised-push : (scale : Scale) (counts lengths costs : List ℕ) (count most cost : ℕ) → length lengths ≡ length counts
    → length costs ≡ length counts
    → raised_counts scale (counts ++ count ∷ []) (lengths ++ most ∷ []) (costs ++ cost ∷ [])
    ≡ raised_counts scale counts lengths costs ++ raised scale count most cost ∷ []
unfolding raised_counts
raised-push scale [] [] [] count most cost same as_many = refl
raised-push scale [] [] (c ∷ costs) count most cost same as_many = absurd (omega arith)
raised-push scale [] (l ∷ lengths) costs count most cost same as_many = absurd (omega arith)
raised-push scale (k ∷ counts) [] costs count most cost same as_many = absurd (omega arith)
raised-push scale (k ∷ counts) (l ∷ lengths) [] count most cost same as_many = absurd (omega arith)
raised-push scale (k ∷ counts) (l ∷ lengths) (c ∷ costs) count most cost same as_many =
    ap (λ (ks : List ℕ). raised scale k l c ∷ ks)
    (raised-push scale counts lengths costs count most cost (omega arith) (omega arith))

pub raised-count : (scale : Scale) (counts lengths costs : List ℕ) → length lengths ≡ length counts
    → length costs ≡ length counts → length (raised_counts scale counts lengths costs) ≡ length counts
unfolding raised_counts
raised-count scale [] lengths costs same as_many = refl
raised-count scale (k ∷ counts) [] costs same as_many = absurd (omega arith)
raised-count scale (k ∷ counts) (l ∷ lengths) [] same as_many = absurd (omega arith)
raised-count scale (k ∷ counts) (l ∷ lengths) (c ∷ costs) same as_many =
    let rest = raised-count scale counts lengths costs (omega arith) (omega arith) in omega arith

-- what a raised count was
record IsRaised (scale : Scale) (counts lengths costs : List ℕ) (k new : ℕ) : Type 0 where
  count : ℕ
  most : ℕ
  cost : ℕ
  count_at : slice_get counts k ≡ Some count
  most_at : slice_get lengths k ≡ Some most
  cost_at : slice_get costs k ≡ Some cost
  is : new ≡ raised scale count most cost

raised-get : (scale : Scale) (counts lengths costs : List ℕ) (k new : ℕ)
    → slice_get (raised_counts scale counts lengths costs) k ≡ Some new → IsRaised scale counts lengths costs k new
unfolding raised_counts
raised-get scale [] lengths costs k new at = absurd (none-some new at)
raised-get scale (c ∷ counts) [] costs k new at = absurd (none-some new at)
raised-get scale (c ∷ counts) (l ∷ lengths) [] k new at = absurd (none-some new at)
raised-get scale (c ∷ counts) (l ∷ lengths) (x ∷ costs) zero new at =
    record {
      count = c;
      most = l;
      cost = x;
      count_at = refl;
      most_at = refl;
      cost_at = refl;
      is = sym (same_Some (raised scale c l x) new at);
    }
raised-get scale (c ∷ counts) (l ∷ lengths) (x ∷ costs) (suc k) new at =
    let rest = raised-get scale counts lengths costs k new at in
    record {
      count = rest.count;
      most = rest.most;
      cost = rest.cost;
      count_at = rest.count_at;
      most_at = rest.most_at;
      cost_at = rest.cost_at;
      is = rest.is;
    }

-- where no count is another one than before, that at a place isn't
pub raised-none : (scale : Scale) (counts lengths costs : List ℕ) (k : ℕ) → length lengths ≡ length counts
    → length costs ≡ length counts → k < length counts
    → raised_counts scale counts lengths costs ≡ counts
    → raised scale (get_or counts k 0) (get_or lengths k 0) (get_or costs k 0) ≡ get_or counts k 0
raised-none scale counts lengths costs k same as_many within none =
    let count_at = slice_get-get_or counts k 0 within in
    let most_at = slice_get-get_or lengths k 0 (omega arith) in
    let cost_at = slice_get-get_or costs k 0 (omega arith) in
    let old =
    raised-get scale counts lengths costs k (get_or counts k 0)
    (ap (λ (ks : List ℕ). slice_get ks k) none ∙ count_at) in
    let count : old.count ≡ get_or counts k 0 = same_Some old.count (get_or counts k 0) (sym old.count_at ∙ count_at) in
    let most : old.most ≡ get_or lengths k 0 = same_Some old.most (get_or lengths k 0) (sym old.most_at ∙ most_at) in
    let cost : old.cost ≡ get_or costs k 0 = same_Some old.cost (get_or costs k 0) (sym old.cost_at ∙ cost_at) in
    sym (old.is ∙ ap (λ (n : ℕ). raised scale n old.most old.cost) count
    ∙ ap (λ (n : ℕ). raised scale (get_or counts k 0) n old.cost) most
    ∙ ap (λ (n : ℕ). raised scale (get_or counts k 0) (get_or lengths k 0) n) cost)

-- more come next
next-more : (count : ℕ) → 0 < count → count < next_count count
unfolding next_count
next-more count above =
    cond_both (eqb count 1) 2 (4 * count) (λ (n : ℕ). count < n) (λ one. let is = eqb-true count 1 one in omega arith)
    (λ more. omega arith)

-- a count stays, or the list goes on and costs enough
record Stays (scale : Scale) (count most cost : ℕ) : Type 0 where
  is : raised scale count most cost ≡ count
  small : count < most → is_small scale cost ≡ true

record Rises (scale : Scale) (count most cost : ℕ) : Type 0 where
  is : raised scale count most cost ≡ min (next_count count) most
  more : count < most
  large : is_small scale cost ≡ false

raised-cases : (scale : Scale) (count most cost : ℕ) → Stays scale count most cost ⊎ Rises scale count most cost
raised-cases scale count most cost =
    elim (cases_lt count most) [
      | inl more ↦ elim (cases_Bool (is_small scale cost)) [
        | inl small ↦ inl
            (record {
              is = chosen (nat_lt count most) (is_small scale cost) (lt-ltb count most more)
                  ∙ ap (λ (b : Bool). cond {A = ℕ} (not b) (min (next_count count) most) count) small;
              small = λ less. small;
            })
        | inr large ↦ inr
            (record {
              is = chosen (nat_lt count most) (is_small scale cost) (lt-ltb count most more)
                  ∙ ap (λ (b : Bool). cond {A = ℕ} (not b) (min (next_count count) most) count) large;
              more = more;
              large = large;
            })
      ]
      | inr all ↦ inl
          (record {
            is = ap
                (λ (b : Bool). cond {A = ℕ} (b && not (is_small scale cost)) (min (next_count count) most) count)
                (no_less all);
            small = λ less. absurd (omega arith);
          })
    ]
  where
    chosen : (b small : Bool) → b ≡ true
        → cond {A = ℕ} (b && not small) (min (next_count count) most) count
        ≡ cond {A = ℕ} (not small) (min (next_count count) most) count
    chosen true small is = refl
    chosen false small is = absurd (both_ways false refl is)

    no_less : most ≤ count → nat_lt count most ≡ false
    no_less all =
        elim (cases_Bool (nat_lt count most))
        [ inl is ↦ let less = ltb-true count most is in absurd (omega arith) | inr is ↦ is ]

-- the counts, where a function's slices have these values
pub raised-from : (scale : Scale) (whole shape : List (List ℕ))
    (counts lengths shared costs first second third more : List ℕ)
    → lengths ≡ map length whole → shape ≡ cut_lists counts whole → shared ≡ map (equal_cost shape costs) shape
    → first ≡ counts → second ≡ lengths → third ≡ shared → more ≡ raised_counts scale first second third
    → more
    ≡ raised_counts scale counts (map length whole)
    (map (equal_cost (cut_lists counts whole) costs) (cut_lists counts whole))
raised-from scale whole shape counts lengths shared costs first second third more lengths_are shape_is shared_are one
    two three is =
    is
    ∙ ap (λ (ks : List ℕ). raised_counts scale ks second third) one
    ∙ ap (λ (ls : List ℕ). raised_counts scale counts ls third) (two ∙ lengths_are)
    ∙ ap (λ (cs : List ℕ). raised_counts scale counts (map length whole) cs)
    (three ∙ shared_are ∙ ap (λ (lists : List (List ℕ)). map (equal_cost lists costs) lists) shape_is)

-- a raised count isn't 0
pub raised-some : (scale : Scale) (counts lengths costs : List ℕ)
    → ((k count : ℕ) → slice_get counts k ≡ Some count → 0 < count)
    → (k count : ℕ) → slice_get (raised_counts scale counts lengths costs) k ≡ Some count → 0 < count
raised-some scale counts lengths costs some k new at =
    let old = raised-get scale counts lengths costs k new at in
    let above = some k old.count old.count_at in
    let same = old.is in
    elim (raised-cases scale old.count old.most old.cost) [
      | inl stays ↦ let is = stays.is in omega arith
      | inr rises ↦ let is = rises.is in let more = rises.more in let next = next-more old.count above in omega arith
    ]

-- what the counts of lists are, with their lengths and what those cost that end as they do
lengths-get : (whole : List (List ℕ)) (k : ℕ) (list : List ℕ) → slice_get whole k ≡ Some list
    → slice_get (map length whole) k ≡ Some (length list)
lengths-get [] k list at = absurd (none-some list at)
lengths-get (x ∷ whole) zero list at = ap (λ (xs : List ℕ). Some (length xs)) (same_Some x list at)
lengths-get (x ∷ whole) (suc k) list at = lengths-get whole k list at

shared-get : (f : List ℕ → ℕ) (lists : List (List ℕ)) (k : ℕ) (list : List ℕ) → slice_get lists k ≡ Some list
    → slice_get (map f lists) k ≡ Some (f list)
shared-get f [] k list at = absurd (none-some list at)
shared-get f (x ∷ lists) zero list at = ap (λ (xs : List ℕ). Some (f xs)) (same_Some x list at)
shared-get f (x ∷ lists) (suc k) list at = shared-get f lists k list at

-- lists that are cut alike are made longer alike
pub raised-alike : (scale : Scale) (whole : List (List ℕ)) (counts costs : List ℕ)
    → ((k count : ℕ) → slice_get counts k ≡ Some count → 0 < count) → AreCutAlike whole counts
    → AreCutAlike whole
    (raised_counts scale counts (map length whole)
    (map (equal_cost (cut_lists counts whole) costs) (cut_lists counts whole)))
raised-alike scale whole counts costs some alike = λ s t count' other' list begins s_at t_at count_at other_at cut same.
    let f : List ℕ → ℕ = equal_cost (cut_lists counts whole) costs in
    let one = raised-get scale counts (map length whole) (map f (cut_lists counts whole)) s count' count_at in
    let two = raised-get scale counts (map length whole) (map f (cut_lists counts whole)) t other' other_at in
    let most : one.most ≡ length list =
    same_Some one.most (length list) (sym one.most_at ∙ lengths-get whole s list s_at) in
    let most' : two.most ≡ length begins =
    same_Some two.most (length begins) (sym two.most_at ∙ lengths-get whole t begins t_at) in
    let cost : one.cost ≡ f (take one.count list) =
    same_Some one.cost (f (take one.count list))
    (sym one.cost_at
    ∙ shared-get f (cut_lists counts whole) s (take one.count list)
    (cut-get counts whole s one.count list one.count_at s_at)) in
    let cost' : two.cost ≡ f (take two.count begins) =
    same_Some two.cost (f (take two.count begins))
    (sym two.cost_at
    ∙ shared-get f (cut_lists counts whole) t (take two.count begins)
    (cut-get counts whole t two.count begins two.count_at t_at)) in
    let above = some s one.count one.count_at in
    let is = one.is in
    let is' = two.is in
    elim (raised-cases scale one.count one.most one.cost) [
      | inl stays ↦
          let stay = stays.is in
          let same_now : take one.count begins ≡ take one.count list =
          subst (λ (n : ℕ). take n begins ≡ take n list) (let e : count' ≡ one.count = omega arith in e) same in
          let counts_same : two.count ≡ one.count =
          alike s t one.count two.count list begins s_at t_at one.count_at two.count_at (omega arith) same_now in
          let costs_same : two.cost ≡ one.cost =
          cost' ∙ ap (λ (n : ℕ). f (take n begins)) counts_same ∙ ap f same_now ∙ sym cost in
          elim (raised-cases scale two.count two.most two.cost) [
            | inl stays' ↦ let stay' = stays'.is in omega arith
            | inr rises' ↦ absurd
                (both_ways (is_small scale one.cost) (ap (λ (n : ℕ). is_small scale n) (sym costs_same) ∙ rises'.large)
                (stays.small (omega arith)))
          ]
      | inr rises ↦
          let rise = rises.is in
          let more = rises.more in
          let next = next-more one.count above in
          let further : count' ≡ next_count one.count = omega arith in
          let same_now : take one.count begins ≡ take one.count list =
          sym (take-take one.count count' begins (omega arith)) ∙ ap (λ (xs : List ℕ). take one.count xs) same
          ∙ take-take one.count count' list (omega arith) in
          let counts_same : two.count ≡ one.count =
          alike s t one.count two.count list begins s_at t_at one.count_at two.count_at (omega arith) same_now in
          let costs_same : two.cost ≡ one.cost =
          cost' ∙ ap (λ (n : ℕ). f (take n begins)) counts_same ∙ ap f same_now ∙ sym cost in
          let long = ap (λ (xs : List ℕ). length xs) same in
          let first = length-take count' begins in
          let second = length-take count' list in
          elim (raised-cases scale two.count two.most two.cost) [
            | inl stays' ↦ absurd
                (both_ways (is_small scale one.cost) rises.large
                (ap (λ (n : ℕ). is_small scale n) (sym costs_same) ∙ stays'.small (omega arith)))
            | inr rises' ↦ let rise' = rises'.is in let next_same = ap next_count counts_same in omega arith
          ]
    ]

-- no fewer are left where nothing is raised, and else there are
pub raised-left : (scale : Scale) (counts lengths costs : List ℕ)
    → ((k count : ℕ) → slice_get counts k ≡ Some count → 0 < count) → length lengths ≡ length counts
    → length costs ≡ length counts
    → (raised_counts scale counts lengths costs ≡ counts)
    ⊎ (left (raised_counts scale counts lengths costs) lengths < left counts lengths)
unfolding raised_counts
raised-left scale [] lengths costs some same as_many = inl refl
raised-left scale (k ∷ counts) [] costs some same as_many = absurd (omega arith)
raised-left scale (k ∷ counts) (l ∷ lengths) [] some same as_many = absurd (omega arith)
raised-left scale (k ∷ counts) (l ∷ lengths) (c ∷ costs) some same as_many =
    let above = some 0 k refl in
    let next = next-more k above in
    elim (raised-left scale counts lengths costs (λ n count at. some (suc n) count at) (omega arith) (omega arith)) [
      | inl rest ↦
          let rests = ap (λ (ks : List ℕ). left ks lengths) rest in
          elim (raised-cases scale k l c) [
            | inl stays ↦ inl
                (ap (λ (n : ℕ). n ∷ raised_counts scale counts lengths costs) stays.is
                ∙ ap (λ (ks : List ℕ). k ∷ ks) rest)
            | inr rises ↦ let is = rises.is in let more = rises.more in inr (omega arith)
          ]
      | inr rest ↦ elim (raised-cases scale k l c) [
        | inl stays ↦ let is = stays.is in inr (omega arith)
        | inr rises ↦ let is = rises.is in let more = rises.more in inr (omega arith)
      ]
    ]

-- what costs no more than something small is small
pub less-small : (scale : Scale) (cost more : ℕ) → cost ≤ more → is_small scale more ≡ true → is_small scale cost ≡ true
less-small scale cost more within small =
    let less = ltb-true (10000 * more) (scale.threshold * scale.total) small in
    lt-ltb (10000 * cost) (scale.threshold * scale.total) (omega arith)

-- a front costs no more than the lists that are equal to it, where all that begin with it are cut there
front-within : (names front : List (List ℕ)) (list : List ℕ) (whole cut : List (List ℕ)) (costs : List ℕ)
    → length cut ≡ length whole
    → ((k : ℕ) (begins : List ℕ) → slice_get whole k ≡ Some begins → has_front front (texts_of names begins) ≡ true
    → slice_get cut k ≡ Some list)
    → inclusive front (costed (lists_of names whole) costs) ≤ equal_cost cut costs list
unfolding costed equal_cost inclusive
front-within names front list [] cut costs same ends = omega arith
front-within names front list (x ∷ whole) [] costs same ends = absurd (omega arith)
front-within names front list (x ∷ whole) (y ∷ cut) [] same ends = omega arith
front-within names front list (x ∷ whole) (y ∷ cut) (c ∷ costs) same ends =
    let first : Costed = record { texts = texts_of names x; cost = c } in
    let sums = inclusive-cons front first (costed (lists_of names whole) costs) in
    let rest =
    front-within names front list whole cut costs (omega arith) (λ k begins at has. ends (suc k) begins at has) in
    elim (cases_Bool (has_front front (texts_of names x))) [
      | inl has ↦
          let end : y ≡ list = same_Some y list (ends 0 x refl has) in
          let here = ap (λ (b : Bool). cond {A = ℕ} b c 0) has in
          let there = ap (λ (b : Bool). cond {A = ℕ} b c 0) ((bytes_eq-Decides y list).1 end) in
          omega arith
      | inr other ↦
          let here = ap (λ (b : Bool). cond {A = ℕ} b c 0) other in
          omega arith
    ]

-- a list that a list of texts is made of
record IsTextsOf (names : List (List ℕ)) (whole : List (List ℕ)) (k : ℕ) (texts : List (List ℕ)) : Type 0 where
  list : List ℕ
  list_at : slice_get whole k ≡ Some list
  named : All (IsText names) list
  is : texts ≡ texts_of names list

texts-get : (names whole : List (List ℕ)) (k : ℕ) (texts : List (List ℕ)) → AreTexts names whole
    → slice_get (lists_of names whole) k ≡ Some texts → IsTextsOf names whole k texts
texts-get names [] k texts named at = absurd (none-some texts at)
texts-get names (x ∷ whole) zero texts named at =
    record {
      list = x;
      list_at = refl;
      named = All-head (All (IsText names)) x whole named;
      is = sym (same_Some (texts_of names x) texts at);
    }
texts-get names (x ∷ whole) (suc k) texts named at =
    let rest = texts-get names whole k texts (All-tail (All (IsText names)) x whole named) at in
    record { list = rest.list; list_at = rest.list_at; named = rest.named; is = rest.is }

named-get : (names whole : List (List ℕ)) (k : ℕ) (list : List ℕ) → AreTexts names whole → slice_get whole k ≡ Some list
    → All (IsText names) list
named-get names [] k list named at = absurd (none-some list at)
named-get names (x ∷ whole) zero list named at =
    subst (All (IsText names)) (same_Some x list at) (All-head (All (IsText names)) x whole named)
named-get names (x ∷ whole) (suc k) list named at =
    named-get names whole k list (All-tail (All (IsText names)) x whole named) at

-- lists whose texts begin with those of a list that is cut are cut there
begun-cut : (names whole : List (List ℕ)) (counts : List ℕ) (k count : ℕ) (list : List ℕ) → AreCutAlike whole counts
    → length counts ≡ length whole → AreDistinct names → AreTexts names whole
    → slice_get whole k ≡ Some list → slice_get counts k ≡ Some count → count < length list
    → (j : ℕ) (begins : List ℕ) → slice_get whole j ≡ Some begins
    → has_front (texts_of names (take count list)) (texts_of names begins) ≡ true
    → slice_get (cut_lists counts whole) j ≡ Some (take count list)
begun-cut names whole counts k count list alike as_many distinct named list_at count_at cut j begins begins_at has =
    let front : List (List ℕ) = texts_of names (take count list) in
    let long = length-map (take count list) (text_of names) in
    let first = length-take count list in
    let same_texts : front ≡ texts_of names (take count begins) =
    (has_front-Decides front (texts_of names begins)).0 has
    ∙ ap (λ (n : ℕ). take n (texts_of names begins)) (let e : length front ≡ count = omega arith in e)
    ∙ take-map (text_of names) count begins in
    let same : take count list ≡ take count begins =
    texts-same names (take count list) (take count begins) distinct
    (All-take (IsText names) count list (named-get names whole k list named list_at))
    (All-take (IsText names) count begins (named-get names whole j begins named begins_at)) same_texts in
    let within = slice_get_within whole j begins begins_at in
    let other : ℕ = get_or counts j 0 in
    let other_at : slice_get counts j ≡ Some other = slice_get-get_or counts j 0 (omega arith) in
    let counts_same : other ≡ count =
    alike k j count other list begins list_at begins_at count_at other_at cut (sym same) in
    cut-get counts whole j other begins other_at begins_at ∙ ap (λ (n : ℕ). Some (take n begins)) counts_same
    ∙ ap (λ (xs : List ℕ). Some xs) (sym same)

-- where nothing is raised, the counts are enough
pub raised-enough : (scale : Scale) (names whole : List (List ℕ)) (counts costs : List ℕ)
    → ((k count : ℕ) → slice_get counts k ≡ Some count → 0 < count) → AreCutAlike whole counts
    → length counts ≡ length whole
    → raised_counts scale counts (map length whole)
    (map (equal_cost (cut_lists counts whole) costs) (cut_lists counts whole))
    ≡ counts
    → AreDistinct names → AreTexts names whole
    → (depth : ℕ) → AreEnough depth scale (costed (lists_of names whole) costs) (lists_of names whole) counts
raised-enough scale names whole counts costs some alike as_many none distinct named depth = record {
  count = as_many ∙ sym (length-map whole (texts_of names));
  each = λ k count texts texts_at count_at.
      let of = texts-get names whole k texts named texts_at in
      subst (λ (ts : List (List ℕ)). IsEnough depth scale stacks ts count) (sym of.is) (record {
        some = λ less. some k count count_at;
        rest =
            λ less. inr
            (small k count of.list of.list_at count_at (let long = length-map of.list (text_of names) in omega arith));
      });
}
  where
    stacks : List Costed
    stacks = costed (lists_of names whole) costs

    f : List ℕ → ℕ
    f = equal_cost (cut_lists counts whole) costs

    small : (k count : ℕ) (list : List ℕ) → slice_get whole k ≡ Some list → slice_get counts k ≡ Some count
        → count < length list → is_small scale (cost_of stacks (take count (texts_of names list))) ≡ true
    small k count list list_at count_at cut =
        let raised_at =
        raised-get scale counts (map length whole) (map f (cut_lists counts whole)) k count
        (ap (λ (ks : List ℕ). slice_get ks k) none ∙ count_at) in
        let counts_same : raised_at.count ≡ count =
        same_Some raised_at.count count (sym raised_at.count_at ∙ count_at) in
        let most : raised_at.most ≡ length list =
        same_Some raised_at.most (length list) (sym raised_at.most_at ∙ lengths-get whole k list list_at) in
        let cost : raised_at.cost ≡ f (take count list) =
        same_Some raised_at.cost (f (take count list))
        (sym raised_at.cost_at
        ∙ shared-get f (cut_lists counts whole) k (take count list)
        (cut-get counts whole k count list count_at list_at)) in
        let is = raised_at.is in
        let above = some k count count_at in
        let same = cut-count counts whole as_many in
        let within =
        front-within names (texts_of names (take count list)) (take count list) whole (cut_lists counts whole) costs
        same
        (begun-cut names whole counts k count list alike as_many distinct named list_at count_at cut) in
        let front = take-map (text_of names) count list in
        elim (raised-cases scale raised_at.count raised_at.most raised_at.cost) [
          | inl stays ↦
              ap (λ (ts : List (List ℕ)). is_small scale (cost_of stacks ts)) front
              ∙ less-small scale (cost_of stacks (texts_of names (take count list))) (f (take count list)) within
              (ap (λ (n : ℕ). is_small scale n) (sym cost) ∙ stays.small (omega arith))
          | inr rises ↦ let rise =
              rises.is in let more =
              rises.more in let next = next-more raised_at.count (omega arith) in absurd (omega arith)
        ]

-- what lists cost that end at a node, and one more
pub ended-push : (ends costs : List ℕ) (end cost node : ℕ) → length costs ≡ length ends
    → ended_cost (ends ++ end ∷ []) (costs ++ cost ∷ []) node
    ≡ ended_cost ends costs node + cond {A = ℕ} (eqb end node) cost 0
unfolding ended_cost
ended-push [] [] end cost node same = omega arith
ended-push [] (c ∷ costs) end cost node same = absurd (omega arith)
ended-push (e ∷ ends) [] end cost node same = absurd (omega arith)
ended-push (e ∷ ends) (c ∷ costs) end cost node same =
    let rest = ended-push ends costs end cost node (omega arith) in omega arith

-- they cost no more than all
pub ended-within : (ends costs : List ℕ) (node : ℕ) → ended_cost ends costs node ≤ sum costs
unfolding ended_cost
ended-within [] costs node = omega arith
ended-within (e ∷ ends) [] node = omega arith
ended-within (e ∷ ends) (c ∷ costs) node =
    let rest = ended-within ends costs node in
    let whole = sum_by-cons (λ (n : ℕ). n) c costs in
    let here = by_flag (eqb e node) in
    omega arith
  where
    by_flag : (b : Bool) → cond {A = ℕ} b c 0 ≤ c
    by_flag true = omega arith
    by_flag false = omega arith

-- they are the lists that are equal to the node's
ended-equal : (edges : List Edge) (ends costs : List ℕ) (node : ℕ)
    → AreSteps (λ number. number) edges (numbers_of edges) → All (λ end. end ≤ length edges) ends → node ≤ length edges
    → ended_cost ends costs node ≡ equal_cost (lists_in edges ends) costs (list_at edges node)
unfolding ended_cost equal_cost
ended-equal edges [] costs node steps held within = refl
ended-equal edges (e ∷ ends) [] node steps held within = refl
ended-equal edges (e ∷ ends) (c ∷ costs) node steps held within =
    let rest = ended-equal edges ends costs node steps (All-tail (λ end. end ≤ length edges) e ends held) within in
    let first = All-head (λ end. end ≤ length edges) e ends held in
    let count = steps.count in
    let at : slice_get (numbers_of edges) e ≡ Some (list_at edges e) =
    slice_get-get_or (numbers_of edges) e [] (omega arith) in
    let node_at : slice_get (numbers_of edges) node ≡ Some (list_at edges node) =
    slice_get-get_or (numbers_of edges) node [] (omega arith) in
    let test : bytes_eq (list_at edges e) (list_at edges node) ≡ eqb e node =
    same_from_decides (bytes_eq (list_at edges e) (list_at edges node)) (eqb e node)
    (bytes_eq-Decides (list_at edges e) (list_at edges node)) (
      (λ is. ap (λ (n : ℕ). list_at edges n) (eqb-true e node is)),
      (λ same. eq-eqb e node
          (steps.distinct e node (list_at edges node) (at ∙ ap (λ (xs : List ℕ). Some xs) same) node_at)),
    ) in
    ap (λ (b : Bool). cond {A = ℕ} b c 0 + ended_cost ends costs node) (sym test)
    ∙ ap (λ (n : ℕ). cond {A = ℕ} (bytes_eq (list_at edges e) (list_at edges node)) c 0 + n) rest

-- so what stands at the ends of lists is what those cost that are equal to each
pub shared-are : (edges : List Edge) (ends costs sums : List ℕ) → AreSteps (λ number. number) edges (numbers_of edges)
    → All (λ end. end ≤ length edges) ends
    → ((node : ℕ) → node < length edges + 1 → slice_index sums node ≡ ended_cost ends costs node)
    → map (slice_index sums) ends ≡ map (equal_cost (lists_in edges ends) costs) (lists_in edges ends)
shared-are edges ends costs sums steps held are = each ends held
  where
    each : (some : List ℕ) → All (λ end. end ≤ length edges) some
        → map (slice_index sums) some ≡ map (equal_cost (lists_in edges ends) costs) (lists_in edges some)
    each [] within = refl
    each (e ∷ some) within =
        let first = All-head (λ end. end ≤ length edges) e some within in
        ap (λ (n : ℕ). n ∷ map (slice_index sums) some)
        (are e (omega arith) ∙ ended-equal edges ends costs e steps held first)
        ∙ ap (λ (ns : List ℕ). equal_cost (lists_in edges ends) costs (list_at edges e) ∷ ns)
        (each some (All-tail (λ end. end ≤ length edges) e some within))

-- what a function gives of the first elements, and of one more
pub map-more : {X Y : Type 0} (f : X → Y) (xs : List X) (i : ℕ) (d : X) (before : List Y) (y : Y) → i < length xs
    → before ≡ map f (take i xs) → y ≡ f (get_or xs i d) → before ++ y ∷ [] ≡ map f (take (i + 1) xs)
map-more {X} {Y} f xs i d before y within are is =
    ap (λ (ys : List Y). ys ++ y ∷ []) are
    ∙ ap (λ (z : Y). map f (take i xs) ++ z ∷ []) is
    ∙ sym (map-append f (take i xs) (get_or xs i d ∷ []))
    ∙ ap (λ (ys : List X). map f ys) (sym (take_more xs i d within))

-- one list, count and cost more
pub cut-start : {X : Type 0} → cut_lists {X = X} [] [] ≡ []
unfolding cut_lists
cut-start = refl

pub raised-start : (scale : Scale) → raised_counts scale [] [] [] ≡ []
unfolding raised_counts
raised-start scale = refl

pub ended-start : (node : ℕ) → ended_cost [] [] node ≡ 0
unfolding ended_cost
ended-start node = refl

pub cut-more : {X : Type 0} (counts : List ℕ) (lists : List (List X)) (i : ℕ) (before : List (List X))
    → length counts ≡ length lists → i < length lists → before ≡ cut_lists (take i counts) (take i lists)
    → before ++ take (get_or counts i 0) (get_or lists i []) ∷ [] ≡ cut_lists (take (i + 1) counts) (take (i + 1) lists)
cut-more {X} counts lists i before same within are =
    let one = length-take i counts in
    let two = length-take i lists in
    ap (λ (ls : List (List X)). ls ++ take (get_or counts i 0) (get_or lists i []) ∷ []) are
    ∙ sym (cut-push (take i counts) (take i lists) (get_or counts i 0) (get_or lists i []) (omega arith))
    ∙ ap (λ (ks : List ℕ). cut_lists ks (take i lists ++ get_or lists i [] ∷ []))
    (sym (take_more counts i 0 (omega arith)))
    ∙ ap (λ (ls : List (List X)). cut_lists (take (i + 1) counts) ls) (sym (take_more lists i [] within))

pub raised-more : (scale : Scale) (counts lengths costs : List ℕ) (i : ℕ) (before : List ℕ)
    → length lengths ≡ length counts → length costs ≡ length counts → i < length counts
    → before ≡ raised_counts scale (take i counts) (take i lengths) (take i costs)
    → before ++ raised scale (get_or counts i 0) (get_or lengths i 0) (get_or costs i 0) ∷ []
    ≡ raised_counts scale (take (i + 1) counts) (take (i + 1) lengths) (take (i + 1) costs)
raised-more scale counts lengths costs i before same as_many within are =
    let one = length-take i counts in
    let two = length-take i lengths in
    let three = length-take i costs in
    ap (λ (ks : List ℕ). ks ++ raised scale (get_or counts i 0) (get_or lengths i 0) (get_or costs i 0) ∷ []) are
    ∙ sym (raised-push scale (take i counts) (take i lengths) (take i costs) (get_or counts i 0) (get_or lengths i 0)
    (get_or costs i 0) (omega arith) (omega arith))
    ∙ ap (λ (ks : List ℕ). raised_counts scale ks (take i lengths ++ get_or lengths i 0 ∷ [])
    (take i costs ++ get_or costs i 0 ∷ [])) (sym
    (take_more counts i 0 within))
    ∙ ap (λ (ls : List ℕ). raised_counts scale (take (i + 1) counts) ls (take i costs ++ get_or costs i 0 ∷ []))
    (sym (take_more lengths i 0 (omega arith)))
    ∙ ap (λ (cs : List ℕ). raised_counts scale (take (i + 1) counts) (take (i + 1) lengths) cs)
    (sym (take_more costs i 0 (omega arith)))

pub ended-more : (ends costs : List ℕ) (i node : ℕ) → length costs ≡ length ends → i < length ends
    → ended_cost (take (i + 1) ends) (take (i + 1) costs) node
    ≡ ended_cost (take i ends) (take i costs) node + cond {A = ℕ} (eqb (get_or ends i 0) node) (get_or costs i 0) 0
ended-more ends costs i node same within =
    let one = length-take i ends in
    let two = length-take i costs in
    ap (λ (es : List ℕ). ended_cost es (take (i + 1) costs) node) (take_more ends i 0 within)
    ∙ ap (λ (cs : List ℕ). ended_cost (take i ends ++ get_or ends i 0 ∷ []) cs node) (take_more costs i 0 (omega arith))
    ∙ ended-push (take i ends) (take i costs) (get_or ends i 0) (get_or costs i 0) node (omega arith)

-- the sum at a node has room for the cost of the next list
pub ended-room : (ends costs : List ℕ) (i : ℕ) → length costs ≡ length ends → i < length ends
    → ended_cost (take i ends) (take i costs) (get_or ends i 0) + get_or costs i 0 ≤ sum costs
ended-room ends costs i same within =
    let e : ℕ = get_or ends i 0 in
    let more = ended-more ends costs i e same within in
    let itself = ap (λ (b : Bool). cond {A = ℕ} b (get_or costs i 0) 0) (eq-eqb e e refl) in
    let most = ended-within (take (i + 1) ends) (take (i + 1) costs) e in
    let all = sum_by-take-le (λ (n : ℕ). n) costs (i + 1) in
    omega arith

-- and has it then
pub ended-set : (sums ends costs : List ℕ) (i x : ℕ) → length costs ≡ length ends → i < length ends
    → get_or ends i 0 < length sums → x ≡ get_or sums (get_or ends i 0) 0
    → ((node : ℕ) → node < length sums → slice_index sums node ≡ ended_cost (take i ends) (take i costs) node)
    → (node : ℕ) → node < length sums
    → slice_index (set sums (get_or ends i 0) (x + get_or costs i 0)) node
    ≡ ended_cost (take (i + 1) ends) (take (i + 1) costs) node
ended-set sums ends costs i x same within end_within value are node node_within =
    let e : ℕ = get_or ends i 0 in
    let more = ended-more ends costs i node same within in
    let before = are node node_within in
    elim (cases_eq e node) [
      | inl is ↦
          let itself = ap (λ (b : Bool). cond {A = ℕ} b (get_or costs i 0) 0) (eq-eqb e node is) in
          let there : get_or (set sums e (x + get_or costs i 0)) node 0 ≡ x + get_or costs i 0 =
          get_or-set_at sums e node (x + get_or costs i 0) 0 (sym is) end_within in
          let old : x ≡ get_or sums node 0 = value ∙ ap (λ (n : ℕ). get_or sums n 0) is in
          omega arith
      | inr other ↦
          let apart = ap (λ (b : Bool). cond {A = ℕ} b (get_or costs i 0) 0) (ne_eqb e node other) in
          let there = get_or-set_other sums e node (x + get_or costs i 0) 0 (λ is. other (sym is)) in
          omega arith
    ]

pub zeros-none : (sums : List ℕ) (n node : ℕ) → sums ≡ replicate n 0 → node < n → slice_index sums node ≡ 0
zeros-none sums n node are within = ap (λ (xs : List ℕ). slice_index xs node) are ∙ get_or-replicate n node 0 0 within
