-- Lemmas on lists of numbers that go on with earlier ones.
use Rattle.std.proofs.Common.{◌≡◌, ℕ, suc, ◌+◌, ◌-◌, ◌^◌, ◌<◌, ◌≤◌, inl, inr, List, [], ◌∷◌, ◌++◌, drop, fold, length}
use Rattle.std.proofs.Common.{take, min, get_or, Option, None, Some, refl, sym, ap, ◌∙◌, subst, append_assoc}
use Rattle.std.proofs.Common.{length-append, arith}
use Rattle.std.specs.Prelude.{IfSome, slice_get}
use Rattle.std.specs.Option.{option_map_or}
use Rattle.std.proofs.lemmas.Bool.{cases_lt}
use Rattle.std.proofs.lemmas.List.{drop-append-le, drop_at, get_or_append_left, length-drop, length-take, length_push}
use Rattle.std.proofs.lemmas.List.{take-append-le, take-take, take_all, take_min}
use Rattle.std.proofs.lemmas.List.Sums.{fold_push}
use Rattle.std.proofs.lemmas.Option.{none-some, slice_get_within, slice_get-get_or, get_or_from_slice_get}
use Rattle.cost_tree.specs.declared.chain.Chain.{Chain}
use Rattle.cost_tree.specs.ChainLists.{AreChains, IsChain, chain_list, chain_lists, own_numbers}
use Rattle.cost_tree.specs.Following.{following}
use Rattle.cost_tree.proofs.Lists.{get-push_cases, get-push_new, get-push_old, take-both}

-- the first ones of one list that is cut are those of it whole
pub take-cut : {X : Type 0} (m n : ℕ) (xs : List X) → take m (take n xs) ≡ take (min m n) xs
take-cut m n xs = elim (cases_lt n m) [
  | inl less ↦
      let cut = length-take n xs in
      let least : min m n ≡ n = omega arith in
      take_all m (take n xs) (omega arith) ∙ ap (λ (k : ℕ). take k xs) (sym least)
  | inr no_less ↦
      let least : min m n ≡ m = omega arith in
      take-take m n xs no_less ∙ ap (λ (k : ℕ). take k xs) (sym least)
]

-- own numbers stay where others come behind them, and those that come are the last ones
own-kept : (numbers more : List ℕ) (chain : Chain) → chain.start ≤ chain.end → chain.end ≤ length numbers
    → own_numbers (numbers ++ more) chain ≡ own_numbers numbers chain
own-kept numbers more chain ordered within =
    let left = length-drop chain.start numbers in
    ap (λ (ns : List ℕ). take (chain.end - chain.start) ns) (drop-append-le chain.start numbers more (omega arith))
    ∙ take-append-le (chain.end - chain.start) (drop chain.start numbers) more (omega arith)

own-new : (numbers own : List ℕ) (chain : Chain) → chain.start ≡ length numbers
    → chain.end ≡ length numbers + length own → own_numbers (numbers ++ own) chain ≡ own
own-new numbers own chain start end =
    ap (λ (ns : List ℕ). take (chain.end - chain.start) ns) (drop_at numbers own chain.start (sym start))
    ∙ take_all (chain.end - chain.start) own (omega arith)

-- an earlier list stays where one comes behind it
pub following-kept : {X : Type 0} (lists : List (List X)) (list : List X) (next : Option ℕ)
    → IfSome next (λ k. k < length lists) → following (lists ++ list ∷ []) next ≡ following lists next
following-kept lists list None earlier = refl
following-kept lists list (Some k) earlier = get_or_append_left lists (list ∷ []) [] k earlier

pub earlier-still : (next : Option ℕ) (place count : ℕ) → place ≤ count → IfSome next (λ k. k < place)
    → IfSome next (λ k. k < count)
earlier-still None place count within earlier = earlier
earlier-still (Some k) place count within earlier = omega arith

-- the lists stay where numbers come behind theirs
abbrev step : List ℕ → List (List ℕ) → Chain → List (List ℕ)
step numbers lists chain = lists ++ chain_list numbers lists chain ∷ []

lists-from : (numbers more : List ℕ) (before : List (List ℕ)) (chains : List Chain)
    → ((place : ℕ) (chain : Chain) → slice_get chains place ≡ Some chain
    → (chain.start ≤ chain.end) × (chain.end ≤ length numbers))
    → fold (step (numbers ++ more)) before chains ≡ fold (step numbers) before chains
lists-from numbers more before [] are = refl
lists-from numbers more before (chain ∷ chains) are =
    let is = are 0 chain refl in
    let same : step (numbers ++ more) before chain ≡ step numbers before chain =
    ap (λ (own : List ℕ). before ++ take chain.count (own ++ following before chain.next) ∷ [])
    (own-kept numbers more chain is.0 is.1) in
    ap (λ (lists : List (List ℕ)). fold (step (numbers ++ more)) lists chains) same
    ∙ lists-from numbers more (step numbers before chain) chains
    (λ place other at. are (place + 1) other (later place other at))
  where
    later : (place : ℕ) (other : Chain) → slice_get chains place ≡ Some other
        → slice_get (chain ∷ chains) (place + 1) ≡ Some other
    later place other at =
        let next : place + 1 ≡ suc place = omega arith in
        ap (λ (k : ℕ). slice_get (chain ∷ chains) k) next ∙ at

lists-kept : (numbers more : List ℕ) (chains : List Chain) → AreChains numbers chains (chain_lists numbers chains)
    → chain_lists (numbers ++ more) chains ≡ chain_lists numbers chains
unfolding chain_lists
lists-kept numbers more chains are =
    lists-from numbers more [] chains (λ place chain at. let is = are.each place chain at in (is.ordered, is.within))

-- a list more
lists-push : (numbers : List ℕ) (chains : List Chain) (chain : Chain)
    → chain_lists numbers (chains ++ chain ∷ [])
    ≡ chain_lists numbers chains ++ chain_list numbers (chain_lists numbers chains) chain ∷ []
unfolding chain_lists
lists-push numbers chains chain = fold_push (step numbers) [] chains chain

-- a list stays where numbers and a list come behind it
IsChain-kept : (numbers more : List ℕ) (lists : List (List ℕ)) (list : List ℕ) (place : ℕ) (chain : Chain)
    → IsChain numbers lists place chain → IsChain (numbers ++ more) (lists ++ list ∷ []) place chain
IsChain-kept numbers more lists list place chain is =
    let inside = slice_get_within lists place (chain_list numbers lists chain) is.list in
    let same : chain_list (numbers ++ more) (lists ++ list ∷ []) chain ≡ chain_list numbers lists chain =
    ap (λ (own : List ℕ). take chain.count (own ++ following (lists ++ list ∷ []) chain.next))
    (own-kept numbers more chain is.ordered is.within)
    ∙ ap (λ (rest : List ℕ). take chain.count (own_numbers numbers chain ++ rest))
    (following-kept lists list chain.next (earlier-still chain.next place (length lists) (omega arith) is.earlier)) in
    let longer = length-append numbers more in
    let within = is.within in
    record {
      ordered = is.ordered;
      within = omega arith;
      earlier = is.earlier;
      list =
          get-push_old lists list place (chain_list numbers lists chain) is.list
          ∙ ap (λ (ns : List ℕ). Some ns) (sym same);
      counted = ap (λ (ns : List ℕ). length ns) same ∙ is.counted;
    }

-- the lists with one more, of these own numbers before an earlier list, of at most so many
pub record HasChained (numbers own : List ℕ) (chains : List Chain) (chain : Chain) (most : ℕ) : Type 0 where
  pub lists : chain_lists (numbers ++ own) (chains ++ chain ∷ [])
      ≡ chain_lists numbers chains ++ take most (own ++ following (chain_lists numbers chains) chain.next) ∷ []
  pub are : AreChains (numbers ++ own) (chains ++ chain ∷ []) (chain_lists (numbers ++ own) (chains ++ chain ∷ []))

pub chained : (numbers own : List ℕ) (chains : List Chain) (chain : Chain) (most : ℕ)
    → AreChains numbers chains (chain_lists numbers chains) → chain.start ≡ length numbers
    → chain.end ≡ length numbers + length own
    → IfSome chain.next (λ k. k < length (chain_lists numbers chains))
    → chain.count ≡ min most (length own + length (following (chain_lists numbers chains) chain.next))
    → length chains < 2 ^ 32 - 1
    → HasChained numbers own chains chain most
chained numbers own chains chain most are start end earlier count few =
    let lists : List (List ℕ) = chain_lists numbers chains in
    let all : List ℕ = own ++ following lists chain.next in
    let list : List ℕ = chain_list (numbers ++ own) lists chain in
    let together = length-append own (following lists chain.next) in
    let least : chain.count ≡ min most (length all) = omega arith in
    let list_is : list ≡ take chain.count all =
    ap (λ (ns : List ℕ). take chain.count (ns ++ following lists chain.next)) (own-new numbers own chain start end) in
    let cut : list ≡ take most all = list_is ∙ ap (λ (k : ℕ). take k all) least ∙ take_min most all in
    let now : chain_lists (numbers ++ own) (chains ++ chain ∷ []) ≡ lists ++ list ∷ [] =
    lists-push (numbers ++ own) chains chain
    ∙ ap (λ (ls : List (List ℕ)). ls ++ chain_list (numbers ++ own) ls chain ∷ [])
    (lists-kept numbers own chains are) in
    let chains_more = length_push chains chain in
    let lists_more = length_push lists list in
    let as_many = are.as_many in
    let long = length-append numbers own in
    record {
      lists = now ∙ ap (λ (ns : List ℕ). lists ++ ns ∷ []) cut;
      are = subst (λ (ls : List (List ℕ)). AreChains (numbers ++ own) (chains ++ chain ∷ []) ls) (sym now) (record {
        as_many = omega arith;
        each = λ place other at. elim (get-push_cases chains chain place other at) [
          | inl old ↦ IsChain-kept numbers own lists list place other (are.each place other old)
          | inr new ↦ subst (λ (c : Chain). IsChain (numbers ++ own) (lists ++ list ∷ []) place c) (sym new.1)
              (last place (new.0 ∙ sym as_many) list_is least)
        ];
        few = omega arith;
      });
    }
  where
    last : (place : ℕ) → place ≡ length (chain_lists numbers chains)
        → chain_list (numbers ++ own) (chain_lists numbers chains) chain
        ≡ take chain.count (own ++ following (chain_lists numbers chains) chain.next)
        → chain.count ≡ min most (length (own ++ following (chain_lists numbers chains) chain.next))
        → IsChain (numbers ++ own)
        (chain_lists numbers chains ++ chain_list (numbers ++ own) (chain_lists numbers chains) chain ∷ []) place chain
    last place is list_is least =
        let lists : List (List ℕ) = chain_lists numbers chains in
        let list : List ℕ = chain_list (numbers ++ own) lists chain in
        let same : chain_list (numbers ++ own) (lists ++ list ∷ []) chain ≡ list =
        ap (λ (rest : List ℕ). take chain.count (own_numbers (numbers ++ own) chain ++ rest))
        (following-kept lists list chain.next earlier) in
        let long = length-append numbers own in
        let all : List ℕ = own ++ following lists chain.next in
        let taken = length-take chain.count all in
        record {
          ordered = omega arith;
          within = omega arith;
          earlier = subst (λ (k : ℕ). IfSome chain.next (λ n. n < k)) (sym is) earlier;
          list =
              ap (λ (k : ℕ). slice_get (lists ++ list ∷ []) k) is ∙ get-push_new lists list
              ∙ ap (λ (ns : List ℕ). Some ns) (sym same);
          counted = ap (λ (ns : List ℕ). length ns) (same ∙ list_is) ∙ omega arith;
        }

-- what is left of a list is the first of its own numbers, and what is left of the list that it goes on with
pub list-left : (numbers : List ℕ) (chains : List Chain) (list left : ℕ) (chain : Chain)
    → AreChains numbers chains (chain_lists numbers chains) → slice_get chains list ≡ Some chain
    → take left (get_or (chain_lists numbers chains) list [])
    ≡ take (min left chain.count) (own_numbers numbers chain)
    ++ take (min left chain.count - length (own_numbers numbers chain))
    (following (chain_lists numbers chains) chain.next)
list-left numbers chains list left chain are at =
    let lists : List (List ℕ) = chain_lists numbers chains in
    let own : List ℕ = own_numbers numbers chain in
    let is = are.each list chain at in
    ap (λ (ns : List ℕ). take left ns) (get_or_from_slice_get lists list (chain_list numbers lists chain) [] is.list)
    ∙ take-cut left chain.count (own ++ following lists chain.next)
    ∙ take-both (min left chain.count) own (following lists chain.next)

-- the next list is held
pub record IsRead (numbers : List ℕ) (chains : List Chain) (list : ℕ) (chain : Chain) : Type 0 where
  pub at : slice_get chains list ≡ Some chain
  pub is : IsChain numbers (chain_lists numbers chains) list chain
  pub within : list < length chains

pub chain-read : (numbers : List ℕ) (chains : List Chain) (next : Option ℕ) (list : ℕ) (nowhere : Chain)
    → AreChains numbers chains (chain_lists numbers chains) → next ≡ Some list → IfSome next (λ k. k < length chains)
    → IsRead numbers chains list (get_or chains list nowhere)
chain-read numbers chains next list nowhere are is held =
    let within : list < length chains = subst (λ (n : Option ℕ). IfSome n (λ k. k < length chains)) is held in
    let at = slice_get-get_or chains list nowhere within in
    record { at = at; is = are.each list (get_or chains list nowhere) at; within = within }

-- so where these are read, the next list is that one
pub left-more : (numbers : List ℕ) (chains : List Chain) (list left first more : ℕ) (chain : Chain) (next : Option ℕ)
    (own out new whole : List ℕ)
    → AreChains numbers chains (chain_lists numbers chains) → slice_get chains list ≡ Some chain
    → next ≡ Some list → own ≡ own_numbers numbers chain → first ≡ min left chain.count → more ≡ first - length own
    → new ≡ out ++ take first own
    → out ++ take left (following (chain_lists numbers chains) next) ≡ whole
    → new ++ take more (following (chain_lists numbers chains) chain.next) ≡ whole
left-more numbers chains list left first more chain next own out new whole are at next_is own_is first_is more_is new_is
    was =
    let lists : List (List ℕ) = chain_lists numbers chains in
    let rest : List ℕ = following lists chain.next in
    ap (λ (ns : List ℕ). ns ++ take more rest) new_is
    ∙ append_assoc out (take first own) (take more rest)
    ∙ ap (λ (ns : List ℕ). out ++ ns)
    (ap (λ (k : ℕ). take first own ++ take k rest) more_is
    ∙ ap (λ (ns : List ℕ). take first ns ++ take (first - length ns) rest) own_is
    ∙ ap (λ (k : ℕ). take k (own_numbers numbers chain) ++ take (k - length (own_numbers numbers chain)) rest) first_is
    ∙ sym (list-left numbers chains list left chain are at)
    ∙ ap (λ (n : Option ℕ). take left (following lists n)) (sym next_is))
    ∙ was

-- which stands before it
pub sooner : (next : Option ℕ) (place : ℕ) → IfSome next (λ k. k < place)
    → option_map_or (λ k. k + 1) next 0 < place + 1
sooner None place earlier = omega arith
sooner (Some k) place earlier = omega arith

-- no lists
pub AreChains-none : AreChains [] [] (chain_lists [] [])
unfolding chain_lists
AreChains-none = record {
  as_many = refl;
  each = λ place chain at. absurd (none-some chain at);
  few = omega arith;
}

pub lists-none : chain_lists [] [] ≡ []
unfolding chain_lists
lists-none = refl

-- a list has as many numbers as it says
pub count-at : (numbers : List ℕ) (chains : List Chain) (lists : List (List ℕ)) (list : ℕ) (chain : Chain)
    → AreChains numbers chains lists → slice_get chains list ≡ Some chain → length (get_or lists list []) ≡ chain.count
count-at numbers chains lists list chain are at =
    let is = are.each list chain at in
    ap (λ (ns : List ℕ). length ns) (get_or_from_slice_get lists list (chain_list numbers lists chain) [] is.list)
    ∙ is.counted
