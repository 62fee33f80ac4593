-- Lists that stand under numbers.
use Rattle.std.proofs.Common.{◌≡◌, ℕ, ◌<◌, List, [], ◌∷◌, ◌++◌, length, set, get_or, replicate, Option, None, Some}
use Rattle.std.proofs.Common.{refl, ap, ap₂, ◌∙◌, sym, arith}
use Rattle.std.specs.Prelude.{All, IfSome}
use Rattle.std.proofs.lemmas.List.{get_or-map, get_or-replicate, get_or_append_left, get_or_push, length-map}
use Rattle.std.proofs.lemmas.List.{length-replicate, map-set}
use Rattle.std.proofs.lemmas.List.Elements.{All-head, All-map, All-tail}
use Rattle.cost_tree.specs.Following.{following}
use Rattle.dhat_trace.specs.ListNumbers.{AreNumbers, lists_under, numbers_of}

-- under the number of the empty list
pub none_under : (lists : List (List ℕ)) (numbers : List ℕ) (count : ℕ) → lists ≡ [] ∷ [] → numbers ≡ replicate count 0
    → All (λ (list : List ℕ). list ≡ []) (lists_under lists numbers)
none_under lists numbers count empty zeros =
    All-map (λ (list : List ℕ). list ≡ []) (λ (number : ℕ). get_or lists number []) numbers
    (λ k d within.
    let size = length-replicate {A = ℕ} count 0 in
    let many = ap (λ (ns : List ℕ). length ns) zeros in
    let zero : get_or numbers k d ≡ 0 =
    ap (λ (ns : List ℕ). get_or ns k d) zeros ∙ get_or-replicate count k 0 d (omega (arith, within, size, many)) in
    ap (λ (number : ℕ). get_or lists number []) zero ∙ ap (λ (ls : List (List ℕ)). get_or ls 0 []) empty)

-- a list more changes none under the numbers that there are
still_under : (lists : List (List ℕ)) (list : List ℕ) (numbers : List ℕ) → AreNumbers lists numbers
    → lists_under (lists ++ list ∷ []) numbers ≡ lists_under lists numbers
still_under lists list [] held = refl
still_under lists list (number ∷ numbers) held =
    ap₂ (λ (first : List ℕ) (rest : List (List ℕ)). first ∷ rest)
    (get_or_append_left lists (list ∷ []) [] number (All-head (λ (n : ℕ). n < length lists) number numbers held))
    (still_under lists list numbers (All-tail (λ (n : ℕ). n < length lists) number numbers held))

-- and has its number set
pub under_set : (lists more : List (List ℕ)) (list : List ℕ) (numbers : List ℕ) (stack number : ℕ)
    → AreNumbers lists numbers → more ≡ lists ++ list ∷ [] → number ≡ length lists
    → lists_under more (set numbers stack number) ≡ set (lists_under lists numbers) stack list
under_set lists more list numbers stack number held appended last =
    ap (λ (ls : List (List ℕ)). lists_under ls (set numbers stack number)) appended
    ∙ map-set (λ (n : ℕ). get_or (lists ++ list ∷ []) n []) numbers stack number
    ∙ ap₂ (λ (ls : List (List ℕ)) (l : List ℕ). set ls stack l) (still_under lists list numbers held)
    (get_or_push lists list [] number (sym last))

-- the list of a stack is that under its number
pub following_under : (lists : List (List ℕ)) (numbers : List ℕ) (next : Option ℕ)
    → IfSome next (λ stack. stack < length (lists_under lists numbers))
    → following lists (numbers_of numbers next) ≡ following (lists_under lists numbers) next
following_under lists numbers None held = refl
following_under lists numbers (Some stack) held =
    let many = length-map numbers (λ (n : ℕ). get_or lists n []) in
    sym (get_or-map (λ (n : ℕ). get_or lists n []) numbers stack 0 [] (omega (arith, held, many)))
