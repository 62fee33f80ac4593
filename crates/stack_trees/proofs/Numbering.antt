-- Lemmas on lists of texts that are kept as numbers, each of which may go on with an earlier one.
use Rattle.std.proofs.Common.{◌≡◌, ℕ, ◌+◌, ◌<◌, ◌≤◌, inl, inr, List, [], ◌∷◌, ◌++◌, length, map, min, take, get_or}
use Rattle.std.proofs.Common.{Option, None, Some, refl, sym, ap, ◌∙◌, subst, arith}
use Rattle.std.specs.Prelude.{All, Err, IfSome, Ok, OnErr, OnOk, Result}
use Rattle.std.proofs.lemmas.Bool.{cases_lt}
use Rattle.std.proofs.lemmas.List.{get_or-map, length-take, map-append, map_more, take-append-le, take-map, take-take}
use Rattle.std.proofs.lemmas.List.{take_all, take_min}
use Rattle.std.proofs.lemmas.List.Elements.{All-append, All-cons, All-get_or, All-nil, All-take, All-weaker}
use Rattle.intern_tables.specs.Numbers.{name_at}
use Rattle.cost_tree.specs.Following.{following}
use Rattle.cost_tree.specs.Texts.{AreTexts, IsText, lists_of, text_of, texts_of}
use Rattle.cost_tree.proofs.Laws.{text-named, texts-kept}

-- what follows a list of texts
following-named : (names lists : List (List ℕ)) (next : Option ℕ) → IfSome next (λ k. k < length lists)
    → texts_of names (following lists next) ≡ following (lists_of names lists) next
following-named names lists None earlier = refl
following-named names lists (Some k) earlier = sym (get_or-map (texts_of names) lists k [] [] earlier)

-- a list more: the texts of these numbers, and then those of an earlier list, but at most so many
pub lists-chained : (names lists : List (List ℕ)) (numbers : List ℕ) (next : Option ℕ) (most : ℕ)
    → IfSome next (λ k. k < length lists)
    → lists_of names (lists ++ take most (numbers ++ following lists next) ∷ [])
    ≡ lists_of names lists ++ take most (texts_of names numbers ++ following (lists_of names lists) next) ∷ []
lists-chained names lists numbers next most earlier =
    map-append (texts_of names) lists (take most (numbers ++ following lists next) ∷ [])
    ∙ ap (λ (texts : List (List ℕ)). lists_of names lists ++ texts ∷ [])
    (sym (take-map (text_of names) most (numbers ++ following lists next))
    ∙ ap (λ (texts : List (List ℕ)). take most texts)
    (map-append (text_of names) numbers (following lists next)
    ∙ ap (λ (texts : List (List ℕ)). texts_of names numbers ++ texts) (following-named names lists next earlier)))

texts-more : (names lists : List (List ℕ)) (numbers : List ℕ) (next : Option ℕ) (most : ℕ)
    → IfSome next (λ k. k < length lists) → AreTexts names lists → All (IsText names) numbers
    → AreTexts names (lists ++ take most (numbers ++ following lists next) ∷ [])
texts-more names lists numbers next most earlier are named =
    let list : List ℕ = take most (numbers ++ following lists next) in
    let one : All (IsText names) list =
    All-take (IsText names) most (numbers ++ following lists next)
    (All-append (IsText names) numbers (following lists next) named (behind next earlier)) in
    All-append (All (IsText names)) lists (list ∷ []) are
    (All-cons (All (IsText names)) list [] one (All-nil (All (IsText names))))
  where
    behind : (next : Option ℕ) → IfSome next (λ k. k < length lists) → All (IsText names) (following lists next)
    behind None earlier = All-nil (IsText names)
    behind (Some k) earlier = All-get_or (All (IsText names)) lists k [] earlier are

pub texts-chained : {T E : Type 0} (result : Result T E) (names lists new : List (List ℕ)) (numbers : List ℕ)
    (next : Option ℕ) (most : ℕ)
    → IfSome next (λ k. k < length lists) → AreTexts names lists → All (IsText names) numbers
    → OnOk result (new ≡ lists ++ take most (numbers ++ following lists next) ∷ []) → OnErr result (new ≡ lists)
    → AreTexts names new
texts-chained (Ok value) names lists new numbers next most earlier are named appended same =
    subst (λ (ls : List (List ℕ)). AreTexts names ls) (sym appended)
    (texts-more names lists numbers next most earlier are named)
texts-chained (Err fault) names lists new numbers next most earlier are named appended same =
    subst (λ (ls : List (List ℕ)). AreTexts names ls) (sym same) are

-- a text more of a list that is given its numbers
pub record AreNumbered (names : List (List ℕ)) (numbers : List ℕ) (texts : List (List ℕ)) : Type 0 where
  pub named : All (IsText names) numbers
  pub texts_are : texts_of names numbers ≡ texts

pub numbered-more : {X : Type 0} (text : X → List ℕ) (names new : List (List ℕ)) (numbers after : List ℕ) (number : ℕ)
    (xs : List X) (i : ℕ) (d : X) (read : List ℕ)
    → i < length xs → length names ≤ length new
    → ((k : ℕ) → k ≤ length names → name_at new k ≡ name_at names k) → AreNumbered names numbers (map text (take i xs))
    → IsText new number → name_at new number ≡ Some read → read ≡ text (get_or xs i d)
    → after ≡ numbers ++ number ∷ [] → AreNumbered new after (map text (take (i + 1) xs))
numbered-more {X} text names new numbers after number xs i d read within more stay are is named read_is after_is =
    subst (λ (ns : List ℕ). AreNumbered new ns (map text (take (i + 1) xs))) (sym after_is) (record {
      named =
          All-append (IsText new) numbers (number ∷ [])
          (All-weaker (IsText names) (IsText new) (λ n old. (old.0, omega (arith, old.1))) numbers are.named)
          (All-cons (IsText new) number [] is (All-nil (IsText new)));
      texts_are = map-append (text_of new) numbers (number ∷ [])
          ∙ ap (λ (ts : List (List ℕ)). ts ++ texts_of new (number ∷ []))
          (texts-kept names new numbers stay are.named ∙ are.texts_are)
          ∙ ap (λ (t : List ℕ). map text (take i xs) ++ t ∷ []) (text-named new number read named ∙ read_is)
          ∙ sym (map_more text xs i d within);
    })

-- of a list that is cut its first elements are enough
take-enough : {X : Type 0} (most : ℕ) (xs ys : List X) → take most (take most xs ++ ys) ≡ take most (xs ++ ys)
take-enough {X} most xs ys = elim (cases_lt most (length xs)) [
  | inl less ↦
      let cut = length-take most xs in
      take-append-le most (take most xs) ys (omega arith) ∙ take-take most most xs (omega arith)
      ∙ sym (take-append-le most xs ys (omega arith))
  | inr no_less ↦ ap (λ (zs : List X). take most (zs ++ ys)) (take_all most xs no_less)
]

pub first-enough : {X Y : Type 0} (f : X → Y) (most : ℕ) (xs : List X) (ys : List Y)
    → take most (map f (take (min (length xs) most) xs) ++ ys) ≡ take most (map f xs ++ ys)
first-enough {X} {Y} f most xs ys =
    let least : min (length xs) most ≡ min most (length xs) = omega arith in
    ap (λ (k : ℕ). take most (map f (take k xs) ++ ys)) least
    ∙ ap (λ (zs : List X). take most (map f zs ++ ys)) (take_min most xs)
    ∙ ap (λ (zs : List Y). take most (zs ++ ys)) (sym (take-map f most xs))
    ∙ take-enough most (map f xs) ys
