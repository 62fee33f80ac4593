-- The names of a list, each once.
use Rattle.std.proofs.Common.{◌≡◌, ℕ, ◌<◌, ◌↔◌, Bool, true, false, cond, ◌||◌, List, [], ◌∷◌, ◌++◌, length, nat_lt}
use Rattle.std.proofs.Common.{refl, sym, ap, subst, ◌∙◌, not, append-nil, arith, Contains, IsTrue}
use Rattle.std.specs.List.{filter, list_any}
use Rattle.std.specs.Str.{bytes_eq}
use Rattle.std.proofs.lemmas.Bool.Decides.{nat_tests}
use Rattle.std.proofs.lemmas.List.Elements.{filter-append}
use Rattle.std.proofs.lemmas.List.Folds.{list_any_at}
use Rattle.std.proofs.lemmas.Map.Views.{Contains-from_any}
use Rattle.std.proofs.lemmas.Slice.Eq.{bytes_eq-Decides}
use Rattle.intern_tables.specs.WithoutRepeats.{without_repeats}
use Rattle.massif_sample.specs.NameList.{with_text}

-- a list contains what a test of each element finds
found : (name : List ℕ) (names : List (List ℕ)) → (IsTrue (list_any (bytes_eq name) names) ↔ Contains names name)
found name names = (
  (λ yes'. Contains-from_any (λ x y same. (bytes_eq-Decides x y).0 same) name names yes'),
  (λ held. list_any_at (bytes_eq name) names held.0 name held.1 ((bytes_eq-Decides name _).1 (sym held.2))),
)

-- what isn't this element is found as well where its repeats are left out
found-later : (name x y : List ℕ) (ys : List (List ℕ)) (same : Bool) → bytes_eq x y ≡ same → bytes_eq name x ≡ false
    → list_any (bytes_eq name) (filter (λ z. not (bytes_eq x z)) ys) ≡ list_any (bytes_eq name) ys
    → list_any (bytes_eq name) (filter (λ z. not (bytes_eq x z)) (y ∷ ys)) ≡ list_any (bytes_eq name) (y ∷ ys)
found-later name x y ys true same other later =
    let none : bytes_eq name y ≡ false =
    subst (λ (z : List ℕ). bytes_eq name z ≡ false) ((bytes_eq-Decides x y).0 same) other in
    rw (same, none) later
found-later name x y ys false same other later = rw same (ap (λ rest. bytes_eq name y || rest) later)

found-others : (name x : List ℕ) → bytes_eq name x ≡ false → (ys : List (List ℕ))
    → list_any (bytes_eq name) (filter (λ z. not (bytes_eq x z)) ys) ≡ list_any (bytes_eq name) ys
found-others name x other [] = refl
found-others name x other (y ∷ ys) = found-later name x y ys (bytes_eq x y) refl other (found-others name x other ys)

-- a name is found where it is found among all
found-first : (name x : List ℕ) (xs firsts : List (List ℕ)) (same : Bool) → bytes_eq name x ≡ same
    → list_any (bytes_eq name) firsts ≡ list_any (bytes_eq name) xs
    → list_any (bytes_eq name) (x ∷ filter (λ z. not (bytes_eq x z)) firsts) ≡ list_any (bytes_eq name) (x ∷ xs)
found-first name x xs firsts true same later = rw same refl
found-first name x xs firsts false same later =
    ap (λ rest. bytes_eq name x || rest) (found-others name x same firsts ∙ later)

found-once : (name : List ℕ) (names : List (List ℕ))
    → list_any (bytes_eq name) (without_repeats bytes_eq names) ≡ list_any (bytes_eq name) names
found-once name [] = refl
found-once name (x ∷ xs) =
    found-first name x xs (without_repeats bytes_eq xs) (bytes_eq name x) refl (found-once name xs)

-- no name is lost where each is kept once
pub Contains-once : (names : List (List ℕ)) (name : List ℕ)
    → (Contains (without_repeats bytes_eq names) name ↔ Contains names name)
Contains-once names name = (
  (λ held. (found name names).0 (sym (found-once name names) ∙ (found name (without_repeats bytes_eq names)).1 held)),
  (λ held. (found name (without_repeats bytes_eq names)).0 (found-once name names ∙ (found name names).1 held)),
)

-- the pieces that count, with one more
counted : (came : List (List ℕ)) (piece : List ℕ) (counts : Bool) → nat_lt 0 (length piece) ≡ counts
    → with_text (came ++ piece ∷ []) ≡ with_text came ++ cond counts (piece ∷ []) []
counted came piece counts is =
    filter-append (λ (text : List ℕ). nat_lt 0 (length text)) came (piece ∷ [])
    ∙ ap (λ (b : Bool). with_text came ++ cond {A = List (List ℕ)} b (piece ∷ []) []) is

pub with_text-none : (came : List (List ℕ)) (piece : List ℕ) → length piece ≡ 0
    → with_text (came ++ piece ∷ []) ≡ with_text came
with_text-none came piece empty = counted came piece false (grind (arith, nat_tests)) ∙ append-nil (with_text came)

pub with_text-more : (came : List (List ℕ)) (piece : List ℕ) → 0 < length piece
    → with_text (came ++ piece ∷ []) ≡ with_text came ++ piece ∷ []
with_text-more came piece some = counted came piece true (grind (arith, nat_tests))
