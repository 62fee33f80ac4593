-- Patterns in order, without those that begin with another: a text has one of them exactly where it
-- has one of all, for private clauses.
use Rattle.std.specs.Prelude.{◌≡◌, ℕ, ◌-◌, ◌<◌, Bool, false, List, length, nat_eq, slice_get, slice_index_or, unwrap_or}
use Rattle.std.specs.Option.{option_map}
use Rattle.std.specs.List.{list_any, starts_with}
use Rattle.std.specs.Ordering.{is_lt, nat_cmp}
use Rattle.std.specs.Cmp.Lexicographic.{slice_cmp}

-- whether the text begins with the pattern
abbrev pub begins : List ℕ → List ℕ → Bool
begins text pattern = starts_with nat_eq text pattern

-- whether the text begins with the pattern of one of some elements
abbrev pub begins_any : {X : Type 0} → (X → List ℕ) → List X → List ℕ → Bool
begins_any pattern_of xs text = list_any (λ x. begins text (pattern_of x)) xs

-- the same of the last of some elements
abbrev pub begins_last : {X : Type 0} → (X → List ℕ) → List X → List ℕ → Bool
begins_last pattern_of xs text =
    unwrap_or (option_map (λ x. begins text (pattern_of x)) (slice_get xs (length xs - 1))) false

-- no pattern stands before an earlier one, or begins with it
pub record AreApart {X : Type 0} (pattern_of : X → List ℕ) (xs : List X) : Type 0 where
  pub ordered : (i j : ℕ) (d : X) → i < j → j < length xs
      → is_lt (slice_cmp nat_cmp (pattern_of (slice_index_or xs j d))
      (pattern_of (slice_index_or xs i d))) ≡ false
  pub apart : (i j : ℕ) (d : X) → i < j → j < length xs
      → begins (pattern_of (slice_index_or xs j d)) (pattern_of (slice_index_or xs i d)) ≡ false

-- any text begins with one of some elements where it begins with one of the others
abbrev pub BeginSame : {X : Type 0} → (X → List ℕ) → List X → List X → Type 0
BeginSame pattern_of xs others = (text : List ℕ)
    → begins_any pattern_of xs text ≡ begins_any pattern_of others text

-- such patterns, which stand for all of these
pub record AreLeast {X : Type 0} (pattern_of : X → List ℕ) (patterns : List (List ℕ))
    (xs : List X) : Type 0 where
  pub apart : AreApart pattern_of xs
  pub same : (text : List ℕ) → begins_any pattern_of xs text ≡ list_any (begins text) patterns
