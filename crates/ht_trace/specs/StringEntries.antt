-- How the strings are kept: the texts of all in one list, of which each has a part, for private
-- clauses.
use Rattle.std.specs.Prelude.{ℕ, ◌+◌, ◌-◌, ◌^◌, ◌≤◌, List, length, map, take, drop}
use Rattle.std.specs.List.{AllByRecursion}
use Rattle.ht_trace.specs.declared.strings.TextSpan.{TextSpan}

-- the text of a string
abbrev pub text_of : List ℕ → TextSpan → List ℕ
text_of bytes span = take span.len (drop span.start bytes)

abbrev pub texts_of : List ℕ → List TextSpan → List (List ℕ)
texts_of bytes spans = map (text_of bytes) spans

-- each part lies within the bytes, and the strings aren't too many
pub record AreStrings (bytes : List ℕ) (spans : List TextSpan) : Type 0 where
  pub within : AllByRecursion (λ span. span.start + span.len ≤ length bytes) spans
  pub few : length spans ≤ 2 ^ 32 - 1
