-- The places of a trace's stacks by number, for private clauses.
use Rattle.std.specs.Prelude.{◌≡◌, ℕ, ◌+◌, ◌<◌, ◌≤◌, Bool, true, length, slice_index}
use Rattle.ht_trace.specs.TableState.{TableState}
use Rattle.ht_print.specs.declared.places.Places.{Places}
use Rattle.ht_print.specs.ReportGroups.{place_of}

-- the number of a stack's place
abbrev pub number_at : Places → ℕ → ℕ
number_at places stack = slice_index places.numbers.items stack

-- each stack has a number, and two have the same exactly where their places are the same
pub record TellPlaces (tables : TableState) (places : Places) : Type 0 where
  pub held : length places.numbers.items ≡ length tables.nodes + 1
  pub within : (stack : ℕ) → stack ≤ length tables.nodes → number_at places stack < places.count
  pub same_number : (one other : ℕ) → one ≤ length tables.nodes → other ≤ length tables.nodes
      → place_of tables one ≡ place_of tables other → number_at places one ≡ number_at places other
  pub same_place : (one other : ℕ) → one ≤ length tables.nodes → other ≤ length tables.nodes
      → number_at places one ≡ number_at places other → place_of tables one ≡ place_of tables other

-- the places are made where they are wanted
abbrev pub HavePlaces : Bool → TableState → Places → Type 0
HavePlaces wanted tables places = wanted ≡ true → TellPlaces tables places
