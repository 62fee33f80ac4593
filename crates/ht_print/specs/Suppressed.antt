-- Which stacks of a trace are suppressed. A stack is suppressed where a pattern stands as
-- consecutive bytes in the text of one of its frames, in the plain style.
use Rattle.std.specs.Prelude.{ℕ, ◌+◌, List, Bool, length, map}
use Rattle.std.specs.List.{list_any, range_with_len}
use Rattle.memchr.specs.Find.{occurs_at}
use Rattle.stack_trees.specs.StackTexts.{stack_texts}
use Rattle.ht_trace.specs.declared.frame.Style.TheVariants.{Plain}
use Rattle.ht_trace.specs.TableState.{TableState}

-- whether the pattern stands in the text as consecutive bytes
unfoldable pub stands_in : List ℕ → List ℕ → Bool
stands_in text pattern = list_any (occurs_at text pattern) (range_with_len 0 (length text + 1))

-- whether some pattern stands in the text
abbrev pub meets_any : List (List ℕ) → List ℕ → Bool
meets_any patterns text = list_any (stands_in text) patterns

-- whether some pattern stands in one of the texts of the stack's frames
abbrev pub is_suppressed : TableState → ℕ → Bool
is_suppressed tables stack = list_any (meets_any tables.patterns) (stack_texts Plain tables stack)

-- for each stack whether it is suppressed, by the stacks' numbers
abbrev pub suppressed_stacks : TableState → List Bool
suppressed_stacks tables = map (is_suppressed tables) (range_with_len 0 (length tables.nodes + 1))
