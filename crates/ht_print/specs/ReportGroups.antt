-- A group has the stacks of one place, which is the text of the innermost frame. Its figure is the
-- sum of theirs, and its number that of the least of them.
use Rattle.std.specs.Prelude.{ℕ, List, [], ◌∷◌, filter, map, min, sum_by}
use Rattle.std.specs.Str.{bytes_eq}
use Rattle.stack_trees.specs.StackTexts.{stack_texts}
use Rattle.intern_tables.specs.WithoutRepeats.{without_repeats}
use Rattle.ht_trace.specs.declared.frame.Style.TheVariants.{Plain}
use Rattle.ht_trace.specs.TableState.{TableState}
use Rattle.ht_print.specs.declared.entry.Entry.{Entry}
use Rattle.ht_print.specs.ReportOrder.{in_order}

-- of the texts of a stack's frames that of the innermost one, and those of the others
abbrev pub innermost : List (List ℕ) → List ℕ
innermost [] = []
innermost (text ∷ more) = text

abbrev pub others : List (List ℕ) → List (List ℕ)
others [] = []
others (text ∷ more) = more

-- where a stack allocates: the text of its innermost frame
unfoldable pub place_of : TableState → ℕ → List ℕ
place_of tables stack = innermost (stack_texts Plain tables stack)

-- the places of some stacks, each once
unfoldable pub places : TableState → List Entry → List (List ℕ)
places tables stacks = without_repeats bytes_eq (map (λ entry. place_of tables entry.stack) stacks)

-- the stacks of a place, as they stand
unfoldable pub stacks_at : TableState → List Entry → List ℕ → List Entry
stacks_at tables stacks place = filter (λ entry. bytes_eq place (place_of tables entry.stack))
    stacks

-- the least of a number and the numbers of the stacks
abbrev pub least_from : ℕ → List Entry → ℕ
least_from least [] = least
least_from least (entry ∷ more) = least_from (min least entry.stack) more

-- the least number of the stacks
abbrev pub least_stack : List Entry → ℕ
least_stack [] = 0
least_stack (entry ∷ more) = least_from entry.stack more

-- stacks as one entry: the sum of their figures, and the least of them
abbrev pub joined : List Entry → Entry
joined stacks = record {
  figure = sum_by (λ entry. entry.figure) stacks;
  stack = least_stack stacks;
}

-- the groups of the stacks, in order
unfoldable pub ordered_groups : TableState → List Entry → List Entry
ordered_groups tables stacks = in_order
    (map (λ place. joined (stacks_at tables stacks place)) (places tables stacks))
