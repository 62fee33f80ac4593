-- The order of a report's entries, which are stacks or groups of them. Entries stand by descending
-- figure, those with one figure by ascending number of the stack.
use Rattle.std.specs.Prelude.{ℕ, ◌==◌, ◌&&◌, ◌||◌, Bool, List, [], ◌∷◌, filter, length, map, nat_lt, slice_index}
use Rattle.std.specs.Prelude.{if◌then◌else◌}
use Rattle.std.specs.List.{range_with_len}
use Rattle.ht_print.specs.declared.entry.Entry.{Entry}

-- whether the one stands before the other: its figure is greater, or it is the same and the stack's number is lower
abbrev pub is_before : Entry → Entry → Bool
is_before one other = nat_lt other.figure one.figure
    || (one.figure == other.figure && nat_lt one.stack other.stack)

-- entries in order, with one more at its place
abbrev pub placed : Entry → List Entry → List Entry
placed entry [] = entry ∷ []
placed entry (first ∷ more) = if is_before first entry then first ∷ placed entry more
    else entry ∷ first ∷ more

-- the entries in order
abbrev pub in_order : List Entry → List Entry
in_order [] = []
in_order (entry ∷ more) = placed entry (in_order more)

-- each stack with its figure, by number
abbrev pub numbered : List ℕ → List Entry
numbered figures = map (λ stack. record { figure = slice_index figures stack; stack = stack })
    (range_with_len 0 (length figures))

-- the entry of a stack, where its figure isn't 0
abbrev pub some_stack : ℕ → ℕ → List Entry
some_stack figure stack = if nat_lt 0 figure then record { figure = figure; stack = stack } ∷ []
    else []

-- the stacks whose figure isn't 0, by number
unfoldable pub some_stacks : List ℕ → List Entry
some_stacks figures = filter (λ entry. nat_lt 0 entry.figure) (numbered figures)

-- the same in order
abbrev pub ordered_stacks : List ℕ → List Entry
ordered_stacks figures = in_order (some_stacks figures)
