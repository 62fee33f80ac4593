-- The next fronts of a front are those one text longer whose cost isn't 0: for each stack, by
-- ascending number, that begins with the front, goes on and is the least one of its longer front,
-- that longer front.
use Rattle.std.specs.Prelude.{ℕ, ◌==◌, ◌+◌, ◌&&◌, Bool, List, length, map, filter, nat_lt, [], slice_get, take}
use Rattle.std.specs.Prelude.{◌≡◌, sum_by}
use Rattle.std.specs.List.{range_with_len}
use Rattle.std.specs.Option.{option_map_or}
use Rattle.cost_tree.specs.Costed.{Costed}
use Rattle.cost_tree.specs.Inclusive.{has_front, least, inclusive, own}

-- the texts of a stack by its number
abbrev pub texts_at : List Costed → ℕ → List (List ℕ)
texts_at stacks n = option_map_or (λ stack. stack.texts) (slice_get stacks n) []

-- the front of the stack's texts that is one text longer than this front, which they begin with
abbrev pub longer_front : List (List ℕ) → List Costed → ℕ → List (List ℕ)
longer_front front stacks n = take (length front + 1) (texts_at stacks n)

-- whether the stack begins with this front, goes on, and is the least stack of the front that is one text longer
abbrev pub opens : List (List ℕ) → List Costed → ℕ → Bool
opens front stacks n =
    has_front front (texts_at stacks n) && nat_lt (length front) (length (texts_at stacks n))
    && least (longer_front front stacks n) stacks == n

-- the fronts one text longer than this front whose cost isn't 0, by ascending least stack
unfoldable pub next_fronts : List (List ℕ) → List Costed → List (List (List ℕ))
next_fronts front stacks = map (longer_front front stacks)
    (filter (opens front stacks) (range_with_len 0 (length stacks)))

-- a front's cost is its own and that of the fronts one text longer
abbrev pub IsSumOfNext : List (List ℕ) → List Costed → Type 0
IsSumOfNext front stacks = inclusive front stacks
    ≡ own front stacks + sum_by (λ next. inclusive next stacks) (next_fronts front stacks)
