-- The cost of a front, a list of texts, is the sum of the costs of the stacks that begin with it;
-- its own cost is the sum over those that are it; its first stack is the least that begins with it
-- and costs something.
use Rattle.std.specs.Prelude.{ℕ, ◌&&◌, Bool, List, nat_lt, sum_by, if◌then◌else◌}
use Rattle.std.specs.Cmp.Lexicographic.{pointwise}
use Rattle.std.specs.List.{position_or_len, starts_with}
use Rattle.std.specs.Str.{bytes_eq}
use Rattle.cost_tree.specs.Costed.{Costed}

-- whether the texts begin with the front
unfoldable pub has_front : List (List ℕ) → List (List ℕ) → Bool
has_front front texts = starts_with bytes_eq texts front

-- whether the texts are the front
unfoldable pub is_front : List (List ℕ) → List (List ℕ) → Bool
is_front front texts = pointwise bytes_eq front texts

-- the sum of the costs of the stacks that begin with the front
unfoldable pub inclusive : List (List ℕ) → List Costed → ℕ
inclusive front stacks = sum_by (λ stack. if has_front front stack.texts then stack.cost else 0)
    stacks

-- the sum of the costs of the stacks that are the front
unfoldable pub own : List (List ℕ) → List Costed → ℕ
own front stacks = sum_by (λ stack. if is_front front stack.texts then stack.cost else 0) stacks

-- the least stack that begins with the front and has a cost other than 0; the number of stacks where there is none
unfoldable pub least : List (List ℕ) → List Costed → ℕ
least front stacks = position_or_len (λ stack. nat_lt 0 stack.cost && has_front front stack.texts)
    stacks
