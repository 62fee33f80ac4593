-- The texts of a trace's stacks. The list of a stack is the texts of its frames in a style, from
-- the innermost on, or turned round for the direction from the root.
use Rattle.std.specs.Prelude.{ℕ, ◌+◌, List, length, map, reverse, ◌≡◌, [], ◌∷◌, ◌++◌, Option, take}
use Rattle.std.specs.List.{range_with_len}
use Rattle.ht_trace.specs.declared.frame.Style.{Style}
use Rattle.ht_trace.specs.FrameText.{frame_text}
use Rattle.ht_trace.specs.StackFrames.{stack_frames}
use Rattle.ht_trace.specs.TableState.{TableState}
use Rattle.stack_trees.specs.declared.direction.Direction.{Direction}
use Rattle.stack_trees.specs.declared.direction.Direction.TheVariants.{FromAllocation, FromRoot}
use Rattle.cost_tree.specs.IsTreeOf.{IsTreeOf}
use Rattle.cost_tree.specs.TreeState.{TreeState}
use Rattle.cost_tree.specs.Costed.{Costed, costed}
use Rattle.cost_tree.specs.Following.{following}
use Rattle.cost_tree.specs.GrowingLists.{LastGains}
use Rattle.ht_trace.specs.declared.frame.FrameAt.{FrameAt}
use Rattle.stack_trees.specs.declared.list_form.ListForm.{ListForm}

-- the texts of the frames of a stack, from the innermost on
abbrev pub stack_texts : Style → TableState → ℕ → List (List ℕ)
stack_texts style tables stack = map (frame_text style tables)
    (stack_frames tables.instructions tables.nodes stack)

-- a list that begins at the innermost frame, in this direction
abbrev pub towards : {X : Type 0} → Direction → List X → List X
towards FromAllocation xs = xs
towards FromRoot xs = reverse xs

-- the texts of each stack in this direction, by the stacks' numbers
unfoldable pub lists_towards : Direction → Style → TableState → List (List (List ℕ))
lists_towards direction style tables =
    map (λ stack. towards direction (stack_texts style tables stack))
    (range_with_len 0 (length tables.nodes + 1))

-- the texts of frames
abbrev pub frame_texts : Style → TableState → List FrameAt → List (List ℕ)
frame_texts style tables frames = map (frame_text style tables) frames

-- a list more, in this form: the texts of these frames, and then those of an earlier list, if any
abbrev pub AppendsChain : ListForm → TableState → List FrameAt → Option ℕ → List (List (List ℕ))
    → List (List (List ℕ)) → Type 0
AppendsChain form tables frames next old new = new
    ≡ old ++ take form.most (frame_texts form.style tables frames ++ following old next) ∷ []

-- the last list has the texts of these frames at its end too
abbrev pub GainsTexts : Style → TableState → List FrameAt → List (List (List ℕ))
    → List (List (List ℕ)) → Type 0
GainsTexts style tables frames old new = LastGains old (frame_texts style tables frames) new

-- the stacks of the tables, in this direction, with these costs
abbrev pub stacks_towards : Direction → Style → TableState → List ℕ → List Costed
stacks_towards direction style tables costs = costed (lists_towards direction style tables) costs

-- a tree is that of the stacks with the costs that a costing has
abbrev pub IsTreeOfStacks : (List ℕ → Type 0) → Direction → Style → TableState → ℕ → TreeState
    → Type 0
IsTreeOfStacks are_costs direction style tables depth tree = (costs : List ℕ) → are_costs costs
    → IsTreeOf tree (stacks_towards direction style tables costs) depth
