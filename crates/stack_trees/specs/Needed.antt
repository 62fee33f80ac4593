-- What a tree needs of a stack's list: its first texts, and none where the stack costs nothing;
-- from the root its whole list, which begins with that of the stack that its node is called from.
use Rattle.std.specs.Prelude.{◌≡◌, ℕ, ◌==◌, ◌+◌, if◌then◌else◌, List, [], ◌∷◌, ◌++◌, length, map, take, slice_index}
use Rattle.std.specs.Prelude.{◌≢◌, ◌<◌}
use Rattle.std.specs.List.{range_with_len}
use Rattle.cost_tree.specs.Costed.{costed}
use Rattle.cost_tree.specs.GrowingLists.{caller_list}
use Rattle.cost_tree.specs.IsTreeOf.{IsTreeOf}
use Rattle.cost_tree.specs.TreeState.{TreeState}
use Rattle.ht_trace.specs.declared.frame.FrameAt.{FrameAt}
use Rattle.ht_trace.specs.declared.frame.Style.{Style}
use Rattle.ht_trace.specs.StackFrames.{outer_frames, stack_frames}
use Rattle.ht_trace.specs.TableState.{TableState}
use Rattle.stack_trees.specs.declared.direction.Direction.{Direction}
use Rattle.stack_trees.specs.StackTexts.{stack_texts, stacks_towards, towards}
use Rattle.stack_trees.specs.declared.direction.Direction.TheVariants.{FromAllocation}
use Rattle.stack_trees.specs.declared.list_form.ListForm.{ListForm}

-- of a list its first texts, and none where the stack costs nothing
abbrev pub needed : {X : Type 0} → ℕ → ℕ → List X → List X
needed most cost xs = if cost == 0 then [] else take most xs

-- the list of stack n, as far as it is needed
abbrev pub needed_list : Direction → Style → TableState → ℕ → List ℕ → ℕ → List (List ℕ)
needed_list direction style tables most costs n = needed most (slice_index costs n)
    (towards direction (stack_texts style tables n))

-- the lists of the stacks
unfoldable pub needed_lists : Direction → Style → TableState → ℕ → List ℕ → List (List (List ℕ))
needed_lists direction style tables most costs =
    map (needed_list direction style tables most costs) (range_with_len 0 (length tables.nodes + 1))

-- a stack's list begins with that of the stack that its node is called from, whose frames follow the node's own
pub record Begins (tables : TableState) (stack : ℕ) (own : List FrameAt)
    (old new : List (List (List ℕ))) : Type 0 where
  pub caller : ℕ
  pub lower : caller ≢ 0 → caller < stack
  pub frames : stack_frames tables.instructions tables.nodes stack
      ≡ own ++ outer_frames tables.instructions tables.nodes caller
  pub begun : new ≡ old ++ caller_list old caller ∷ []

-- a tree of these lists is that of the stacks
pub record StandFor (direction : Direction) (style : Style) (tables : TableState)
    (costs : List ℕ) (depth : ℕ) (fronts : List (List (List ℕ))) : Type 0 where
  pub count : length fronts ≡ length costs
  pub tree : (tree : TreeState) → IsTreeOf tree (costed fronts costs) depth
      → IsTreeOf tree (stacks_towards direction style tables costs) depth

-- from the innermost frames on, in this form
abbrev pub lists_needed : ListForm → TableState → List ℕ → List (List (List ℕ))
lists_needed form tables costs = needed_lists FromAllocation form.style tables form.most costs

-- the texts of a stack from its innermost frame on
abbrev pub inner_texts : ListForm → TableState → ℕ → List (List ℕ)
inner_texts form tables stack = towards FromAllocation (stack_texts form.style tables stack)

-- the list of a stack with this cost is appended, as far as it is needed
abbrev pub AppendsNeeded : ListForm → TableState → ℕ → ℕ → List (List (List ℕ))
    → List (List (List ℕ)) → Type 0
AppendsNeeded form tables stack cost old new =
    new ≡ old ++ needed form.most cost (inner_texts form tables stack) ∷ []
