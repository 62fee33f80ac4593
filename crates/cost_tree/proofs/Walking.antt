-- Lemmas on a walk over a tree and the lines that it has given.
use Rattle.std.proofs.Common.{◌≡◌, ℕ, ◌+◌, ◌<◌, Bool, true, false, cond, not, List, [], ◌∷◌, ◌++◌, length, map, filter}
use Rattle.std.proofs.Common.{reverse, refl, sym, ap, ◌∙◌, subst, append-nil, Some, arith}
use Rattle.std.specs.Prelude.{All, Contains}
use Rattle.std.proofs.lemmas.List.{map_push}
use Rattle.std.proofs.lemmas.List.Elements.{All-append, All-cons, All-nil, All-pop}
use Rattle.cost_tree.specs.declared.line.CostLine.{CostLine}
use Rattle.cost_tree.specs.declared.lines.Pending.{Pending}
use Rattle.cost_tree.specs.declared.lines.Pending.TheVariants.{Below, Line}
use Rattle.cost_tree.specs.declared.scale.Scale.{Scale}
use Rattle.cost_tree.specs.AreLinesOf.{AreLinesOf}
use Rattle.cost_tree.specs.Children.{children_of}
use Rattle.cost_tree.specs.Costed.{Costed}
use Rattle.cost_tree.specs.Order.{by_cost}
use Rattle.cost_tree.specs.Pendings.{IsLeft, IsPending, gathered_line, pending_alone, pending_below, pending_children}
use Rattle.cost_tree.specs.Pendings.{pending_gathered, pending_line, pending_lines}
use Rattle.cost_tree.specs.Shares.{cost_at, gathered_in, is_kept_at, is_small_at, kept_children, small_children}
use Rattle.cost_tree.specs.TreeLines.{HasLines, IsLineOf, line_at}
use Rattle.cost_tree.specs.TreeState.{TreeState}
use Rattle.cost_tree.specs.WalkLines.{IsWalking}
use Rattle.std.proofs.lemmas.Option.{slice_get_within}
use Rattle.cost_tree.proofs.Linking.{children_of-only}
use Rattle.cost_tree.proofs.Walks.{left-step, root-lines, root-pending, step-is}

-- the root is pending, and no line was given
pub walking-root : (scale : Scale) (tree : TreeState) (stacks : List Costed) (depth : ℕ) → HasLines tree stacks depth
    → IsWalking scale tree [] (Below 0 0 ∷ [])
walking-root scale tree stacks depth has = record {
  held =
      All-cons (IsPending tree) (Below 0 0) [] (root-pending tree stacks depth has.tree_of) (All-nil (IsPending tree));
  made =
      λ others levels is. append-nil (pending_lines levels scale tree others (Below 0 0))
      ∙ root-lines scale tree others levels is.tree_of;
  each = λ others levels is. All-nil (IsLineOf tree others levels);
  left =
      λ others levels is. All-cons (IsLeft tree others levels) (Below 0 0) [] tt (All-nil (IsLeft tree others levels));
}

-- the line of what was pending is given, and what stands below it is pending
pub walking-next :
    (scale : Scale) (tree : TreeState) (lines : List CostLine) (pending rest new : List Pending) (next : Pending)
    → IsWalking scale tree lines pending
    → pending ≡ rest ++ next ∷ []
    → new ≡ rest ++ pending_below scale tree next
    → (stacks : List Costed) (depth : ℕ) → HasLines tree stacks depth
    → IsWalking scale tree (lines ++ pending_line scale tree next ∷ []) new
walking-next scale tree lines pending rest new next was pending_is new_is stacks depth has = record {
  held =
      let parts = split (IsPending tree) was.held in
      let step = step-is scale tree stacks depth next has parts.1 in
      subst (λ (ps : List Pending). All (IsPending tree) ps) (sym new_is)
      (All-append (IsPending tree) rest (pending_below scale tree next) parts.0 step.pending);
  made = λ others levels is.
      let parts = split (IsPending tree) was.held in
      let step = step-is scale tree others levels next is parts.1 in
      left-step (pending_lines levels scale tree others) pending rest new (pending_below scale tree next) next
      (map (line_at tree) lines) (map (line_at tree) (lines ++ pending_line scale tree next ∷ []))
      (line_at tree (pending_line scale tree next) ∷ []) _
      pending_is new_is (map_push (line_at tree) lines (pending_line scale tree next)) step.lines
      (was.made others levels is);
  each = λ others levels is.
      let parts = split (IsPending tree) was.held in
      let step = step-is scale tree others levels next is parts.1 in
      let left = split (IsLeft tree others levels) (was.left others levels is) in
      All-append (IsLineOf tree others levels) lines (pending_line scale tree next ∷ []) (was.each others levels is)
      (All-cons (IsLineOf tree others levels) (pending_line scale tree next) [] (step.line left.1)
      (All-nil (IsLineOf tree others levels)));
  left = λ others levels is.
      let parts = split (IsPending tree) was.held in
      let step = step-is scale tree others levels next is parts.1 in
      let left = split (IsLeft tree others levels) (was.left others levels is) in
      subst (λ (ps : List Pending). All (IsLeft tree others levels) ps) (sym new_is)
      (All-append (IsLeft tree others levels) rest (pending_below scale tree next) left.0 step.left);
}
  where
    split : (P : Pending → Type 0) → All P pending → All P rest × P next
    split P all = All-pop P pending rest (Some next) pending_is all

-- the line that is given is one of the tree
pub walking-line :
    (scale : Scale) (tree : TreeState) (lines : List CostLine) (pending rest : List Pending) (next : Pending)
    → IsWalking scale tree lines pending
    → pending ≡ rest ++ next ∷ []
    → (stacks : List Costed) (depth : ℕ) → HasLines tree stacks depth
    → IsLineOf tree stacks depth (pending_line scale tree next)
walking-line scale tree lines pending rest next was pending_is stacks depth has =
    let held = All-pop (IsPending tree) pending rest (Some next) pending_is was.held in
    let left = All-pop (IsLeft tree stacks depth) pending rest (Some next) pending_is (was.left stacks depth has) in
    (step-is scale tree stacks depth next has held.1).line left.1

-- nothing is pending
pub walking-all : (scale : Scale) (tree : TreeState) (lines : List CostLine) → IsWalking scale tree lines []
    → AreLinesOf scale tree lines
walking-all scale tree lines was = record {
  all = λ stacks depth is. sym (append-nil (map (line_at tree) lines)) ∙ was.made stacks depth is;
  each = was.each;
}

-- a child that has no siblings
pub alone-is : (scale : Scale) (tree : TreeState) (level n child : ℕ) → children_of tree.nodes n ≡ child ∷ []
    → pending_children scale tree level n ≡ pending_alone scale tree level child ∷ []
unfolding kept_children small_children
alone-is scale tree level n child is =
    ap (λ (ms : List ℕ). pending_gathered level (gathered_in tree (filter (is_small_at scale tree) ms))
    ++ reverse (map (Below level) (by_cost (cost_at tree) (filter (is_kept_at scale tree) ms)))) is
    ∙ by_size (is_small_at scale tree child)
  where
    by_size : (small : Bool)
        → pending_gathered level (gathered_in tree (cond small (child ∷ []) []))
        ++ reverse (map (Below level) (by_cost (cost_at tree) (cond (not small) (child ∷ []) [])))
        ≡ cond small (Line (gathered_line level (record { places = 1; cost = cost_at tree child }))) (Below level child)
        ∷ []
    by_size true =
        ap (λ (cost : ℕ). Line (gathered_line level (record { places = 1; cost = cost })) ∷ []) {x = 0
        + cost_at tree child} {y = cost_at tree child} (omega arith)
    by_size false = refl

-- a node that has none
pub none-is : (scale : Scale) (tree : TreeState) (level n : ℕ) → children_of tree.nodes n ≡ []
    → pending_children scale tree level n ≡ []
unfolding kept_children small_children
none-is scale tree level n none =
    ap (λ (ms : List ℕ). pending_gathered level (gathered_in tree (filter (is_small_at scale tree) ms))
    ++ reverse (map (Below level) (by_cost (cost_at tree) (filter (is_kept_at scale tree) ms)))) none

-- it is held
pub child-held : (tree : TreeState) (n child : ℕ) → children_of tree.nodes n ≡ child ∷ [] → child < length tree.nodes
child-held tree n child is =
    let only =
    children_of-only tree.nodes n child
    (subst (λ (ms : List ℕ). Contains ms child) (sym is) (0, omega arith, refl)) in
    slice_get_within tree.nodes child only.0 only.2
