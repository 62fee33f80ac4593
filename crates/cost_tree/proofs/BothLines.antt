-- Lemmas on the lines of a tree and of what is gathered beside it.
use Rattle.std.proofs.Common.{◌≡◌, ℕ, zero, suc, ◌+◌, ◌^◌, ◌<◌, ◌≤◌, Bool, true, false, cond, List, [], ◌∷◌, ◌++◌, length}
use Rattle.std.proofs.Common.{map, refl, sym, ap, ◌∙◌, arith}
use Rattle.std.specs.Prelude.{nat_lt}
use Rattle.std.proofs.lemmas.List.{map-append}
use Rattle.cost_tree.specs.declared.children.Gathered.{Gathered}
use Rattle.cost_tree.specs.declared.line.CostLine.{CostLine}
use Rattle.cost_tree.specs.declared.lines.Pending.TheVariants.{Below}
use Rattle.cost_tree.specs.declared.scale.Scale.{Scale}
use Rattle.cost_tree.specs.AreLinesOf.{AreLinesOf}
use Rattle.cost_tree.specs.Costed.{Costed}
use Rattle.cost_tree.specs.CostLines.{FrontLine, gathered, cost_lines, cost_of, front_lines}
use Rattle.cost_tree.specs.Gathering.{HaveLines, lines_of}
use Rattle.cost_tree.specs.Pendings.{gathered_line, pending_below, pending_line}
use Rattle.cost_tree.specs.SmallTexts.{with_gathered}
use Rattle.cost_tree.specs.TreeLines.{HasLines, line_at, shown_at}
use Rattle.cost_tree.specs.TreeState.{TreeState}
use Rattle.cost_tree.specs.WalkLines.{IsWalking, few_lines, root_line}
use Rattle.cost_tree.proofs.Laws.{lines-few}
use Rattle.cost_tree.proofs.Sums.{inclusive-all}
use Rattle.cost_tree.proofs.Walking.{walking-next, walking-root}
use Rattle.cost_tree.proofs.Walks.{IsStep, root-pending, step-is}

-- the line of node 0
abbrev pub root_of : Scale → TreeState → CostLine
root_of scale tree = pending_line scale tree (Below 0 0)

pub root-step : (scale : Scale) (tree : TreeState) (stacks : List Costed) (depth : ℕ) → HasLines tree stacks depth
    → IsStep scale tree stacks depth (Below 0 0)
root-step scale tree stacks depth has =
    step-is scale tree stacks depth (Below 0 0) has (root-pending tree stacks depth has.tree_of)

-- it is given, and the nodes below it are pending
pub root-given : (scale : Scale) (tree : TreeState) (stacks : List Costed) (depth : ℕ) → HasLines tree stacks depth
    → IsWalking scale tree (root_of scale tree ∷ []) (pending_below scale tree (Below 0 0))
root-given scale tree stacks depth has =
    walking-next scale tree [] (Below 0 0 ∷ []) [] (pending_below scale tree (Below 0 0)) (Below 0 0)
    (walking-root scale tree stacks depth has) refl refl stacks depth has

-- what the first of some lines says
abbrev first_children : List FrontLine → ℕ
first_children [] = 0
first_children (line ∷ lines) = line.children

abbrev first_cost : List FrontLine → ℕ
first_cost [] = 0
first_cost (line ∷ lines) = line.cost

-- the first line of stacks has no more lines below it than there are stacks, and says what all cost
children-few : (depth : ℕ) (scale : Scale) (stacks : List Costed)
    → first_children (cost_lines depth scale stacks) ≤ length stacks
unfolding cost_lines front_lines
children-few zero scale stacks = omega arith
children-few (suc more) scale stacks = lines-few scale stacks [] 1

cost-all : (depth : ℕ) (scale : Scale) (stacks : List Costed)
    → first_cost (cost_lines depth scale stacks) ≡ cost_of stacks []
unfolding cost_lines front_lines
cost-all zero scale stacks = refl
cost-all (suc more) scale stacks = refl

root-cost : (scale : Scale) (tree : TreeState) (stacks : List Costed) (depth : ℕ) → HasLines tree stacks depth
    → (root_of scale tree).cost ≡ cost_of stacks []
root-cost scale tree stacks depth has =
    ap first_cost ((root-given scale tree stacks depth has).made stacks depth has) ∙ cost-all depth scale stacks

one-line : (few : Gathered) → length (lines_of few) ≡ cond {A = ℕ} (nat_lt 0 few.places) 1 0
one-line few = by_flag (nat_lt 0 few.places)
  where
    by_flag : (b : Bool)
        → length (cond {A = List FrontLine} b (record {
          level = 1;
          children = 0;
          cost = few.cost;
          shown = gathered few.places;
        } ∷ []) [])
        ≡ cond {A = ℕ} b 1 0
    by_flag true = refl
    by_flag false = refl

-- what the line of node 0 counts with what is gathered fits into numbers
pub record HasRoom (scale : Scale) (tree : TreeState) (few : Gathered) : Type 0 where
  pub children : (root_of scale tree).children + cond {A = ℕ} (nat_lt 0 few.places) 1 0 < 2 ^ 32
  pub cost : (root_of scale tree).cost + few.cost < 2 ^ 64

pub root-room : (scale : Scale) (tree : TreeState) (few : Gathered) (stacks : List Costed) (depth : ℕ)
    → HaveLines scale tree few stacks depth → HasRoom scale tree few
root-room scale tree few stacks depth have =
    let made = (root-given scale tree have.others depth have.has).made have.others depth have.has in
    let cost = root-cost scale tree have.others depth have.has in
    let parts = have.parts in
    let all = inclusive-all stacks in
    let within = have.within in
    let most = children-few depth scale stacks in
    let count = have.count in
    let one = one-line few in
    let same : first_children (cost_lines depth scale stacks)
    ≡ (root_of scale tree).children + length (lines_of few) =
    ap first_children
    (have.lines
    ∙ ap (λ (lines : List FrontLine). with_gathered lines (cost_of stacks []) (lines_of few)) (sym made)) in
    record { children = omega arith; cost = omega arith }

few-lines : (tree : TreeState) (few : Gathered) → map (line_at tree) (few_lines few) ≡ lines_of few
few-lines tree few = by_flag (nat_lt 0 few.places)
  where
    by_flag : (b : Bool)
        → map (line_at tree) (cond {A = List CostLine} b (gathered_line 1 few ∷ []) [])
        ≡ cond {A = List FrontLine} b
        (record { level = 1; children = 0; cost = few.cost; shown = gathered few.places } ∷ []) []
    by_flag true = refl
    by_flag false = refl

-- the lines of the tree, with what is gathered, are those of the stacks
pub both-lines : (scale : Scale) (tree : TreeState) (few : Gathered) (rest : List CostLine) (stacks : List Costed)
    (depth : ℕ) → AreLinesOf scale tree (root_of scale tree ∷ rest) → HaveLines scale tree few stacks depth
    → map (line_at tree) (root_line (root_of scale tree) few ∷ (rest ++ few_lines few)) ≡ cost_lines depth scale stacks
both-lines scale tree few rest stacks depth are have =
    let root : CostLine = root_of scale tree in
    let cost = root-cost scale tree have.others depth have.has in
    let parts = have.parts in
    let first : ℕ → ℕ → FrontLine =
    λ children total. record {
      level = root.level;
      children = children;
      cost = total;
      shown = shown_at tree root.place;
    } in
    ap (λ (ls : List FrontLine). line_at tree (root_line root few) ∷ ls)
    (map-append (line_at tree) rest (few_lines few)
    ∙ ap (λ (ls : List FrontLine). map (line_at tree) rest ++ ls) (few-lines tree few))
    ∙ ap (λ (n : ℕ). first n (root.cost + few.cost) ∷ (map (line_at tree) rest ++ lines_of few))
    (ap (λ (n : ℕ). root.children + n) (sym (one-line few)))
    ∙ ap (λ (n : ℕ). first (root.children + length (lines_of few)) n ∷ (map (line_at tree) rest ++ lines_of few))
    (let e : root.cost + few.cost ≡ cost_of stacks [] = omega arith in e)
    ∙ ap (λ (lines : List FrontLine). with_gathered lines (cost_of stacks []) (lines_of few))
    (are.all have.others depth have.has)
    ∙ sym have.lines
