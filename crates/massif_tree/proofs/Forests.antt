-- Trees whose lines are those of a snapshot: how many they are, and how deep.
use Rattle.std.proofs.Common.{◌≡◌, ℕ, zero, suc, ◌+◌, ◌≤◌, List, [], ◌∷◌, ◌++◌, length, map, refl, sym, ap, ◌∙◌, arith}
use Rattle.std.proofs.Common.{append_assoc}
use Rattle.std.specs.List.{flat_map}
use Rattle.std.proofs.lemmas.List.{map-append}
use Rattle.cost_tree.specs.declared.scale.Scale.{Scale}
use Rattle.cost_tree.specs.Costed.{Costed}
use Rattle.cost_tree.specs.CostLines.{FrontLine, cost_of, front_lines, gathered_lines, kept_fronts, small_fronts}
use Rattle.massif_file.specs.TreeLine.{TreeLine}
use Rattle.massif_file.specs.Trees.{Trees, no_tree, a_tree, count_of, levels_of, lines_of}
use Rattle.massif_tree.specs.MassifTree.{label_in, label_of, massif_line}

-- a tree for each element, side by side, before others
abbrev beside : {X : Type 0} → (X → Trees → Trees) → List X → Trees → Trees
beside tree [] others = others
beside tree (x ∷ xs) others = tree x (beside tree xs others)

-- a tree of one line for each line
leaves : ℕ → List FrontLine → Trees
leaves threshold [] = no_tree
leaves threshold (line ∷ lines) = a_tree line.cost (label_in threshold line.shown) no_tree (leaves threshold lines)

-- the tree of a front, down to so many texts more, before others
pub front_tree : ℕ → Scale → List Costed → List (List ℕ) → Trees → Trees
front_tree zero scale stacks front others = a_tree (cost_of stacks front) (label_of front) no_tree others
front_tree (suc more) scale stacks front others =
    a_tree (cost_of stacks front) (label_of front)
    (beside (front_tree more scale stacks) (kept_fronts scale stacks front)
    (leaves scale.threshold (gathered_lines stacks (length front + 1) (small_fronts scale stacks front))))
    others

lines-beside : {X : Type 0} (threshold : ℕ) (tree : X → Trees → Trees) (lines : X → List FrontLine)
    → ((x : X) (others : Trees) → lines_of (tree x others) ≡ map (massif_line threshold) (lines x) ++ lines_of others)
    → (xs : List X) (others : Trees)
    → lines_of (beside tree xs others) ≡ map (massif_line threshold) (flat_map lines xs) ++ lines_of others
lines-beside threshold tree lines one [] others = refl
lines-beside threshold tree lines one (x ∷ xs) others =
    let M : List FrontLine → List TreeLine = λ ls. map (massif_line threshold) ls in
    one x (beside tree xs others)
    ∙ ap (λ (ls : List TreeLine). M (lines x) ++ ls) (lines-beside threshold tree lines one xs others)
    ∙ sym (append_assoc (M (lines x)) (M (flat_map lines xs)) (lines_of others))
    ∙ ap (λ (ls : List TreeLine). ls ++ lines_of others)
    (sym (map-append (massif_line threshold) (lines x) (flat_map lines xs)))

count-beside : {X : Type 0} (tree : X → Trees → Trees)
    → ((x : X) (others : Trees) → count_of (tree x others) ≡ suc (count_of others)) → (xs : List X) (others : Trees)
    → count_of (beside tree xs others) ≡ length xs + count_of others
count-beside tree one [] others = omega arith
count-beside tree one (x ∷ xs) others =
    let first = one x (beside tree xs others) in let rest = count-beside tree one xs others in omega arith

levels-beside : {X : Type 0} (tree : X → Trees → Trees) (most : ℕ)
    → ((x : X) (others : Trees) → levels_of others ≤ most → levels_of (tree x others) ≤ most)
    → (xs : List X) (others : Trees)
    → levels_of others ≤ most → levels_of (beside tree xs others) ≤ most
levels-beside tree most one [] others few = few
levels-beside tree most one (x ∷ xs) others few =
    one x (beside tree xs others) (levels-beside tree most one xs others few)

-- the one line of fronts that are gathered
leaves-lines : (threshold : ℕ) (stacks : List Costed) (level : ℕ) (fronts : List (List (List ℕ)))
    → lines_of (leaves threshold (gathered_lines stacks level fronts))
    ≡ map (massif_line threshold) (gathered_lines stacks level fronts)
unfolding gathered_lines leaves
leaves-lines threshold stacks level [] = refl
leaves-lines threshold stacks level (next ∷ more) = refl

leaves-count : (threshold : ℕ) (lines : List FrontLine) → count_of (leaves threshold lines) ≡ length lines
unfolding leaves
leaves-count threshold [] = refl
leaves-count threshold (line ∷ lines) = let rest = leaves-count threshold lines in omega arith

leaves-levels : (threshold : ℕ) (lines : List FrontLine) → levels_of (leaves threshold lines) ≤ 1
unfolding leaves
leaves-levels threshold [] = omega arith
leaves-levels threshold (line ∷ lines) = let rest = leaves-levels threshold lines in omega arith

pub front-count : (more : ℕ) (scale : Scale) (stacks : List Costed) (front : List (List ℕ)) (others : Trees)
    → count_of (front_tree more scale stacks front others) ≡ suc (count_of others)
unfolding front_tree
front-count zero scale stacks front others = refl
front-count (suc more) scale stacks front others = refl

-- its lines are those of the front
pub front-lines : (more : ℕ) (scale : Scale) (stacks : List Costed) (front : List (List ℕ)) (others : Trees)
    → lines_of (front_tree more scale stacks front others)
    ≡ map (massif_line scale.threshold) (front_lines more scale stacks front) ++ lines_of others
unfolding front_tree front_lines
front-lines zero scale stacks front others = refl
front-lines (suc more) scale stacks front others =
    let M : List FrontLine → List TreeLine = λ ls. map (massif_line scale.threshold) ls in
    let kept : List (List (List ℕ)) = kept_fronts scale stacks front in
    let few : List FrontLine = gathered_lines stacks (length front + 1) (small_fronts scale stacks front) in
    let last : Trees = leaves scale.threshold few in
    let below : Trees = beside (front_tree more scale stacks) kept last in
    let line : ℕ → TreeLine =
    λ children. record { children = children; bytes = cost_of stacks front; label = label_of front } in
    let leaf = leaves-count scale.threshold few in
    let all = count-beside (front_tree more scale stacks) (front-count more scale stacks) kept last in
    let count : count_of below ≡ length kept + length few = omega arith in
    let lines : lines_of below ≡ M (flat_map (front_lines more scale stacks) kept ++ few) =
    lines-beside scale.threshold (front_tree more scale stacks) (front_lines more scale stacks)
    (front-lines more scale stacks) kept last
    ∙ ap (λ (ls : List TreeLine). M (flat_map (front_lines more scale stacks) kept) ++ ls)
    (leaves-lines scale.threshold stacks (length front + 1) (small_fronts scale stacks front))
    ∙ sym (map-append (massif_line scale.threshold) (flat_map (front_lines more scale stacks) kept) few) in
    ap (λ (n : ℕ). line n ∷ (lines_of below ++ lines_of others)) count
    ∙ ap (λ (ls : List TreeLine). line (length kept + length few) ∷ (ls ++ lines_of others)) lines

-- it has a level for its own line, and one for each text more
pub front-levels : (more most : ℕ) (scale : Scale) (stacks : List Costed) (front : List (List ℕ)) (others : Trees)
    → more + 1 ≤ most → levels_of others ≤ most
    → levels_of (front_tree more scale stacks front others) ≤ most
unfolding front_tree
front-levels zero most scale stacks front others enough few = omega arith
front-levels (suc more) most scale stacks front others enough few =
    let last : Trees =
    leaves scale.threshold (gathered_lines stacks (length front + 1) (small_fronts scale stacks front)) in
    let leaf =
    leaves-levels scale.threshold (gathered_lines stacks (length front + 1) (small_fronts scale stacks front)) in
    let below =
    levels-beside (front_tree more scale stacks) (more + 1)
    (λ x rest. front-levels more (more + 1) scale stacks x rest (omega arith)) (kept_fronts scale stacks front) last
    (omega arith) in
    omega arith
