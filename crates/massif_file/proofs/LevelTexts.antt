-- The levels that follow from the counts of children are those of the tree.
use Rattle.std.proofs.Common.{◌≡◌, ℕ, suc, ◌+◌, ◌-◌, List, [], ◌∷◌, ◌++◌, length, refl, sym, ap, ◌∙◌, append_assoc}
use Rattle.std.proofs.Common.{append-nil, arith}
use Rattle.massif_file.specs.TreeLine.{TreeLine}
use Rattle.massif_file.specs.Blanks.{blanks}
use Rattle.massif_file.specs.Levels.{without_done, after_line}
use Rattle.massif_file.specs.MassifText.{node_text, tree_lines}
use Rattle.massif_file.specs.TreeTexts.{tree_texts}
use Rattle.massif_file.specs.Trees.{Trees, no_tree, a_tree, count_of, lines_of}

-- trees side by side, with further lines to come at their level, and others behind them
texts_of : (t : Trees) (m : ℕ) (outer : List ℕ) (rest : List TreeLine)
    → tree_lines (without_done ((count_of t + m) ∷ outer)) (lines_of t ++ rest)
    ≡ tree_texts (length outer) t ++ tree_lines (without_done (m ∷ outer)) rest
texts_of no_tree m outer rest =
    ap (λ (k : ℕ). tree_lines (without_done (k ∷ outer)) rest) {x = 0 + m} {y = m} (omega arith)
texts_of (a_tree bytes label children others) m outer rest =
    let n : ℕ = count_of others + m in
    let line : TreeLine = record { children = count_of children; bytes = bytes; label = label } in
    let first : suc (count_of others) + m ≡ suc n = omega arith in
    let level : length (suc n ∷ outer) - 1 ≡ length outer = omega arith in
    let begun : after_line (count_of children) (suc n ∷ outer) ≡ without_done ((count_of children + 0) ∷ n ∷ outer) =
    ap (λ (k : ℕ). without_done (count_of children ∷ k ∷ outer)) {x = suc n - 1} {y = n} (omega arith)
    ∙ ap (λ (k : ℕ). without_done (k ∷ n ∷ outer)) {x = count_of children} {y = count_of children + 0}
    (omega arith) in
    let below = texts_of children 0 (n ∷ outer) (lines_of others ++ rest) in
    let beside = texts_of others m outer rest in
    let deep : length (n ∷ outer) ≡ suc (length outer) = refl in
    ap (λ (k : ℕ). tree_lines (without_done (k ∷ outer)) (line ∷ ((lines_of children ++ lines_of others) ++ rest)))
    first
    ∙ ap (λ (k : ℕ). (blanks k ++ node_text line)
    ∷ tree_lines (after_line (count_of children) (suc n ∷ outer)) ((lines_of children ++ lines_of others) ++ rest))
    level
    ∙ ap (λ (lines : List (List ℕ)). (blanks (length outer) ++ node_text line) ∷ lines) (
    ap (λ (lines : List TreeLine). tree_lines (after_line (count_of children) (suc n ∷ outer)) lines)
    (append_assoc (lines_of children) (lines_of others) rest)
    ∙ ap (λ (to_come : List ℕ). tree_lines to_come (lines_of children ++ (lines_of others ++ rest))) begun
    ∙ below
    ∙ ap (λ (lines : List (List ℕ)). tree_texts (suc (length outer)) children ++ lines) beside
    ∙ sym (append_assoc (tree_texts (suc (length outer)) children) (tree_texts (length outer) others)
    (tree_lines (without_done (m ∷ outer)) rest))
    )

-- the lines of one tree
pub level_texts : (tree : Trees) → count_of tree ≡ 1 → tree_lines (1 ∷ []) (lines_of tree) ≡ tree_texts 0 tree
level_texts tree one =
    let count : count_of tree + 0 ≡ 1 = omega (arith, one) in
    ap (tree_lines (1 ∷ [])) (sym (append-nil (lines_of tree)))
    ∙ ap (λ (k : ℕ). tree_lines (without_done (k ∷ [])) (lines_of tree ++ [])) (sym count)
    ∙ texts_of tree 0 [] []
    ∙ append-nil (tree_texts 0 tree)
