-- The text of a tree's lines without the first one.
use Rattle.std.proofs.Common.{◌≡◌, ℕ, List, [], ◌∷◌, length, map, drop, refl, sym, ap, ◌∙◌, arith}
use Rattle.std.specs.Prelude.{All}
use Rattle.std.specs.List.{flat_map}
use Rattle.std.proofs.lemmas.List.Elements.{All-weaker}
use Rattle.std.proofs.lemmas.List.Folds.{flat_map-map}
use Rattle.cost_tree.specs.declared.line.CostLine.{CostLine}
use Rattle.cost_tree.specs.declared.scale.Scale.{Scale}
use Rattle.cost_tree.specs.Costed.{Costed}
use Rattle.cost_tree.specs.CostLines.{FrontLine, cost_lines}
use Rattle.cost_tree.specs.TreeLines.{IsLineOf, line_at}
use Rattle.cost_tree.specs.TreeState.{TreeState}
use Rattle.dhat_view.specs.Lines.{line_text}
use Rattle.dhat_view.specs.LinesIn.{IsViewed, IsWritten, text_in}
use Rattle.dhat_view.specs.TreeText.{tree_text}

pub below-text : (depth : ℕ) (scale : Scale) (tree : TreeState) (stacks : List Costed) (lines below : List CostLine)
    → map (line_at tree) lines ≡ cost_lines depth scale stacks → drop 1 lines ≡ below
    → flat_map (text_in scale tree) below ≡ tree_text depth scale stacks
unfolding tree_text
below-text depth scale tree stacks lines below are is =
    ap (λ (ls : List CostLine). flat_map (text_in scale tree) ls) (sym is)
    ∙ sym (flat_map-map (line_text scale) (line_at tree) (drop 1 lines))
    ∙ ap (λ (ls : List FrontLine). flat_map (line_text scale) ls) (dropped lines)
    ∙ ap (λ (ls : List FrontLine). flat_map (line_text scale) (drop 1 ls)) are
  where
    dropped : (ls : List CostLine) → map (line_at tree) (drop 1 ls) ≡ drop 1 (map (line_at tree) ls)
    dropped [] = refl
    dropped (line ∷ ls) = refl

-- no lines, and none without the first
pub none-below : (lines : List CostLine) → length lines ≡ 0 → drop 1 lines ≡ []
none-below [] none = refl
none-below (line ∷ lines) none = absurd (omega arith)

pub may-write : (scale : Scale) (tree : TreeState) (stacks : List Costed) (depth : ℕ) (lines : List CostLine)
    → IsViewed scale.total tree stacks depth → All (IsLineOf tree stacks depth) lines → All (IsWritten scale tree) lines
may-write scale tree stacks depth lines is all =
    All-weaker (IsLineOf tree stacks depth) (IsWritten scale tree)
    (λ line of.
    let level = of.level in
    let within = of.within in
    let shallow = is.lines.shallow in
    let whole = is.total_is in
    record { place = of.place; level = omega arith; part = omega arith })
    lines all
