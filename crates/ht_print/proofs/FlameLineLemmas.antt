-- Lemmas on the lines that are still to be given.
use Rattle.std.proofs.Common.{◌≡◌, ℕ, zero, suc, ◌+◌, ◌<◌, ◌≤◌, eqb, false, List, [], ◌∷◌, ◌++◌, length, drop, get_or}
use Rattle.std.proofs.Common.{Some, refl, sym, ap, ◌∙◌, arith}
use Rattle.std.specs.Prelude.{codes, decimal, slice_get}
use Rattle.std.specs.List.{flat_map}
use Rattle.std.proofs.lemmas.Bool.Decides.{nat_tests}
use Rattle.std.proofs.lemmas.List.{drop_more}
use Rattle.cost_tree.specs.declared.node.CostNode.{CostNode}
use Rattle.cost_tree.specs.TreeState.{TreeState}
use Rattle.ht_print.specs.FlameLines.{HasLine, line_at, own_at}
use Rattle.ht_print.specs.FlameText.{flame_line, flame_path}
use Rattle.ht_print.specs.FlameWalk.{front_at}
use Rattle.ht_print.proofs.FlameLemmas.{flame_line-some}
use Rattle.ht_print.proofs.FlameNodes.{own-is}

-- the next line, and those behind it
pub next-line : (tree : TreeState) (nodes : List ℕ) (given n : ℕ) → given < length nodes → get_or nodes given n ≡ n
    → flat_map (line_at tree) (drop given nodes) ≡ line_at tree n ++ flat_map (line_at tree) (drop (given + 1) nodes)
next-line tree nodes given n within is =
    ap (λ (ns : List ℕ). flat_map (line_at tree) ns) (drop_more nodes given n within)
    ∙ ap (λ (k : ℕ). line_at tree k ++ flat_map (line_at tree) (drop (given + 1) nodes)) is

-- the line of a node that has one
pub line-is : (tree : TreeState) (n : ℕ) (node : CostNode) (path : List ℕ) → HasLine tree n
    → slice_get tree.nodes n ≡ Some node → path ≡ flame_path (front_at tree n)
    → path ++ (codes " " ++ (decimal node.own ++ codes "\n")) ≡ line_at tree n
line-is tree n node path has held is =
    let own = own-is tree n node held in
    let some = has.own in
    let tested : eqb node.own 0 ≡ false = grind (arith, nat_tests) in
    ap (λ (bytes : List ℕ). bytes ++ (codes " " ++ (decimal node.own ++ codes "\n"))) is
    ∙ sym (flame_line-some (front_at tree n) node.own tested)
    ∙ ap (λ (sum : ℕ). flame_line (front_at tree n) sum) (sym own)
