use Rattle.std.proofs.Common.{List, length, ap, arith}
use Rattle.std.proofs.lemmas.List.{length-append}
use Rattle.cost_tree.specs.declared.lines.Pending.{Pending}
use Rattle.cost_tree.specs.Pendings.{pending_children}
use Rattle.cost_tree.proofs.Walks.{children-fewer}
use Rattle.cost_tree.proofs.lines.push_several.Goals as goal

pub overflow_cast-result : goal.overflow_cast-result
overflow_cast-result c =
    let all = ap (λ (ps : List Pending). length ps) c.in_ok-push_shown.ensures.appended in
    let parts =
    length-append c.args.pending.now.items (pending_children c.args.scale c.args.tree.now c.args.level c.args.node) in
    let fewer = children-fewer c.args.scale c.args.tree.now c.args.level c.args.node in
    omega arith

pub returns-clause-count : goal.returns-clause-count
returns-clause-count c =
    let all = ap (λ (ps : List Pending). length ps) c.in_ok-push_shown.ensures.appended in
    let parts =
    length-append c.args.pending.now.items (pending_children c.args.scale c.args.tree.now c.args.level c.args.node) in
    omega arith
