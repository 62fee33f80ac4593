use Rattle.std.proofs.Common.{List, [], ◌∷◌, ◌++◌, length, sym, ap, ◌∙◌, append-nil}
use Rattle.cost_tree.specs.declared.lines.Pending.{Pending}
use Rattle.cost_tree.proofs.Walking.{alone-is, child-held, none-is}
use Rattle.cost_tree.proofs.lines.push_children.Goals as goal

pub only_child-requires : goal.only_child-requires
only_child-requires c = record { held = child-held c.args.tree.now c.args.node c.in-One.child c.in-One.ensures }

pub returns-in-None-clause-appended : goal.returns-in-None-clause-appended
returns-in-None-clause-appended c =
    sym (append-nil c.args.pending.now.items)
    ∙ ap (λ (ps : List Pending). c.args.pending.now.items ++ ps)
    (sym (none-is c.args.scale c.args.tree.now c.args.level c.args.node c.in-None.ensures))

pub returns-in-None-clause-count : goal.returns-in-None-clause-count
returns-in-None-clause-count c =
    ap (λ (ps : List Pending). length ps)
    (sym (none-is c.args.scale c.args.tree.now c.args.level c.args.node c.in-None.ensures))

pub returns-in_ok-push-in-One-clause-appended : goal.returns-in_ok-push-in-One-clause-appended
returns-in_ok-push-in-One-clause-appended c =
    c.in_ok-push-in-One.ensures.items
    ∙ ap (λ (p : Pending). c.args.pending.now.items ++ p ∷ []) c.only_child.ensures
    ∙ ap (λ (ps : List Pending). c.args.pending.now.items ++ ps)
    (sym (alone-is c.args.scale c.args.tree.now c.args.level c.args.node c.in-One.child c.in-One.ensures))

pub returns-in_ok-push-in-One-clause-count : goal.returns-in_ok-push-in-One-clause-count
returns-in_ok-push-in-One-clause-count c =
    ap (λ (ps : List Pending). length ps)
    (sym (alone-is c.args.scale c.args.tree.now c.args.level c.args.node c.in-One.child c.in-One.ensures))
