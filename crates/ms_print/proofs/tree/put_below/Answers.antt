use Rattle.std.proofs.Common.{◌≡◌, ℕ, ◌<◌, eqb, false, List, ◌++◌, length, sym, ap, ◌∙◌, arith, append-nil}
use Rattle.std.proofs.lemmas.Bool.Decides.{nat_tests}
use Rattle.ms_print.specs.Pendings.{entry_children}
use Rattle.ms_print.proofs.LeftLemmas.{roots-blank}
use Rattle.ms_print.proofs.tree.put_below.Goals as goal

pub returns-then-not-is_empty-clause-appended : goal.returns-then-not-is_empty-clause-appended
returns-then-not-is_empty-clause-appended c =
    let empty : eqb (length c.children_into.new.children.items) 0 ≡ false =
    ap (λ (n : ℕ). eqb n 0) (sym c.children_into.new.children.ok.0) ∙ sym c.is_empty.ensures
    ∙ c.if-not-is_empty.true in
    let some : 0 < length c.children_into.new.children.items = grind (arith, nat_tests) in
    sym (append-nil c.args.out.now.items)
    ∙ ap (λ (text : List ℕ). c.args.out.now.items ++ text)
    (sym (roots-blank c.args.view.now.scale c.args.view.now.tree.now (length c.args.prefix.now)
    c.children_into.new.children.items (entry_children c.args.view.now.scale c.args.view.now.tree.now c.args.entry)
    c.args.prefix.now c.in_ok-children_into.ensures.roots some))
