use Rattle.std.proofs.Common.{◌≡◌, ℕ, length, replicate, ap, sym, ◌∙◌, subst, arith, rules}
use Rattle.std.proofs.lemmas.List.{length-replicate}
use Rattle.massif_file.specs.TreeLine.{line_of}
use Rattle.convert.proofs.LeftBytes.{IsLeft, left-next, left-none}
use Rattle.convert.proofs.left_bytes.left_bytes.Goals as goal

pub each_line-init : goal.each_line-init
each_line-init c =
    let zeros : c.in_ok-left.left.items ≡ replicate (length c.args.tree.now) 0 = search rules in
    subst (λ (k : ℕ). IsLeft c.args.tree.now c.in_ok-left.left.items c.new-roots.result.items k)
    (sym c.len-place.ensures.length)
    (left-none c.args.tree.now c.in_ok-left.left.items c.new-roots.result.items
    (ap length zeros ∙ length-replicate (length c.args.tree.now) 0) c.new-roots.ensures.items)

pub each_line-preserved : goal.each_line-preserved
each_line-preserved c =
    let place = c.each_line.place in
    let all = c.len-place.ensures.length in
    left-next c.args.tree.now c.each_line.left.items c.each_line.roots.items c.take_line.new.roots.items place
    c.in_ok-left-2.field-0 (line_of c.at.result)
    (omega arith) (omega arith) c.each_line.invariant c.at.ensures.item c.in_ok-left-2.ensures.left
    c.in_ok-left-2.ensures.roots
