use Rattle.std.proofs.Common.{◌≡◌, ℕ, arith, subst}
use Rattle.massif_file.specs.TreeLine.{line_of}
use Rattle.ms_print.proofs.TreesOfLemmas.{IsPassed, passed-all, passed-more, passed-none, passed-some}
use Rattle.ms_print.proofs.ends.end_of.Goals as goal

pub each_child-init : goal.each_child-init
each_child-init c = passed-none c.args.tree.now c.args.place c.requires.held

pub bounds-ends-next : goal.bounds-ends-next
bounds-ends-next c =
    let some =
    passed-some c.args.tree.now c.args.place (line_of c.at-end.result) c.each_child.counter c.each_child.next
    c.requires.whole c.at-end.ensures.item c.each_child.invariant c.each_child-test.true in
    let count = c.requires.known.count in
    omega arith

pub each_child-preserved : goal.each_child-preserved
each_child-preserved c =
    let some =
    passed-some c.args.tree.now c.args.place (line_of c.at-end.result) c.each_child.counter c.each_child.next
    c.requires.whole c.at-end.ensures.item c.each_child.invariant c.each_child-test.true in
    let later = c.each_child.invariant.later in
    passed-more c.args.tree.now c.args.place c.each_child.counter c.each_child.next _ c.each_child.invariant
    (c.requires.known.each c.each_child.next (omega arith) some)

pub returns : goal.returns
returns c =
    let all : c.each_child.counter ≡ c.at-end.result.children = omega arith in
    passed-all c.args.tree.now c.args.place (line_of c.at-end.result) c.each_child.next c.at-end.ensures.item
    (subst (λ (n : ℕ). IsPassed c.args.tree.now c.args.place n c.each_child.next) all c.each_child.invariant)
