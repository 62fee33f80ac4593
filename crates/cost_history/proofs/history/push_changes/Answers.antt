use Rattle.std.proofs.Common.{◌≡◌, ℕ, List, ◌++◌, length, take, subst, sym, ap, ◌∙◌, arith}
use Rattle.std.proofs.lemmas.List.{append-nil, length_push, take_all}
use Rattle.cost_history.specs.declared.change.Change.{Change}
use Rattle.cost_history.specs.Changes.{IsBetween}
use Rattle.cost_history.specs.HistoryState.{changes_to}
use Rattle.cost_history.specs.Marks.{candidates}
use Rattle.cost_history.proofs.Costs.{between-end, between-raise}
use Rattle.cost_history.proofs.Telling.{changes-held, changes-passed}
use Rattle.cost_history.proofs.history.push_changes.Goals as goal

pub loop-i-init : goal.loop-i-init
loop-i-init g c = record {
  most = (let same = ap (λ (xs : List Change). length xs) c.reserve.ensures.items in omega arith);
  room = (let ok = c.in_ok-reserve.ensures.ok in omega arith);
  pushed = λ costs says. c.reserve.ensures.items ∙ sym (append-nil c.args.changes.now.items);
  between =
      λ all last held up was. subst (λ (xs : List Change). IsBetween all 0 xs c.args.place)
      (sym c.reserve.ensures.items)
      (between-raise all 0 c.args.changes.now.items last c.args.place up was);
}

pub loop-i-preserved : goal.loop-i-preserved
loop-i-preserved g c =
    let at = c.candidate-stack.ensures in
    let there = c.if-stack-stacks.false in
    record {
      most =
          (let was = c.loop-i.invariant.most in let one = length_push c.loop-i.changes.items
          (record { place = c.args.place; stack = c.candidate-stack.result; cost = c.cost.result }) in let same = ap
          (λ (xs : List Change). length xs) c.push_reserved.ensures.items in omega arith);
      room =
          (let was = c.loop-i.invariant.room in let long = c.push_reserved.ensures.len in let cap =
          c.push_reserved.ensures.capacity in let test = c.loop-i-test.true in omega
          arith);
      pushed = λ costs says.
          c.push_reserved.ensures.items
          ∙ changes-held c.args.changes.now.items c.loop-i.changes.items c.args.stacks c.args.place costs
          (candidates c.args.marks.now.marks c.args.stacks) c.loop-i.i c.candidate-stack.result c.cost.result at there
          (says c.candidate-stack.result c.cost.result there c.cost.ensures) (c.loop-i.invariant.pushed costs says);
      between = λ all last held up was.
          subst (λ (xs : List Change). IsBetween all 0 xs c.args.place) (sym c.push_reserved.ensures.items)
          (between-end all 0 c.loop-i.changes.items c.args.place
          (record { place = c.args.place; stack = c.candidate-stack.result; cost = c.cost.result })
          (c.loop-i.invariant.between all last held up was) (omega arith) (omega arith));
    }

pub loop-i-preserved-then-stack-stacks : goal.loop-i-preserved-then-stack-stacks
loop-i-preserved-then-stack-stacks g c =
    let at = c.candidate-stack.ensures in
    let beyond = c.if-stack-stacks.true in
    record {
      most = (let was = c.loop-i.invariant.most in omega arith);
      room = (let was = c.loop-i.invariant.room in let test = c.loop-i-test.true in omega arith);
      pushed = λ costs says.
          c.loop-i.invariant.pushed costs says
          ∙ ap (λ (xs : List Change). c.args.changes.now.items ++ xs)
          (changes-passed c.args.stacks c.args.place costs (candidates c.args.marks.now.marks c.args.stacks) c.loop-i.i
          c.candidate-stack.result at (omega arith));
      between = c.loop-i.invariant.between;
    }

pub returns-clause-pushed : goal.returns-clause-pushed
returns-clause-pushed g c = λ costs says.
    (let all : take c.loop-i.i (candidates c.args.marks.now.marks c.args.stacks)
    ≡ candidates c.args.marks.now.marks c.args.stacks =
    take_all c.loop-i.i (candidates c.args.marks.now.marks c.args.stacks)
    (let count = c.candidates-count.ensures in let end = c.loop-i-test.false in omega arith) in
    c.loop-i.invariant.pushed costs says
    ∙ ap (λ (xs : List ℕ). c.args.changes.now.items ++ changes_to c.args.stacks c.args.place costs xs) all)
