use Rattle.std.proofs.Common.{◌≡◌, ◌-◌, ◌<◌, ◌≤◌, length, get_or, ◌∙◌, arith}
use Rattle.std.proofs.lemmas.Grind.{get_or_default_zero}
use Rattle.std.proofs.lemmas.List.{length-set}
use Rattle.cost_history.proofs.Sifting.{ahead-kept, ahead-next, ahead-out, sifting-held, sifting-kept, sifting-out}
use Rattle.cost_history.proofs.thinning.sift.Goals as goal
use Rattle.cost_history.proofs.thinning.sift.Goals.{After-index, After-index-change, After-kept_from-next}

pub kept_from-next-requires-clause-ahead : goal.kept_from-next-requires-clause-ahead
kept_from-next-requires-clause-ahead c =
    let some = c.changes-test.true in
    λ within. (ahead-next _ _ _ _ _ _ (c.changes.i - 1) c.changes.i c.changes.next c.index-change.result.now
    c.changes.invariant.sifting (omega arith) c.index-change.ensures (c.changes.invariant.ahead within)).1

-- the change that is read is of a stack that has a cell
has-cell : (c : After-index-change) → c.index-change.result.now.stack < c.changes.seen.len
has-cell c =
    let some = c.changes-test.true in
    let held =
    sifting-held _ _ _ _ _ _ (c.changes.i - 1) c.changes.i c.index-change.result.now c.changes.invariant.sifting
    (omega arith) c.index-change.ensures in
    omega arith

-- and this is what it has
reads-cell : (c : After-index) → c.index-change.result.now.stack < c.changes.seen.len
    → c.index.result.now ≡ get_or c.changes.seen.items c.index-change.result.now.stack 0
reads-cell c cell =
    c.index.ensures
    ∙ get_or_default_zero c.changes.seen.items c.index-change.result.now.stack c.index.result.now (omega arith)

-- the kept place that comes next is one of them, or the end
next-within : (c : After-kept_from-next) → c.kept_from-next.result ≤ length c.args.kept.now
next-within c =
    let fewer = c.kept_from-next.ensures.most in let was = c.changes.invariant.next_within in omega arith

pub index-requires : goal.index-requires
index-requires c = has-cell (goal.at.index-requires c).After-index-change

pub index_mut-requires-then-index-until : goal.index_mut-requires-then-index-until
index_mut-requires-then-index-until c = has-cell (goal.at.index_mut-requires-then-index-until c).After-index-change

pub changes-preserved-then-index-until : goal.changes-preserved-then-index-until
changes-preserved-then-index-until c =
    let some = c.changes-test.true in
    let cell = has-cell (goal.at.changes-preserved-then-index-until c).After-index-change in
    let same = reads-cell (goal.at.changes-preserved-then-index-until c).After-index cell in
    let above = c.if-index-until.true in
    record {
      sifting =
          sifting-kept _ _ _ _ _ _ (c.changes.i - 1) c.changes.i c.index-change.result.now c.until-until.result
          c.changes.invariant.sifting (omega arith) c.index-change.ensures c.until-until.ensures.kept (omega arith);
      seen_long =
          (let long = length-set c.changes.seen.items c.index-change.result.now.stack
          c.index-change.result.now.place in let was = c.changes.invariant.seen_long in omega arith);
      next_within = next-within (goal.at.changes-preserved-then-index-until c).After-kept_from-next;
      ahead = λ within.
          ahead-kept _ _ _ _ _ _ (c.changes.i - 1) c.changes.i c.kept_from-next.result c.index-change.result.now
          c.changes.invariant.sifting (omega arith) c.index-change.ensures
          (c.kept_from-next.ensures.first.ahead within);
    }

pub changes-preserved : goal.changes-preserved
changes-preserved c =
    let some = c.changes-test.true in
    let cell = has-cell (goal.at.changes-preserved c).After-index-change in
    let same = reads-cell (goal.at.changes-preserved c).After-index cell in
    let below = c.if-index-until.false in
    let most = c.until-until.ensures.most in
    let last_most = c.requires.last in
    record {
      sifting =
          sifting-out _ _ _ _ _ _ (c.changes.i - 1) c.changes.i c.index-change.result.now c.until-until.result
          c.changes.invariant.sifting (omega arith) c.index-change.ensures c.until-until.ensures.asked (omega arith)
          (omega arith);
      seen_long = c.changes.invariant.seen_long;
      next_within = next-within (goal.at.changes-preserved c).After-kept_from-next;
      ahead = λ within.
          ahead-out _ _ _ _ _ _ (c.changes.i - 1) c.changes.i c.kept_from-next.result c.index-change.result.now
          c.changes.invariant.sifting (omega arith) c.index-change.ensures
          (c.kept_from-next.ensures.first.ahead within);
    }
