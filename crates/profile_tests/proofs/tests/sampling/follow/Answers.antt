use Rattle.std.proofs.Common.{◌++◌, ◌∷◌, [], length, ap, ◌∙◌, arith, rules}
use Rattle.profile_tests.proofs.tests.sampling.follow.Goals as goal

pub steps-init : goal.steps-init
steps-init g c = record {
  callable = c.requires.callable;
  stacks = c.requires.stacks;
  judged = c.requires.judged;
  few = omega (arith, c.requires.none_yet);
  stands = c.requires.stands;
}

pub event-requires-clause-event : goal.event-requires-clause-event
event-requires-clause-event g c =
    let held = c.steps.invariant.stands in
    record {
      held = search rules;
      count = omega (arith, c.steps.invariant.few);
      stacks = c.steps.invariant.stacks;
      judged = c.steps.invariant.judged;
      stands = λ going. (held.0, held.1, held.3, held.4);
    }

pub steps-preserved : goal.steps-preserved
steps-preserved g c =
    let held = c.steps.invariant in
    let before = held.stands in
    let after = c.in_ok-event.ensures in
    rw (after.left.alloc_fns, after.left.ignore_fns)
    (record {
      callable = held.callable;
      stacks = after.left.applied.stacks ∙ held.stacks;
      judged = ap length after.left.judged ∙ held.judged;
      few = omega (arith, after.left.applied.at_most_one_more, held.few);
      stands = (
        before.0,
        before.1 ++ c.in-Some.event ∷ [],
        before.2,
        after.stands before.0 before.1 before.2 before.3 before.4,
        after.left.applied.stands before.1 before.4,
      );
    })
