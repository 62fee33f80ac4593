-- The ledger and the sampler stand for the events so far.
use Rattle.std.proofs.Common.{◌≡◌, ◌+◌, ◌≤◌, List, length}
use Rattle.std.specs.Fn.{FnReturnsAt}
use Rattle.live_ledger.specs.declared.event.Event.{Event}
use Rattle.live_ledger.specs.StandsFor as ledger_spec
use Rattle.massif_sample.specs.FunctionNames.{AreStated, FunctionNames}
use Rattle.massif_sample.specs.StandsFor as sample_spec
use Rattle.profile_tests.proofs.tests.sampling.follow.Given as goal

abbrev pub invariant-steps : goal.invariant-steps
invariant-steps g l = record {
  callable : goal.A-IsAlwaysCallable g l.sampler.alloc_fns.test;
  stacks : l.ledger.stacks ≡ length l.tables.nodes + 1;
  judged : length l.sampler.judged.items ≡ length l.tables.nodes + 1;
  few : l.ledger.totals.events ≤ l.index;
  stands : (names : FunctionNames) × (events : List Event)
      × AreStated (FnReturnsAt g.A.Fn l.sampler.alloc_fns.test) (FnReturnsAt g.I.Fn l.sampler.ignore_fns.test) names
      × sample_spec.StandsFor l.sampler.judged.items l.sampler.samples names l.tables events
      × ledger_spec.StandsFor l.ledger events;
}
