use Rattle.std.proofs.Common.{◌≡◌, ◌<◌, length, arith, rules, ◌∙◌}
use Rattle.std.proofs.lemmas.Result.{on_ok_weaker}
use Rattle.live_ledger.specs.Events.{event_count}
use Rattle.massif_sample.specs.FunctionNames.{ignores}
use Rattle.massif_sample.specs.LiveCosts.{live_cost}
use Rattle.massif_sample.proofs.Costs.{live_cost-is}
use Rattle.massif_sample.proofs.Growing.{cost-none, of-stacks}
use Rattle.massif_sample.proofs.taking.sample_ledger.Goals as goal

pub sample-requires-clause-cost_callable : goal.sample-requires-clause-cost_callable
sample-requires-clause-cost_callable g c = λ stack below.
    let held : stack < length c.args.stacks.now.judged.now = omega (arith, c.requires.beside.judged) in
    let inside : stack < c.args.ledger.now.stacks = omega (arith, c.requires.beside.held) in
    search rules

pub returns-clause-sampling : goal.returns-clause-sampling
returns-clause-sampling g c =
    on_ok_weaker c.sample.result
    (λ sampled names events made texts judged stands was.
    sampled names events made texts
    (record {
      said = λ stack says below answered.
          (let cost : says ≡ live_cost c.args.stacks.now.judged.now c.args.ledger.now stack = search rules in
          cost
          ∙ live_cost-is c.args.stacks.now.judged.now c.args.ledger.now names c.args.stacks.now.tables.now events
          stack judged (omega (arith, c.requires.beside.judged)) stands);
      none =
          λ stack beyond. cost-none c.args.stacks.now.tables.now (ignores c.args.stacks.now.tables.now names) events
          (event_count events) stack (omega arith) (of-stacks c.args.stacks.now.tables.now events was.stacks);
    })
    was)
    c.sample.ensures.sampling
