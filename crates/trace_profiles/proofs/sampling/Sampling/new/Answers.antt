use Rattle.std.proofs.Common.{ap, sym, ◌∙◌, length, arith}
use Rattle.trace_profiles.proofs.SamplingLemmas.{new_followed}
use Rattle.trace_profiles.proofs.sampling.Sampling.new.Goals as goal

pub returns-clause-fresh : goal.returns-clause-fresh
returns-clause-fresh g c =
    let made = c.in-Ok.ensures in
    let ledger = c.in_ok-ledger.ensures in
    let names = g.T.Settled.settings.names in
    new_followed g.T.Settled.settings _ c.in_ok-ledger.ledger c.in-Ok.sampler c.new-tables.result
    c.new-tables.ensures.stands
    (record {
      meant =
          rw (made.alloc_fns, made.ignore_fns) (
            c.requires.alloc_callable,
            c.requires.ignore_callable,
            c.requires.stated,
          );
      options = made.options ∙ sym c.requires.settled;
      judged = omega (arith, made.judged, ledger.stacks, ap length c.new-tables.ensures.nodes);
    })
    (record { figures = ledger.stands; sampling = made.stands names c.requires.stated })
    ledger.stacks ledger.infos
