use Rattle.std.proofs.Common.{◌≡◌, ◌<◌, ◌∙◌, length, get_or, sum, Some, arith}
use Rattle.std.specs.Prelude.{slice_get}
use Rattle.std.proofs.lemmas.Option.{slice_get-get_or}
use Rattle.live_ledger.specs.LedgerState.{HeldInfo}
use Rattle.ht_print.specs.Histogram.{allocations_at, weight}
use Rattle.ht_print.proofs.Sizes.{weighed-all, weighed-more, weighed-within}
use Rattle.ht_print.proofs.histogram.allocations.Goals as goal

pub returns-then-totals-eq0 : goal.returns-then-totals-eq0
unfolding allocations_at
returns-then-totals-eq0 c =
    let few = weighed-within c.args.least c.args.greatest c.args.ledger.now.infos c.args.ledger.now.info_calls in
    let none : c.args.ledger.now.totals.calls ≡ 0 = rw c.totals.ensures.value at c.if-totals-eq0.true in
    let sums : sum c.args.ledger.now.info_calls ≡ c.args.ledger.now.totals.calls =
    c.totals.ensures.sound.calls_of_infos in
    omega (arith, few, none, sums)

-- no info, where none is held
none : HeldInfo
none = record { stack = 0; size = 0 }

pub each_info-preserved : goal.each_info-preserved
each_info-preserved c =
    let held : c.each_info.info < length c.args.ledger.now.infos =
    omega (arith, c.each_info-test.true, c.infos-info-end.ensures) in
    let at : slice_get c.args.ledger.now.infos c.each_info.info
    ≡ Some (get_or c.args.ledger.now.infos c.each_info.info none) =
    slice_get-get_or c.args.ledger.now.infos c.each_info.info none held in
    let value = c.allocations_of-calls.ensures.value _ at in
    let more =
    weighed-more (weight c.args.least c.args.greatest) c.args.ledger.now.infos c.args.ledger.now.info_calls
    c.each_info.info none held in
    let sound = c.totals.ensures.sound in
    record {
      summed = omega (arith, value, more, c.each_info.invariant.summed);
      bound =
          omega (
            arith,
            c.allocations_of-calls.ensures.within,
            c.each_info.invariant.bound,
            sound.calls_and_frees,
            sound.events_within,
            sound.blocks_within,
          );
    }

pub returns : goal.returns
unfolding allocations_at
returns c =
    c.each_info.invariant.summed
    ∙ weighed-all (weight c.args.least c.args.greatest) c.args.ledger.now.infos c.args.ledger.now.info_calls
    c.each_info.info (omega (arith, c.each_info-test.false, c.infos-info-end.ensures))
