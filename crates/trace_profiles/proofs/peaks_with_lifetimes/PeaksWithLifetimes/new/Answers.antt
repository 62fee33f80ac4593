use Rattle.std.proofs.Common.{sym, ◌∙◌}
use Rattle.trace_profiles.proofs.peaks_with_lifetimes.PeaksWithLifetimes.new.Goals as goal

pub returns : goal.returns
returns c = λ tables.
    let peaks = c.in_ok-peaks.ensures in
    let lifetimes = c.in_ok-lifetimes.ensures in
    record {
      sound = lifetimes.stacks ∙ sym peaks.stacks;
      stacks = peaks.stacks;
      infos = peaks.infos;
      events = peaks.stands.ledger.whole.figures.events_is;
      stands = record { peaks = peaks.stands; lives = lifetimes.stands };
    }
