-- Peaks and lifetimes, as what follows a trace.
use Rattle.std.specs.Prelude.{◌≡◌, List, length}
use Rattle.dhat_metrics.specs.LifeState.{LifeState}
use Rattle.dhat_metrics.specs.StandsFor as life_spec
use Rattle.live_ledger.specs.declared.event.Event.{Event}
use Rattle.peak_costs.specs.Peak as peak_spec
use Rattle.peak_costs.specs.PeakState.{PeakState}
use Rattle.ht_trace.specs.TableState.{TableState}
use Rattle.trace_reading.specs.Following.{Following, IsNew}

-- both stand for the events
pub record StandFor (held : PeakState) (lifetimes : LifeState) (events : List Event) : Type 0 where
  pub peaks : peak_spec.StandsFor held events
  pub lives : life_spec.StandsFor lifetimes events

-- the lifetimes hold the stacks of the peaks, and both stand for the events, whatever the tables are
abbrev pub lifetimes_view : PeakState → LifeState → Following
lifetimes_view peaks lifetimes = record {
  ledger = peaks.ledger;
  stands = λ tables. StandFor peaks lifetimes;
  sound = length lifetimes.figures ≡ peaks.ledger.stacks;
}

-- nothing was followed yet, whatever the tables are
abbrev pub IsAlwaysNew : Following → Type 0
IsAlwaysNew following = (tables : TableState) → IsNew tables following
