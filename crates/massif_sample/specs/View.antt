-- How contracts see the fields of samples: for how many stacks there is room to list their marks is
-- no part of it, for private clauses.
use Rattle.std.specs.Prelude.{ℕ, Bool, List}
use Rattle.cost_history.specs.HistoryState.{RoomyHistory}
use Rattle.massif_cull.specs.declared.snapshot.Offer.{Offer}
use Rattle.massif_cull.specs.ArrayState.{ArrayState}
use Rattle.massif_sample.specs.declared.load.Load.{Load}
use Rattle.massif_sample.specs.declared.options.MassifOptions.{MassifOptions}
use Rattle.massif_sample.specs.declared.running.Running.{Running}
use Rattle.massif_sample.specs.SamplesState.{SamplesState}

abbrev pub state_of : MassifOptions → Running → ArrayState Load → Bool → List (List (List ℕ))
    → RoomyHistory → SamplesState
state_of options running array failed fronts history = record {
  options = options;
  running = running;
  array = array;
  failed = failed;
  fronts = fronts;
  history = history.history;
}

-- the offer of a snapshot with these figures
abbrev pub offer_of : Running → Bool → Offer
offer_of running as_peak
    = record { place = running.place; time = running.time; total = running.gross; peak = as_peak }
