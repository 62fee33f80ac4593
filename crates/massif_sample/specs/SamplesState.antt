-- What contracts see of the snapshots of a trace, and what is true of them. What contracts see of a
-- sampler: its options, its figures, the array, whether memory was wanting, the texts of the
-- stacks, and the history.
use Rattle.std.specs.Prelude.{◌≡◌, ℕ, ◌≤◌, Bool, List}
use Rattle.cost_history.specs.HistoryState.{HistoryState}
use Rattle.massif_cull.specs.ArrayState.{ArrayState}
use Rattle.massif_cull.specs.Entries.{last_time}
use Rattle.massif_sample.specs.declared.load.Load.{Load}
use Rattle.massif_sample.specs.declared.options.MassifOptions.{MassifOptions}
use Rattle.massif_sample.specs.declared.running.Running.{Running}
use Rattle.massif_sample.specs.Options.{AreInRange, settings_of}
use Rattle.massif_sample.specs.Running as running

-- the options, the figures so far, the snapshots that are kept, whether memory was wanting for one,
-- the texts of the stacks so far that trees are built of, and what stacks cost at the places of the
-- snapshots that have a tree
pub record SamplesState : Type 0 where
  pub options : MassifOptions
  pub running : Running
  pub array : ArrayState Load
  pub failed : Bool
  pub fronts : List (List (List ℕ))
  pub history : HistoryState

-- the options are within their ranges and are the array's, the figures are sound, and no snapshot
-- is later than they are, nor any cost
pub record IsSound (samples : SamplesState) : Type 0 where
  pub options : AreInRange samples.options
  pub settings : samples.array.settings ≡ settings_of samples.options
  pub running : running.AreSound samples.options samples.running
  pub last : last_time samples.array.kept.entries ≤ samples.running.time
  pub told : samples.history.last ≤ samples.running.place
