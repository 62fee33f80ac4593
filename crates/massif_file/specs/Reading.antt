-- What the reader's fields say, and what a call of it does, for private clauses.
use Rattle.std.specs.Prelude.{◌≡◌, None, Result, Ok, Err}
use Rattle.massif_file.specs.declared.fault.ProfileFault.{ProfileFault}
use Rattle.massif_file.specs.declared.reading.Stage.{Stage}
use Rattle.massif_file.specs.declared.reading.Stage.TheVariants as stage
use Rattle.massif_file.specs.declared.reading.Reading.{Reading}
use Rattle.massif_file.specs.Progress.{Progress, in_descriptions, at_unit, at_snapshot, at_time, at_heap, at_extra}
use Rattle.massif_file.specs.Progress.{at_stacks, at_mark, in_tree, refused_for, fault_in}
use Rattle.massif_file.specs.UnlessNoMemory.{UnlessNoMemory}

abbrev pub shown_at : Stage → Reading → Progress
shown_at stage.Descriptions r = in_descriptions r.desc.items
shown_at stage.Unit r = at_unit r.profile.desc r.profile.cmd
shown_at stage.Snapshot r = at_snapshot r.profile
shown_at stage.Time r = at_time r.profile
shown_at stage.Heap r = at_heap r.profile r.snap.time
shown_at stage.Extra r = at_extra r.profile r.snap.time r.snap.heap
shown_at stage.Stacks r = at_stacks r.profile r.snap.time r.snap.heap r.snap.extra
shown_at stage.Mark r = at_mark r.profile r.snap.time r.snap.heap r.snap.extra r.snap.stacks
shown_at stage.Tree r = in_tree r.profile r.snap r.levels
shown_at (stage.Refused fault) r = refused_for fault

-- how far the reading is
abbrev pub shown : Reading → Progress
shown r = shown_at r.stage r

-- A call went on to what was to come next, or answered why that is refused, or memory was wanting.
abbrev pub Goes : Result (Unit {0}) ProfileFault → Progress → Progress → Type 0
Goes (Ok done) next new = (new ≡ next) × (fault_in new ≡ None)
Goes (Err fault) next new = UnlessNoMemory fault (next ≡ refused_for fault)
