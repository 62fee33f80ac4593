-- The frames so far have their places.
use Rattle.std.proofs.Common.{map, take}
use Rattle.dhat_trace.specs.FrameTable.{profile_frame}
use Rattle.dhat_trace.specs.KnownPlaces.{GainsPlaces}
use Rattle.dhat_trace.proofs.frame_table.push_places.Given as goal

abbrev pub invariant-each_frame : goal.invariant-each_frame
invariant-each_frame l =
    GainsPlaces l.initial.texts l.initial.places.items (map (profile_frame l.tables) (take l.at-index l.frames)) l.texts
    l.places.items
