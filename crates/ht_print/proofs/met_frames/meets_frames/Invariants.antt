use Rattle.std.specs.Prelude.{◌≡◌, false, take}
use Rattle.std.specs.List.{list_any}
use Rattle.ht_print.specs.MetFrames.{meets_frame}
use Rattle.ht_print.proofs.met_frames.meets_frames.Given as goal

-- none of the texts so far has a pattern in it
abbrev pub invariant-each_frame : goal.invariant-each_frame
invariant-each_frame l = list_any (meets_frame l.tables) (take l.at-index l.frames) ≡ false
