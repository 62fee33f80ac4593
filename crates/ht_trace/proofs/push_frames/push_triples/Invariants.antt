use Rattle.std.proofs.Common.{◌≡◌, ◌++◌, length}
use Rattle.ht_lines.specs.Fields.{numbers}
use Rattle.ht_trace.specs.FramesSaid.{triples}
use Rattle.ht_trace.specs.KeepsFrames.{KeepsFrames}
use Rattle.ht_trace.specs.LineFault.{held_fault}
use Rattle.ht_trace.proofs.push_frames.push_triples.Given as goal

-- the frames so far and those of the rest are all, and the fault of all is that of the rest
abbrev pub invariant-triples : goal.invariant-triples
invariant-triples l = record {
  appended : l.frames.items ++ triples (numbers l.rest) ≡ l.initial.frames.items ++ triples (numbers l.tail);
  fault : held_fault l.strings (triples (numbers l.tail)) ≡ held_fault l.strings (triples (numbers l.rest));
  kept : KeepsFrames l.initial.frames.items l.frames.items;
}

abbrev pub decreases-triples : goal.decreases-triples
decreases-triples l = length l.rest
