use Rattle.trace_reading.proofs.ReadingLemmas.{new_peaks}
use Rattle.trace_reading.proofs.suppressed_trace.SuppressedTraceFilePair.second.Goals as goal

pub new-requires-2-clause-new : goal.new-requires-2-clause-new
new-requires-2-clause-new g c =
    new_peaks c.in-Ok.peaks c.in-Ok.ensures.stands c.in-Ok.ensures.stacks c.in-Ok.ensures.infos _

pub returns-clause-new : goal.returns-clause-new
returns-clause-new g c = record {
  sound = c.new-2.ensures.no_lines.sound;
  no_lines = c.new-2.ensures.no_lines.read c.requires.sound.given c.requires.sound.stands;
  no_measure = c.new-2.ensures.no_lines.measure;
}
