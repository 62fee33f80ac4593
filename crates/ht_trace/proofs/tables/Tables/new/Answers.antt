use Rattle.ht_trace.proofs.SoundLemmas.{sound-none}
use Rattle.ht_trace.proofs.tables.Tables.new.Goals as goal

pub invariant_of-result : goal.invariant_of-result
invariant_of-result c = rw (c.new-2.ensures.empty, c.new-3.ensures.empty, c.new-4.ensures.empty) (sound-none _)
