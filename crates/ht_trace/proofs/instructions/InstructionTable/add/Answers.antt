use Rattle.std.proofs.Common.{refl}
use Rattle.ht_trace.proofs.EntryLemmas.{instructions-push}
use Rattle.ht_trace.proofs.instructions.InstructionTable.add.Goals as goal

pub returns-in-Ok-clause-added : goal.returns-in-Ok-clause-added
returns-in-Ok-clause-added c =
    rw (c.in-Ok.ensures.frames, c.in-Ok.ensures.entry, ← c.self.view_is)
    (instructions-push c.self.inside.frames.items _ c.self.inside.entries.items _ c.self.invariant refl refl)
