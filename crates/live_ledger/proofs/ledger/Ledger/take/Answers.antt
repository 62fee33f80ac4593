use Rattle.std.proofs.Common.{refl}
use Rattle.live_ledger.proofs.TakenLemmas.{has_taken}
use Rattle.live_ledger.proofs.ledger.Ledger.take.Goals as goal

pub returns-in-Alloc : goal.returns-in-Alloc
returns-in-Alloc c =
    has_taken _ _ c.args.event c.requires.held c.requires.no_fault (rw c.in-Alloc.is c.allocate.ensures.allocates)
    c.allocate.ensures.sound

pub returns-in-Free : goal.returns-in-Free
returns-in-Free c =
    has_taken _ _ c.args.event c.requires.held c.requires.no_fault (rw c.in-Free.is c.free.ensures.frees)
    c.free.ensures.sound

pub returns-in-Tick : goal.returns-in-Tick
returns-in-Tick c =
    has_taken _ _ c.args.event c.requires.held c.requires.no_fault (rw c.in-Tick.is refl) c.stacks-stacks.ensures.sound
