use Rattle.std.proofs.Common.{arith, set}
use Rattle.live_ledger.specs.Consistent.{AreConsistent}
use Rattle.live_ledger.proofs.Views.{Freeing, freeing, sound, stack-within}
use Rattle.live_ledger.proofs.ledger.Ledger.free.Goals as goal
use Rattle.live_ledger.proofs.ledger.Ledger.free.Goals.{After-free, After-index_mut}

pub free-ended-requires-clause-held : goal.free-ended-requires-clause-held
free-ended-requires-clause-held c = (c.args.stack, rw (← c.self.view_is) at c.requires.held)

pub index_mut-requires : goal.index_mut-requires
index_mut-requires c =
    omega
    (arith, stack-within _ c.self.inside.whole _ _ c.self.invariant (rw (← c.self.view_is) at c.requires.held))

-- the block is freed in the sums of its stack
freed : (c : After-index_mut)
    → Freeing c.self.inside.stacks.items c.self.inside.whole c.args.info c.args.stack c.args.size
    c.index_mut.result.now
freed c =
    freeing _ _ _ _ _ _ c.self.invariant (rw (← c.self.view_is) at c.requires.held)
    (rw (← c.self.view_is) at c.requires.live) c.index_mut.ensures.value

pub free-requires : goal.free-requires
free-requires c = rw c.free-ended.ensures.ended (record {
  frees = (freed c).fits.frees;
  freed = (freed c).fits.freed;
  temporary = (freed c).fits.temporary;
})

-- what is kept after it
kept : (c : After-free)
    → AreConsistent c.free-ended.new.self.stacks (set c.self.inside.stacks.items c.args.stack c.free.new.self)
    c.free-ended.new.self.infos c.free-ended.new.self.sums
kept c =
    rw (c.free-ended.ensures.after, c.free.ensures, c.free-ended.ensures.ended)
    ((freed c.before).consistent (rw c.free-ended.ensures.after at c.free-ended.ensures.sound))

pub invariant_of-self : goal.invariant_of-self
invariant_of-self c = kept (goal.at.invariant_of-self c).After-free

pub returns : goal.returns
returns c = record {
  frees =
      rw (← c.self.view_is, c.free-ended.ensures.after, c.free.ensures, c.free-ended.ensures.ended)
      (freed (goal.at.returns c).After-index_mut).changes;
  sound = sound _ c.free-ended.new.self (kept (goal.at.returns c).After-free);
}
