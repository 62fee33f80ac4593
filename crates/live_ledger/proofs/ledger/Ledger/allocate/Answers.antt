use Rattle.std.proofs.Common.{arith, set}
use Rattle.live_ledger.specs.Consistent.{AreConsistent}
use Rattle.live_ledger.proofs.Views.{Allocating, allocating, sound, stack-within}
use Rattle.live_ledger.proofs.ledger.Ledger.allocate.Goals as goal
use Rattle.live_ledger.proofs.ledger.Ledger.allocate.Goals.{After-allocate-2, After-index_mut}

pub allocate-requires-clause-held : goal.allocate-requires-clause-held
allocate-requires-clause-held c = (c.args.stack, rw (← c.self.view_is) at c.requires.held)

pub index_mut-requires : goal.index_mut-requires
index_mut-requires c =
    omega
    (arith, stack-within _ c.self.inside.whole _ _ c.self.invariant (rw (← c.self.view_is) at c.requires.held))

-- the block is allocated in the sums of its stack
allocated : (c : After-index_mut)
    → Allocating c.self.inside.stacks.items c.self.inside.whole c.args.info c.args.stack c.args.size
    c.index_mut.result.now
allocated c =
    allocating _ _ _ _ _ _ c.self.invariant (rw (← c.self.view_is) at c.requires.held) c.index_mut.ensures.value

pub allocate-requires-2 : goal.allocate-requires-2
allocate-requires-2 c =
    let fits =
    (allocated c).fits (rw (← c.self.view_is) at c.requires.fits) (rw (← c.self.view_is) at c.requires.count) in
    record { calls = fits.0; allocated = fits.1 }

-- what is kept after it
kept : (c : After-allocate-2)
    → AreConsistent c.allocate.new.self.stacks (set c.self.inside.stacks.items c.args.stack c.allocate-2.new.self)
    c.allocate.new.self.infos c.allocate.new.self.sums
kept c =
    rw (c.allocate.ensures.after, c.allocate-2.ensures)
    ((allocated c.before).consistent (rw c.allocate.ensures.after at c.allocate.ensures.sound))

pub invariant_of-self : goal.invariant_of-self
invariant_of-self c = kept (goal.at.invariant_of-self c).After-allocate-2

pub returns : goal.returns
returns c = record {
  allocates =
      rw (← c.self.view_is, c.allocate.ensures.after, c.allocate-2.ensures)
      (allocated (goal.at.returns c).After-index_mut).changes;
  sound = sound _ c.allocate.new.self (kept (goal.at.returns c).After-allocate-2);
}
