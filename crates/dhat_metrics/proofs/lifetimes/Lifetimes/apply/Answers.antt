use Rattle.std.proofs.Common.{◌≡◌, ◌+◌, ◌-◌, refl, arith}
use Rattle.live_ledger.specs.declared.event.Event.TheVariants.{Alloc, Free}
use Rattle.dhat_metrics.proofs.LifeLemmas.{HasMoved, TakesFree, moved-alloc, moved-free, sound-of, stands-move}
use Rattle.dhat_metrics.proofs.LifeLemmas.{stands-tick, takes-alloc, takes-free}
use Rattle.dhat_metrics.proofs.lifetimes.Lifetimes.apply.Goals as goal

pub allocate-requires-clause-fits : goal.allocate-requires-clause-fits
allocate-requires-clause-fits c =
    (takes-alloc _ _ _ _ c.in-Alloc.info c.in-Alloc.stack c.in-Alloc.size _ c.self.view_is c.in-Alloc.is c.requires.held
    c.requires.possible c.possible_events.ensures c.index_mut.ensures.value).fits

-- the sums and the figures after an allocation
allocated : (c : goal.After-self-in-Alloc-1)
    → HasMoved c.self.inside.events c.self.inside.lives.items c.in-Alloc.stack c.allocate.new.self
    (Alloc c.in-Alloc.info c.in-Alloc.stack c.in-Alloc.size)
allocated c =
    let few = rw (← c.self.view_is) at c.requires.count in
    moved-alloc _ _ _ _ _ _ _ few c.self.invariant
    (takes-alloc _ _ _ _ c.in-Alloc.info c.in-Alloc.stack c.in-Alloc.size _ c.self.view_is c.in-Alloc.is c.requires.held
    c.requires.possible c.possible_events.ensures c.index_mut.ensures.value)
    c.allocate.ensures

pub invariant_of-self : goal.invariant_of-self
invariant_of-self c = (allocated c).kept

pub returns-in-Alloc-clause-stands : goal.returns-in-Alloc-clause-stands
returns-in-Alloc-clause-stands c =
    rw (← c.self.view_is, c.in-Alloc.is)
    (λ events stands. stands-move _ _ events _ refl refl (allocated c).moves stands)

pub returns-in-Alloc-clause-changes : goal.returns-in-Alloc-clause-changes
returns-in-Alloc-clause-changes c = rw (← c.self.view_is, c.in-Alloc.is) (allocated c).moves

pub returns-in-Alloc-clause-sound : goal.returns-in-Alloc-clause-sound
returns-in-Alloc-clause-sound c = sound-of _ _ (allocated c).kept

-- the sums of a free's stack
taken : (c : goal.After-index_mut-in-Free)
    → TakesFree c.self.inside.lives.items c.in-Free.stack c.in-Free.size c.index_mut-in-Free.result.now
taken c =
    takes-free _ _ _ _ c.in-Free.info c.in-Free.stack c.in-Free.size _ c.self.view_is c.in-Free.is c.requires.held
    c.requires.possible c.possible_events.ensures c.index_mut-in-Free.ensures.value

pub free-requires-clause-sound : goal.free-requires-clause-sound
free-requires-clause-sound c =
    let before : c.self.inside.events + 1 - 1 ≡ c.self.inside.events = omega arith in
    rw (before, (taken c).read) (c.self.invariant.each_stack c.in-Free.stack)

pub free-requires-clause-bytes : goal.free-requires-clause-bytes
free-requires-clause-bytes c = (taken c).block.bytes

pub free-requires-clause-block : goal.free-requires-clause-block
free-requires-clause-block c = (taken c).block.block

-- the sums and the figures after a free
freed : (c : goal.After-self-in-Free-2-1)
    → HasMoved c.self.inside.events c.self.inside.lives.items c.in-Free.stack c.free.new.self
    (Free c.in-Free.info c.in-Free.stack c.in-Free.size)
freed c =
    let few = rw (← c.self.view_is) at c.requires.count in
    moved-free _ _ _ _ _ _ _ few c.self.invariant
    (takes-free _ _ _ _ c.in-Free.info c.in-Free.stack c.in-Free.size _ c.self.view_is c.in-Free.is c.requires.held
    c.requires.possible c.possible_events.ensures c.index_mut-in-Free.ensures.value)
    c.free.ensures

pub invariant_of-self-in-Free : goal.invariant_of-self-in-Free
invariant_of-self-in-Free c = (freed c).kept

pub returns-in-Free-clause-stands : goal.returns-in-Free-clause-stands
returns-in-Free-clause-stands c =
    rw (← c.self.view_is, c.in-Free.is) (λ events stands. stands-move _ _ events _ refl refl (freed c).moves stands)

pub returns-in-Free-clause-changes : goal.returns-in-Free-clause-changes
returns-in-Free-clause-changes c = rw (← c.self.view_is, c.in-Free.is) (freed c).moves

pub returns-in-Free-clause-sound : goal.returns-in-Free-clause-sound
returns-in-Free-clause-sound c = sound-of _ _ (freed c).kept

pub returns-in-Tick-clause-stands : goal.returns-in-Tick-clause-stands
returns-in-Tick-clause-stands c = rw c.in-Tick.is (λ events. stands-tick c.args.self.now events c.in-Tick.ms)

pub returns-in-Tick-clause-sound : goal.returns-in-Tick-clause-sound
returns-in-Tick-clause-sound c = rw (← c.self.view_is) (sound-of c.self.inside.events _ c.self.invariant)
