-- What the store and both outputs show, whether a call of one failed, and that an answer was
-- delivered whole.
use Rattle.std.specs.Prelude.{ℕ}
use Rattle.hp_outside.specs.declared.store.Store as store
use Rattle.hp_outside.specs.declared.sink.Sink as sink
use Rattle.hp_outside.specs.Faults.{Faulted}
use Rattle.command_frame.specs.Answer.{Answer}
use Rattle.command_frame.specs.Delivery.{Delivered}
use Rattle.command_frame.specs.RunsTo.{Shown, Taken, shown, taken}

pub record Outside : Type 0 where
  pub store : Shown
  pub out : Taken
  pub err : Taken

abbrev pub outside : {S O E : Type 0} → store.Ghosts S → sink.Ghosts O → sink.Ghosts E → S → O → E
    → Outside
outside s o e store out err = record { store = shown s store; out = taken o out; err = taken e err }

-- a call failed
abbrev pub StoreFaulted : Outside → Outside → Type 0
StoreFaulted before now = Faulted before.store.moment.faults now.store.moment.faults

abbrev pub OutFaulted : Outside → Outside → Type 0
OutFaulted before now = Faulted before.out.faults now.out.faults

abbrev pub ErrFaulted : Outside → Outside → Type 0
ErrFaulted before now = Faulted before.err.faults now.err.faults

-- an answer was delivered whole
abbrev pub Gives : Outside → Outside → Answer → ℕ → Type 0
Gives before now given status =
    Delivered given status before.out.written now.out.written before.err.written now.err.written
