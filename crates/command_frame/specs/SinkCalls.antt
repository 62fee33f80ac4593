-- What calls of an output do to it, whether they failed or not.
use Rattle.std.specs.Prelude.{◌≡◌, ◌++◌, ℕ, List, OnErr, Result, Vec}
use Rattle.std.specs.Io.KnownBytes.{append_known}
use Rattle.hp_outside.specs.declared.sink.Sink as sink
use Rattle.hp_outside.specs.Faults.{Faulted}
use Rattle.hp_outside.specs.Taken.{GainsCutFront}

-- no call failed
abbrev pub SameFaults : {O : Type 0} → sink.Ghosts O → O → O → Type 0
SameFaults o old new = o.faults new ≡ o.faults old

-- a call failed
abbrev pub HasFailed : {O : Type 0} → sink.Ghosts O → O → O → Type 0
HasFailed o old new = Faulted (o.faults old) (o.faults new)

-- these bytes were taken whole
abbrev pub Writes : {O : Type 0} → sink.Ghosts O → O → O → List ℕ → Type 0
Writes o old new bytes = o.written new ≡ append_known (o.written old) bytes

-- a front of these bytes was taken, and not all
abbrev pub WritesLess : {O : Type 0} → sink.Ghosts O → O → O → List ℕ → Type 0
WritesLess o old new bytes = GainsCutFront (o.written old) (o.written new) bytes

-- where a call failed, a front of a page was taken, and not all
abbrev pub CutsPage : {O Z X E : Type 0} → sink.Ghosts O → O → O → Vec ℕ Z → Result X E → Type 0
CutsPage o old new page result = OnErr result (WritesLess o old new page.items)

-- a front of a buffer was taken, and the buffer holds what is left
abbrev pub PassesOn : {O Z : Type 0} → sink.Ghosts O → O → O → (before after : Vec ℕ Z) → Type 0
PassesOn o old new before after =
    (early : List ℕ) × ((o.written new ≡ append_known (o.written old) early)
    × (early ++ after.items ≡ before.items))
