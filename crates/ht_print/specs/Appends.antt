-- What a call appends where memory is not wanting: a text behind what stood there; or that of events,
-- whichever they are of which something holds, as that a value stands for them.
use Rattle.std.specs.Prelude.{◌≡◌, ℕ, ◌+◌, ◌≤◌, List, ◌++◌, Result, OnOk, vec_capacity, vec_len}
use Rattle.std.specs.Global.{Vec}
use Rattle.live_ledger.specs.declared.event.Event.{Event}

-- the items stand behind those that were there
abbrev pub Appends : {X E : Type 0} → List X → Vec X → Vec X → Result (Unit {0}) E → Type 0
Appends items before after result = OnOk result (after.items ≡ before.items ++ items)

-- the text of any such events does
abbrev pub AppendsFor : {E : Type 0} → (List Event → Type 0) → (List Event → List ℕ) → Vec ℕ → Vec ℕ
    → Result (Unit {0}) E → Type 0
AppendsFor holds text before after result = OnOk result
    ((events : List Event) → holds events → after.items ≡ before.items ++ text events)

-- there is room for so many items more
abbrev pub HasRoomFor : {X : Type 0} → ℕ → Vec X → Type 0
HasRoomFor count items = vec_len items + count ≤ vec_capacity items
