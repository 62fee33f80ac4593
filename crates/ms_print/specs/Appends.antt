-- What a call appends where memory is not wanting: the items stand behind those that were there.
use Rattle.std.specs.Prelude.{◌≡◌, List, ◌++◌, Result, OnOk}
use Rattle.std.specs.Global.{Vec}

abbrev pub Appends : {X E : Type 0} → List X → Vec X → Vec X → Result (Unit {0}) E → Type 0
Appends items before after result = OnOk result (after.items ≡ before.items ++ items)
