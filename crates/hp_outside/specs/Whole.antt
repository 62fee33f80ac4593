-- A whole file is given where its bytes are within the limit, and is too long only where they are
-- more.
use Rattle.std.specs.Prelude.{◌≡◌, ◌<◌, ◌≤◌, ℕ, List, Result, Ok, Err, length}
use Rattle.hp_outside.specs.declared.whole.WholeFault.{WholeFault}
use Rattle.hp_outside.specs.declared.whole.WholeFault.TheVariants.{ReadFailed, InputTooLong, NoMemory}

-- a whole file of these bytes is given, where they are within the limit; it is too long only where they are more
abbrev pub WholeAnswer : ℕ → List ℕ → Result (List ℕ) WholeFault → Type 0
WholeAnswer limit bytes (Ok whole) = (whole ≡ bytes) × (length bytes ≤ limit)
WholeAnswer limit bytes (Err InputTooLong) = limit < length bytes
WholeAnswer limit bytes (Err ReadFailed) = Unit {0}
WholeAnswer limit bytes (Err NoMemory) = Unit {0}
