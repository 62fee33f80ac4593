-- A source lost a front of what it had left; an output gained a front of these bytes, or one that
-- is not all of them.
use Rattle.std.specs.Prelude.{◌≡◌, ◌<◌, ◌≤◌, ℕ, List, [], Option, Some, length, take}
use Rattle.std.specs.Io.KnownBytes.{prepend_known, append_known}

-- where a value is told, a fact of it
abbrev pub WhereTold : {X : Type 0} → Option X → (X → Type 0) → Type 0
WhereTold {X} told P = (value : X) → told ≡ Some value → P value

-- a source lost a front of what it had left, of at most so many bytes
abbrev pub LosesFront : Option (List ℕ) → Option (List ℕ) → ℕ → Type 0
LosesFront old new most = (front : List ℕ) × (length front ≤ most) × (old ≡ prepend_known front new)

-- an output gained a front of these bytes, and not all of them
abbrev pub GainsCutFront : Option (List ℕ) → Option (List ℕ) → List ℕ → Type 0
GainsCutFront old new bytes = (count : ℕ) × (count < length bytes)
    × (new ≡ append_known old (take count bytes))

-- an output gained a front of these bytes
abbrev pub GainsFront : Option (List ℕ) → Option (List ℕ) → List ℕ → Type 0
GainsFront old new bytes = (count : ℕ) × (new ≡ append_known old (take count bytes))

-- a front of so many bytes of the buffer is what was lost
abbrev pub IsReadInto : List ℕ → Option (List ℕ) → Option (List ℕ) → ℕ → Type 0
IsReadInto buffer old new count = old ≡ prepend_known (take count buffer) new

-- where no byte was read, nothing was left
abbrev pub IsEndAt : Option (List ℕ) → ℕ → Type 0
IsEndAt left count = count ≡ 0 → WhereTold left (λ bytes. bytes ≡ [])

-- a front of so many bytes of the piece is what was gained
abbrev pub IsWrittenFrom : List ℕ → Option (List ℕ) → Option (List ℕ) → ℕ → Type 0
IsWrittenFrom piece old new count = new ≡ append_known old (take count piece)
