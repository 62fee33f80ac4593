-- What a part of the reader answers: the defined profile or fault. Want of memory is the one answer
-- that may come without a cause.
use Rattle.std.specs.Prelude.{◌≡◌, Option, Some, None, Result, Ok, Err}
use Rattle.dhat_json.specs.declared.fault.DhatFault.{DhatFault}
use Rattle.dhat_json.specs.declared.fault.DhatFault.TheVariants.{NotJson, WrongFileVersion, MissingKey, WrongKind}
use Rattle.dhat_json.specs.declared.fault.DhatFault.TheVariants.{FrameOutOfTable, TooMany, NoMemory}
use Rattle.dhat_json.specs.declared.profile.Dhat.{Dhat}

-- the claim, where the fault is another than want of memory
abbrev pub UnlessNoMemory : DhatFault → Type 0 → Type 0
UnlessNoMemory NoMemory claim = Unit {0}
UnlessNoMemory NotJson claim = claim
UnlessNoMemory WrongFileVersion claim = claim
UnlessNoMemory (MissingKey point key) claim = claim
UnlessNoMemory (WrongKind point key) claim = claim
UnlessNoMemory (FrameOutOfTable point frame) claim = claim
UnlessNoMemory TooMany claim = claim

-- a call answered what the definitions say, or memory was wanting
abbrev pub Answers : Result Dhat DhatFault → Result Dhat DhatFault → Type 0
Answers (Ok dhat) defined = defined ≡ Ok dhat
Answers (Err fault) defined = UnlessNoMemory fault (defined ≡ Err fault)

-- for private clauses: there is no fault and this was read, or the answer is the fault, or memory was wanting
abbrev pub Reads : {A : Type 0} → Result A DhatFault → Option DhatFault → A → Type 0
Reads (Ok x) finding there = (finding ≡ None) × (x ≡ there)
Reads (Err fault) finding there = UnlessNoMemory fault (finding ≡ Some fault)
