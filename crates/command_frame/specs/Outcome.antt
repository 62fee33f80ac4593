-- What a run comes to before it is delivered. How an open, a reading by lines and a reading of a
-- whole file end, as data.
use Rattle.std.specs.Prelude.{◌≡◌, ℕ, Bool, List, Option, Result, Ok, Err}
use Rattle.hp_outside.specs.declared.store.OpenFault.{OpenFault}
use Rattle.hp_outside.specs.declared.store.OpenFault.TheVariants as opening
use Rattle.hp_outside.specs.declared.whole.WholeFault.{WholeFault}
use Rattle.hp_outside.specs.declared.whole.WholeFault.TheVariants as reading
use Rattle.command_frame.specs.declared.halt.Halt.{Halt}
use Rattle.command_frame.specs.Texts.{Texts}
use Rattle.command_frame.specs.Halts.{halt_answer}
use Rattle.command_frame.specs.Moment.{Moment}
use Rattle.command_frame.specs.FileRead.{Absent, CannotOpen, FileEnd, Passed, Unopened, end_answer}
use Rattle.command_frame.specs.DocumentRead.{DocumentEnd, document_end_answer}
use Rattle.command_frame.specs.DocumentRead as document

-- a moment of a store
abbrev pub moment : ℕ → Bool → Option (List ℕ) → ℕ → Moment
moment opens current left faults
    = record { opens = opens; current = current; left = left; faults = faults }

-- a file that wasn't opened
abbrev pub end_of_open : OpenFault → FileEnd
end_of_open opening.Absent = Absent
end_of_open opening.Failed = CannotOpen

-- a document that wasn't opened
abbrev pub end_of_document : OpenFault → DocumentEnd
end_of_document opening.Absent = document.Absent
end_of_document opening.Failed = document.CannotOpen

-- a document that was opened, and whose bytes weren't given
abbrev pub end_of_whole : WholeFault → DocumentEnd
end_of_whole reading.ReadFailed = document.CannotRead
end_of_whole reading.InputTooLong = document.TooLong
end_of_whole reading.NoMemory = document.Wanting

-- a file's lines weren't all taken
abbrev pub IsStop : FileEnd → Type 0
IsStop Unopened = ⊥
IsStop (Passed taken) = ⊥
IsStop _ = Unit {0}

-- the result of reading a file that ended so
abbrev pub HaltsAt : Texts → List ℕ → (List (List ℕ) → Type 0) → FileEnd → Result (Unit {0}) Halt
    → Type 0
HaltsAt texts name has end (Ok all) = (taken : List (List ℕ)) × ((end ≡ Passed taken) × has taken)
HaltsAt texts name has end (Err halt) = IsStop end
    × (halt_answer texts halt ≡ end_answer texts name end)

-- a document's bytes weren't given
abbrev pub IsUnread : DocumentEnd → Type 0
IsUnread document.Unopened = ⊥
IsUnread (document.Whole taken) = ⊥
IsUnread _ = Unit {0}

-- the result of reading a document that ended so
abbrev pub GivesWhole : Texts → List ℕ → DocumentEnd → Result (List ℕ) Halt → Type 0
GivesWhole texts name end (Ok bytes) = end ≡ document.Whole bytes
GivesWhole texts name end (Err halt) = IsUnread end
    × (halt_answer texts halt ≡ document_end_answer texts name end)
