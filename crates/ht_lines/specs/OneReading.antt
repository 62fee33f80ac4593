-- A line says what is read of it and nothing else, and what is written is read again.
use Rattle.std.specs.Prelude.{◌≡◌, ℕ, List, Ok, Err}
use Rattle.ht_lines.specs.declared.item.Form.{Form}
use Rattle.ht_lines.specs.declared.item.Malformed.{Malformed}
use Rattle.ht_lines.specs.Content.{Content}
use Rattle.ht_lines.specs.Reading.{reading}
use Rattle.ht_lines.specs.Reads.{Reads}
use Rattle.ht_lines.specs.Refuses.{Refuses}
use Rattle.ht_lines.specs.Written.{IsWritable, written}

-- what the line says by the relation is what is read
abbrev pub SaysOnlyWhatIsRead : Form → ℕ → List ℕ → Type 0
SaysOnlyWhatIsRead form version line = (said : Content) → Reads form version line said
    → reading form version line ≡ Ok said

-- the fault by which the relation refuses the line is the one that is read
abbrev pub HasOnlyTheFault : Form → ℕ → List ℕ → Type 0
HasOnlyTheFault form version line = (fault : Malformed) → Refuses form version line fault
    → reading form version line ≡ Err fault

-- what is written in the version is read again, in traces of each form that have it
abbrev pub ReadsBack : ℕ → Type 0
ReadsBack version = (form : Form) (said : Content) → IsWritable form version said
    → reading form version (written version said) ≡ Ok said
