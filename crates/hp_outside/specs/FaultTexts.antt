-- What the faults of opening a file, of its lines and of reading it whole are called.
use Rattle.std.specs.Prelude.{ℕ, List, codes}
use Rattle.hp_outside.specs.declared.store.OpenFault.{OpenFault}
use Rattle.hp_outside.specs.declared.store.OpenFault.TheVariants.{Absent, Failed}
use Rattle.hp_outside.specs.declared.span.LineFault.{LineFault}
use Rattle.hp_outside.specs.declared.span.LineFault.TheVariants.{ReadFailed, LineTooLong, InputTooLong}
use Rattle.hp_outside.specs.declared.whole.WholeFault.{WholeFault}
use Rattle.hp_outside.specs.declared.whole.WholeFault.TheVariants as whole

-- why a file was not opened
abbrev pub open_text : OpenFault → List ℕ
open_text Absent = codes "no such file"
open_text Failed = codes "cannot open"

-- why there is no next line
abbrev pub line_text : LineFault → List ℕ
line_text ReadFailed = codes "cannot read"
line_text LineTooLong = codes "line too long"
line_text InputTooLong = codes "input too long"

-- why a file was not read whole
abbrev pub whole_text : WholeFault → List ℕ
whole_text whole.ReadFailed = line_text ReadFailed
whole_text whole.InputTooLong = line_text InputTooLong
whole_text whole.NoMemory = codes "out of memory"
