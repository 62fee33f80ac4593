-- The bytes so far are written, and the others as they were.
use Rattle.std.proofs.Common.{◌≡◌, ◌++◌, take, drop}
use Rattle.convert.specs.Folded.{folded_name}
use Rattle.convert.proofs.lines.make_plain.Given as goal

abbrev pub invariant-each_byte : goal.invariant-each_byte
invariant-each_byte l = l.text ≡ folded_name (take l.byte-index l.initial.text) ++ drop l.byte-index l.initial.text
