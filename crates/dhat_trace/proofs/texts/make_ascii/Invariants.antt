-- The bytes so far are written, and the others as they were.
use Rattle.std.proofs.Common.{◌≡◌, ◌++◌, map, take, drop}
use Rattle.dhat_trace.specs.ProfileTexts.{ascii_byte}
use Rattle.dhat_trace.proofs.texts.make_ascii.Given as goal

abbrev pub invariant-each_byte : goal.invariant-each_byte
invariant-each_byte l = l.text ≡ map ascii_byte (take l.byte-index l.initial.text) ++ drop l.byte-index l.initial.text
