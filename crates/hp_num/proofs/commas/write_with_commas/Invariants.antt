-- What is written, followed by what is left with its commas, is the whole text.
use Rattle.hp_num.proofs.CommaTexts.{Written}
use Rattle.hp_num.proofs.commas.write_with_commas.Given as goal

abbrev pub invariant-loop-digit : goal.invariant-loop-digit
invariant-loop-digit l = Written l.text l.end l.digit-index l.left l.digits
