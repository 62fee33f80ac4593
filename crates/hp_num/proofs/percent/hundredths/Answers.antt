-- The share is the definition's, in numbers of 128 bits.
use Rattle.std.proofs.Common.{eq-eqb, ne_eqb}
use Rattle.hp_num.specs.Hundredths.{hundredths_of}
use Rattle.hp_num.proofs.percent.hundredths.Goals as goal

pub returns-then-whole-eq0-clause-value : goal.returns-then-whole-eq0-clause-value
unfolding hundredths_of
returns-then-whole-eq0-clause-value c = rw (eq-eqb c.args.whole 0 c.if-whole-eq0.true)

pub returns-clause-value : goal.returns-clause-value
unfolding hundredths_of
returns-clause-value c = rw (ne_eqb c.args.whole 0 c.if-whole-eq0.false, c.from.ensures, c.from-whole.ensures)
