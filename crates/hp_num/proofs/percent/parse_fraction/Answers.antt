-- One digit counts tenths, and two count hundredths.
use Rattle.std.proofs.Common.{sym, ◌∙◌, arith}
use Rattle.hp_num.proofs.PercentParts.{no_fraction, one_digit, two_digits, two_digits_small}
use Rattle.hp_num.proofs.percent.parse_fraction.Goals as goal

pub returns-in_err-parse_dec-in-2-clause-parsed : goal.returns-in_err-parse_dec-in-2-clause-parsed
returns-in_err-parse_dec-in-2-clause-parsed c =
    c.from_residual.ensures
    ∙ sym (no_fraction c.args.rest.now (omega (arith, c.in-2.is)) (omega (arith, c.in-2.is))
    (sym c.parse_dec.ensures.parsed ∙ c.in_err-parse_dec-in-2.was))

pub returns-in_ok-parse_dec-in-2-clause-parsed : goal.returns-in_ok-parse_dec-in-2-clause-parsed
returns-in_ok-parse_dec-in-2-clause-parsed c =
    one_digit c.args.rest.now c.in_ok-parse_dec-in-2.field-0 c.in-2.is
    (sym c.parse_dec.ensures.parsed ∙ c.in_ok-parse_dec-in-2.was)

pub returns-in-3-clause-parsed : goal.returns-in-3-clause-parsed
returns-in-3-clause-parsed c = c.parse_dec-in-3.ensures.parsed ∙ two_digits c.args.rest.now c.in-3.is

pub returns-in-3-clause-small : goal.returns-in-3-clause-small
returns-in-3-clause-small c =
    two_digits_small c.args.rest.now c.in-3.is c.parse_dec-in-3.result c.parse_dec-in-3.ensures.parsed
