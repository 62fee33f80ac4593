-- Each turn writes a digit, and the comma after it where one stands there.
use Rattle.std.proofs.Common.{sym, ◌∙◌, arith}
use Rattle.hp_num.proofs.CommaTexts.{none_written, all_written, digit_fits, comma_fits, written_alone, written_comma}
use Rattle.hp_num.proofs.commas.write_with_commas.Goals as goal
use Rattle.hp_num.proofs.commas.write_with_commas.Goals.{then-are_full_groups, else-are_full_groups}

pub loop-digit-init : goal.loop-digit-init
loop-digit-init c = none_written c.args.text.now c.args.digits.now c.told-text c.requires

pub bounds-text-end : goal.bounds-text-end
bounds-text-end c =
    digit_fits c.loop-digit.text c.loop-digit.end c.loop-digit.digit-index c.loop-digit.left c.args.digits.now
    (omega arith) c.loop-digit.invariant

pub bounds-text-end-then-are_full_groups : goal.bounds-text-end-then-are_full_groups
bounds-text-end-then-are_full_groups c =
    comma_fits c.loop-digit.text c.loop-digit.end c.loop-digit.digit-index c.loop-digit.left c.args.digits.now
    (omega arith) c.loop-digit.invariant (sym c.are_full_groups.ensures ∙ c.if-are_full_groups.true)

pub loop-digit-preserved : goal.loop-digit-preserved
loop-digit-preserved c = elim c.if-are_full_groups.branch [
  | then-are_full_groups w ↦ rw (w.text-is, w.end-is)
      (written_comma c.loop-digit.text c.loop-digit.end c.loop-digit.digit-index c.loop-digit.left c.args.digits.now
      (omega arith) c.loop-digit.invariant (sym c.are_full_groups.ensures ∙ w.if-are_full_groups.true))
  | else-are_full_groups w ↦ rw (w.text-is, w.end-is)
      (written_alone c.loop-digit.text c.loop-digit.end c.loop-digit.digit-index c.loop-digit.left c.args.digits.now
      (omega arith) c.loop-digit.invariant (sym c.are_full_groups.ensures ∙ w.if-are_full_groups.false))
]

pub returns-clause-written : goal.returns-clause-written
returns-clause-written c =
    all_written c.loop-digit.text c.args.digits.now c.loop-digit.end c.loop-digit.digit-index c.loop-digit.left
    (omega arith) c.loop-digit.invariant
