-- The parts of the text decide by turns; what `parsed_percent` makes of it follows from what each part gives.
use Rattle.std.proofs.Common.{ℕ, ◌-◌, List, length, take, drop, sym, ◌∙◌, arith, le-leb}
use Rattle.std.proofs.lemmas.Bool.{lt-leb}
use Rattle.hp_num.proofs.PercentParts.{by_parts, long_whole, no_whole, no_rest, both_parts, whole_small}
use Rattle.hp_num.proofs.percent.parse_percent.Goals as goal

-- the bytes from the point on, as the code takes them
abbrev rest : List ℕ → ℕ → List ℕ
rest text point = take (length text - point) (drop point text)

pub returns-then-point-gt-MAX_WHOLE_DIGITS-clause-parsed : goal.returns-then-point-gt-MAX_WHOLE_DIGITS-clause-parsed
returns-then-point-gt-MAX_WHOLE_DIGITS-clause-parsed c =
    let told = c.point_place-point.ensures in
    sym (by_parts c.args.text.now c.point_place-point.result told.within told.before told.found
    ∙ long_whole c.args.text.now (rest c.args.text.now c.point_place-point.result) c.point_place-point.result
    told.within c.if-point-gt-MAX_WHOLE_DIGITS.true)

pub returns-in_err-whole-clause-parsed : goal.returns-in_err-whole-clause-parsed
returns-in_err-whole-clause-parsed c =
    let told = c.point_place-point.ensures in
    c.from_residual.ensures
    ∙ sym (by_parts c.args.text.now c.point_place-point.result told.within told.before told.found
    ∙ no_whole c.args.text.now (rest c.args.text.now c.point_place-point.result) c.point_place-point.result told.within
    c.if-point-gt-MAX_WHOLE_DIGITS.false (sym c.parse_dec.ensures.parsed ∙ c.in_err-whole.was))

pub returns-in_err-fraction-clause-parsed : goal.returns-in_err-fraction-clause-parsed
returns-in_err-fraction-clause-parsed c =
    let told = c.point_place-point.ensures in
    c.from_residual-in_err-fraction.ensures
    ∙ sym (by_parts c.args.text.now c.point_place-point.result told.within told.before told.found
    ∙ no_rest c.args.text.now (rest c.args.text.now c.point_place-point.result) c.point_place-point.result told.within
    c.if-point-gt-MAX_WHOLE_DIGITS.false c.in_ok-whole.whole (sym c.parse_dec.ensures.parsed ∙ c.in_ok-whole.was)
    (sym c.parse_fraction.ensures.parsed ∙ c.in_err-fraction.was))

pub overflow_mul-hundredths : goal.overflow_mul-hundredths
overflow_mul-hundredths c =
    let told = c.point_place-point.ensures in
    let small =
    whole_small c.args.text.now c.args.text.now c.point_place-point.result told.within
    c.if-point-gt-MAX_WHOLE_DIGITS.false c.in_ok-whole.whole (sym c.parse_dec.ensures.parsed ∙ c.in_ok-whole.was) in
    omega (arith, small)

pub overflow_add-hundredths : goal.overflow_add-hundredths
overflow_add-hundredths c =
    let told = c.point_place-point.ensures in
    let small =
    whole_small c.args.text.now c.args.text.now c.point_place-point.result told.within
    c.if-point-gt-MAX_WHOLE_DIGITS.false c.in_ok-whole.whole (sym c.parse_dec.ensures.parsed ∙ c.in_ok-whole.was) in
    omega (arith, small, c.in_ok-fraction.ensures.small)

pub returns-then-hundredths-gt-WHOLE-clause-parsed : goal.returns-then-hundredths-gt-WHOLE-clause-parsed
returns-then-hundredths-gt-WHOLE-clause-parsed c =
    let told = c.point_place-point.ensures in
    let sum = by_parts c.args.text.now c.point_place-point.result told.within told.before told.found
    ∙ both_parts c.args.text.now (rest c.args.text.now c.point_place-point.result) c.point_place-point.result
    told.within c.if-point-gt-MAX_WHOLE_DIGITS.false c.in_ok-whole.whole
    (sym c.parse_dec.ensures.parsed ∙ c.in_ok-whole.was) c.in_ok-fraction.fraction
    (sym c.parse_fraction.ensures.parsed ∙ c.in_ok-fraction.was) in
    sym (rw (lt-leb _ _ c.if-hundredths-gt-WHOLE.true) at sum)

pub returns-clause-parsed : goal.returns-clause-parsed
returns-clause-parsed c =
    let told = c.point_place-point.ensures in
    let sum = by_parts c.args.text.now c.point_place-point.result told.within told.before told.found
    ∙ both_parts c.args.text.now (rest c.args.text.now c.point_place-point.result) c.point_place-point.result
    told.within c.if-point-gt-MAX_WHOLE_DIGITS.false c.in_ok-whole.whole
    (sym c.parse_dec.ensures.parsed ∙ c.in_ok-whole.was) c.in_ok-fraction.fraction
    (sym c.parse_fraction.ensures.parsed ∙ c.in_ok-fraction.was) in
    sym (rw (le-leb _ _ c.if-hundredths-gt-WHOLE.false) at sum)
