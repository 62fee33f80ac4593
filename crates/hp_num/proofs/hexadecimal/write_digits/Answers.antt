-- Each turn writes the last digit of what is left before the digits that stand.
use Rattle.std.proofs.Common.{◌<◌, ◌++◌, ◌-◌, arith, ◌∙◌, length-set, drop, refl}
use Rattle.hp_num.specs.Hexadecimal.{hexadecimal}
use Rattle.hp_num.proofs.HexSteps.{complete, proceed, length-hexadecimal_front}
use Rattle.hp_num.proofs.HexTexts.{at_most_16, not_empty}
use Rattle.hp_num.proofs.hexadecimal.write_digits.Goals as goal

pub digits-init : goal.digits-init
digits-init c = record {
  sized = refl;
  in_range = omega arith;
  number = omega arith;
  room = omega (arith, at_most_16 c.args.n (omega arith), c.requires.room);
  most = omega (arith, at_most_16 c.args.n (omega arith));
  same = refl;
}

pub overflow_sub-start : goal.overflow_sub-start
overflow_sub-start c = omega (arith, c.digits.invariant.room, not_empty c.digits.rest c.digits.invariant.number)

pub returns-then-rest-eq0-clause-written : goal.returns-then-rest-eq0-clause-written
returns-then-rest-eq0-clause-written c =
    let some : 0 < c.digits.start =
    omega (arith, c.digits.invariant.room, not_empty c.digits.rest c.digits.invariant.number) in
    complete c.digits.rest c.digits.start c.lower_case_digit.result c.digits.buffer
    (hexadecimal c.args.n ++ drop c.args.end c.args.buffer.now) (omega arith) some (omega arith)
    c.lower_case_digit.ensures c.digits.invariant.same

pub digits-smaller : goal.digits-smaller
digits-smaller c = omega (arith, c.digits.invariant.room, not_empty c.digits.rest c.digits.invariant.number)

pub digits-preserved : goal.digits-preserved
digits-preserved c =
    let some : 0 < c.digits.start =
    omega (arith, c.digits.invariant.room, not_empty c.digits.rest c.digits.invariant.number) in
    record {
      sized = length-set c.digits.buffer (c.digits.start - 1) c.lower_case_digit.result ∙ c.digits.invariant.sized;
      in_range = omega arith;
      number = omega arith;
      room =
          omega (
            arith,
            c.digits.invariant.room,
            length-hexadecimal_front c.digits.rest (omega arith) c.digits.invariant.number,
          );
      most =
          omega (
            arith,
            c.digits.invariant.most,
            length-hexadecimal_front c.digits.rest (omega arith) c.digits.invariant.number,
          );
      same =
          proceed c.digits.rest c.digits.start c.lower_case_digit.result c.digits.buffer
          (hexadecimal c.args.n ++ drop c.args.end c.args.buffer.now) (omega arith) c.digits.invariant.number some
          (omega arith) c.lower_case_digit.ensures c.digits.invariant.same;
    }

pub returns-then-rest-eq0-clause-most : goal.returns-then-rest-eq0-clause-most
returns-then-rest-eq0-clause-most c =
    omega (arith, c.digits.invariant.most, not_empty c.digits.rest c.digits.invariant.number)
