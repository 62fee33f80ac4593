-- Lines have a byte at least each, so their number fits.
use Rattle.std.proofs.Common.{rules, ◌≡◌, ◌+◌, ◌∙◌, ap, arith, drop, length, length-drop}
use Rattle.hp_outside.proofs.WholeLinesLemmas.{few_lines, given_passed, given_within}
use Rattle.hp_outside.proofs.line_reader.LineReader.pass.Goals as goal

pub returns : goal.returns
returns c = record {
  kept = search rules;
  passed = search rules;
  number = search rules;
  given =
      given_passed c.self.inside.line_ended c.self.inside.passed c.args.count
      ∙ ap (λ s. s.given + c.args.count) c.self.view_is;
  input = search rules;
  limit = search rules;
  ended = search rules;
  fault = search rules;
  line_ended = search rules;
  line = search rules;
  span = search rules;
}

pub overflow_add-self-2 : goal.overflow_add-self-2
overflow_add-self-2 c =
    let few = few_lines c.args.self.now.kept c.args.count c.args.lines c.requires.whole in
    let passed = ap (λ s. s.passed) c.self.view_is in
    let input = ap (λ s. s.input) c.self.view_is in
    let given = given_within c.self.inside.line_ended c.self.inside.passed in
    omega (
      arith,
      few,
      passed,
      input,
      given,
      c.self.invariant.2,
      c.self.invariant.3,
      c.requires.within,
      c.self.inside.limits.input_in_range,
    )

pub invariant_of-self : goal.invariant_of-self
invariant_of-self c =
    let few = few_lines c.args.self.now.kept c.args.count c.args.lines c.requires.whole in
    let passed = ap (λ s. s.passed) c.self.view_is in
    let input = ap (λ s. s.input) c.self.view_is in
    let kept : c.self.inside.window.kept ≡ c.args.self.now.kept = ap (λ s. s.kept) c.self.view_is in
    let left : length c.pass.new.self.kept + c.args.count ≡ length c.self.inside.window.kept =
    omega (
      arith,
      ap length c.pass.ensures.kept,
      length-drop c.args.count c.self.inside.window.kept,
      c.requires.held,
      ap length kept,
    ) in (
      c.pass.ensures.most ∙ c.self.invariant.0,
      omega (arith, left, c.self.invariant.1),
      omega (arith, passed, input, c.requires.within),
      rw (given_passed c.self.inside.line_ended c.self.inside.passed c.args.count)
          (omega (arith, few, c.self.invariant.3)),
      c.self.invariant.4,
      λ more. c.self.invariant.5 (omega (arith, left, more)),
      λ ended. omega (arith, left, c.self.invariant.6 ended),
    )
