use Rattle.std.proofs.Common.{length, ap, arith}
use Rattle.hp_outside.specs.WholeLines.{text_of_lines}
use Rattle.trace_gen.specs.Sizes.{sizes_of}
use Rattle.trace_gen.proofs.Steps.{all_lines, few_lines}
use Rattle.trace_gen.proofs.generator.Generator.new.Goals as goal

pub returns-clause-lines : goal.returns-clause-lines
returns-clause-lines c = all_lines (sizes_of c.args.options.now)

pub returns-clause-text : goal.returns-clause-text
returns-clause-text c = ap text_of_lines (all_lines (sizes_of c.args.options.now))

pub returns-clause-few : goal.returns-clause-few
returns-clause-few c =
    let options = c.args.options.now in
    omega (
      arith,
      ap length (all_lines (sizes_of options)),
      few_lines (sizes_of options) options.stacks_in_range options.events_in_range,
    )
