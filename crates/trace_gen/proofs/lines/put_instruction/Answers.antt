use Rattle.std.proofs.Common.{◌+◌, arith}
use Rattle.std.proofs.lemmas.Result.{on_ok_weaker}
use Rattle.trace_gen.proofs.InstructionLine.{instruction_put}
use Rattle.trace_gen.proofs.lines.put_instruction.Goals as goal

pub returns : goal.returns
returns c =
    let before = c.args.before in
    let texts = c.hexadecimal_texts.ensures in
    record {
      put = on_ok_weaker c.put_number_line.result
          (instruction_put c.args.line.now.items c.put_number_line.new.out.items before
          (texts.digits (before + 1) (omega arith)) (texts.digits (before + 2) (omega arith))
          (texts.at_most_16 (before + 1) (omega arith))
          (texts.at_most_16 (before + 2) (omega arith)))
          c.put_number_line.ensures.appended;
    }
