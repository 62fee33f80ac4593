use Rattle.std.proofs.Common.{rules}
use Rattle.command_frame.proofs.OutputLemmas.{cut_is_not_whole}
use Rattle.command_frame.proofs.delivery.write_both.Goals as goal

pub returns-in-Err : goal.returns-in-Err
returns-in-Err g c = record {
  output_whole = search rules;
  message_whole = search rules;
  fronts = search rules;
  own_message = λ bytes is whole.
      absurd
      (cut_is_not_whole (g.O.Sink.written c.args.out.now) (g.O.Sink.written c.write.new.out) bytes
      (g.R.ReadyText.bytes c.args.rest.now) is c.in-Err.ensures.cut whole);
  out_faults = search rules;
  err_faults = search rules;
  out_sound = search rules;
  err_sound = search rules;
  cause = search rules;
}
