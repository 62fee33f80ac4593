use Rattle.sound_recordings.proofs.ToldAgain.{told-summary, told-trace}
use Rattle.sound_recordings.proofs.recorded_summaries.Goals as goal

pub returns : goal.returns
returns c = λ job order can. record {
  trace =
      told-trace c.hexadecimal_texts.ensures.reads_back c.interpreted_traces.ensures job order can.playable can.modules
      can.under;
  summary =
      told-summary c.hexadecimal_texts.ensures.reads_back c.interpreted_traces.ensures job order can.playable
      can.modules
      can.under;
}
