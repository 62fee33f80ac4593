use Rattle.sound_traces.proofs.Trace.{generated_good}
use Rattle.sound_traces.proofs.generated_traces.Goals as goal

pub returns : goal.returns
returns c = record {
  no_fault =
      λ sizes some most few. generated_good c.hexadecimal_texts.ensures.reads_back c.decimal_texts.ensures.at_most_20
      sizes some most few;
}
