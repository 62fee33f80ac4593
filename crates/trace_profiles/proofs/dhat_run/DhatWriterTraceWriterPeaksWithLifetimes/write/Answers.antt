use Rattle.std.proofs.Common.{ℕ, List, ◌++◌, codes, ap, ◌∙◌}
use Rattle.dhat_json.specs.DhatValue.{dhat_text}
use Rattle.dhat_trace.specs.DhatOf.{dhat_of}
use Rattle.ht_trace.specs.TraceEvents.{events}
use Rattle.trace_profiles.specs.DhatReport.{dhat_written}
use Rattle.trace_profiles.proofs.dhat_run.DhatWriterTraceWriterPeaksWithLifetimes.write.Goals as goal

pub returns : goal.returns
unfolding dhat_written
returns c = λ given lines tables stand.
    c.in_ok-push.ensures.items
    ∙ ap (λ (text : List ℕ). text ++ codes "\n")
    (ap (λ v. v.items) c.into_bytes-output.ensures.value
    ∙ (c.in_ok-text.ensures.trace (events lines) stand.peaks stand.lives
    ∙ ap (λ state. dhat_text (dhat_of state (events lines))) tables.tables_is))
