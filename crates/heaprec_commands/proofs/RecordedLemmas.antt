-- A text that spells its order is that of a recording.
use Rattle.std.proofs.Common.{◌≡◌, ℕ, Bool, List, ap, sym, subst, ◌∙◌}
use Rattle.record_scripts.specs.Job.{Job}
use Rattle.record_book.specs.Orders.{IsInterleaving}
use Rattle.record_book.specs.ScriptFigures.{HasScriptFigures}
use Rattle.record_book.specs.Spelled.{spelled}
use Rattle.sound_recordings.specs.ToldAgain.{IsToldAgain}
use Rattle.heaprec_commands.specs.Recorded.{IsRecorded, recording_text}

pub recorded_as : (summary : Bool) (job : Job) (order text : List ℕ) → text ≡ recording_text summary order job
    → spelled (recording_text summary order job) ≡ order
    → IsInterleaving job.scripts order → HasScriptFigures job.scripts order
    → IsToldAgain (recording_text summary order job) job.scripts order → IsRecorded summary job text
recorded_as summary job order text is spells all figures told =
    let back : order ≡ spelled text = sym spells ∙ ap spelled (sym is) in
    record {
      all = subst (λ (o : List ℕ). IsInterleaving job.scripts o) back all;
      text_is = is ∙ ap (λ (o : List ℕ). recording_text summary o job) back;
      figures = subst (λ (o : List ℕ). HasScriptFigures job.scripts o) back figures;
      told =
          subst (λ (o : List ℕ). IsToldAgain text job.scripts o) back
          (subst (λ (t : List ℕ). IsToldAgain t job.scripts order) (sym is) told);
    }
