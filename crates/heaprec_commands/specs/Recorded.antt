-- What is written of a recording by threads. The text of a recording is the trace of a job in an
-- order, and behind it the summary of that order where it is asked for. A text is recorded where
-- the order that it spells is an interleaving of the scripts, and the text is that of this order:
-- each event stands in it once, those of a thread in the order of its script, and those of a
-- reallocation side by side; its figures are those of the scripts, and those that are told of the
-- text once it is interpreted.
use Rattle.std.specs.Prelude.{◌≡◌, ℕ, List, ◌++◌, Bool, true, false}
use Rattle.record_scripts.specs.Job.{Job}
use Rattle.record_book.specs.Orders.{IsInterleaving}
use Rattle.record_book.specs.RecordedTrace.{recorded}
use Rattle.record_book.specs.ScriptFigures.{HasScriptFigures}
use Rattle.record_book.specs.SummaryText.{rec_summary}
use Rattle.record_book.specs.Spelled.{spelled}
use Rattle.sound_recordings.specs.ToldAgain.{IsToldAgain}

-- the trace of a job in an order, and behind it the summary where that is asked for
abbrev pub recording_text : Bool → List ℕ → Job → List ℕ
recording_text false order job = recorded job order
recording_text true order job = recorded job order ++ rec_summary job.scripts order

-- the order that a text spells is an interleaving of the scripts: each of their events stands in it
-- once, those of a thread in the order of its script, and those of a reallocation side by side; the
-- text is that of this order; and its figures are those of the scripts, whichever order it is
pub record IsRecorded (summary : Bool) (job : Job) (text : List ℕ) : Type 0 where
  pub all : IsInterleaving job.scripts (spelled text)
  pub text_is : text ≡ recording_text summary (spelled text) job
  pub figures : HasScriptFigures job.scripts (spelled text)
  -- and they are those that are told of the text itself, once it is interpreted
  pub told : IsToldAgain text job.scripts (spelled text)
