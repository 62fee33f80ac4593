-- A line of a trace that is checked has a fault where the lines up to it are no front of a
-- recording; the end has one where they are no whole recording, or the last one lacks its line
-- feed.
use Rattle.std.specs.Prelude.{ℕ, true, List, [], ◌∷◌, ◌++◌, codes, decimal, if◌then◌else◌, Option, None, Some}
use Rattle.command_frame.specs.declared.fault.FaultStatus.TheVariants.{Malformed}
use Rattle.command_frame.specs.Report.{Refuses, Report, Verdict, Writes}
use Rattle.command_frame.specs.Told.{Told}
use Rattle.order_check.specs.Following.{is_front, whole_events}
use Rattle.record_scripts.specs.Job.{Job}

-- a line with which no recording goes on, or an end that is none of a recording
abbrev pub not_a_recording : Told
not_a_recording = record { text = codes "not a recording"; status = Malformed }

-- what is written of a recording of so many events
abbrev pub checked_text : ℕ → List ℕ
checked_text events = codes "a recording of " ++ (decimal events ++ codes " events\n")

-- the fault of an end, and what is made of all lines, by how many events the lines are a recording of
abbrev pub end_told : Option ℕ → Option Told
end_told (Some events) = None
end_told None = Some not_a_recording

abbrev pub check_verdict : Option ℕ → Verdict
check_verdict (Some events) = Writes (checked_text events)
check_verdict None = Refuses not_a_recording

-- the lines of a trace: the first line with a fault is the first with which the lines so far are no
-- front of a recording of the job
abbrev pub check_report : Job → Report
check_report job = record {
  line_fault = λ earlier line.
      if is_front job (earlier ++ line ∷ []) then None else Some not_a_recording;
  end_fault = λ lines ended. end_told (whole_events job lines ended);
  gains = λ earlier line. [];
  verdict = λ lines. check_verdict (whole_events job lines true);
}
