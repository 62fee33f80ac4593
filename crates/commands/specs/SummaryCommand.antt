-- `summary`: the figures of the one trace that its words name.
use Rattle.std.specs.Prelude.{ℕ, List, refl}
use Rattle.command_frame.specs.Silent.{IsSilent}
use Rattle.trace_reports.specs.SummaryReport.{summary_plan}
use Rattle.commands.specs.declared.summary_command.SummaryRequest.{SummaryRequest}
use Rattle.commands.specs.Command.{CommandOf, plain}

-- the name of the trace is all that is asked
abbrev pub summary : CommandOf SummaryRequest
summary = plain (λ request. request.trace.now) summary_plan

-- nothing is written while it reads
pub summary_is_silent : (trace : List ℕ) → IsSilent (summary_plan trace)
summary_is_silent trace = (λ earlier line. refl, λ lines. tt)
