-- `dhat`: the DHAT profile of the one trace that its words name.
use Rattle.std.specs.Prelude.{ℕ, List, refl}
use Rattle.command_frame.specs.Silent.{IsSilent}
use Rattle.trace_profiles.specs.DhatReport.{dhat_plan}
use Rattle.commands.specs.declared.dhat_command.DhatRequest.{DhatRequest}
use Rattle.commands.specs.Command.{CommandOf, plain}

-- the name of the trace is all that is asked
abbrev pub dhat : CommandOf DhatRequest
dhat = plain (λ request. request.trace.now) dhat_plan

-- nothing is written while it reads
pub dhat_is_silent : (trace : List ℕ) → IsSilent (dhat_plan trace)
dhat_is_silent trace = (λ earlier line. refl, λ lines. tt)
