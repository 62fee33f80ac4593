-- Statuses of runs that aren't done.
use Rattle.std.proofs.Common.{◌≢◌, arith}
use Rattle.command_frame.specs.declared.halt.Status.{Status}
use Rattle.command_frame.specs.declared.halt.Status.TheVariants.{Malformed, Usage, Unreadable, Unwritten, NoMemory}
use Rattle.command_frame.specs.declared.halt.Status.TheVariants.{PastLimit}
use Rattle.command_frame.specs.Halts.{status_code}

pub code_isnt_zero : (status : Status) → status_code status ≢ 0
code_isnt_zero Malformed = λ is. omega (arith, is)
code_isnt_zero Usage = λ is. omega (arith, is)
code_isnt_zero Unreadable = λ is. omega (arith, is)
code_isnt_zero Unwritten = λ is. omega (arith, is)
code_isnt_zero NoMemory = λ is. omega (arith, is)
code_isnt_zero PastLimit = λ is. omega (arith, is)
