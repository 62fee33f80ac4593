use Rattle.std.proofs.Common.{refl}
use Rattle.command_frame.proofs.taker.LineTaker.front.Goals as goal

pub returns-clause-taken : goal.returns-clause-taken
returns-clause-taken g c = record { kept = λ lines has. has; same = refl }
