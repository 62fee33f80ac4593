-- The verdict on a file. The verdict where all lines were taken.
use Rattle.std.specs.Prelude.{ℕ, Option, None, Some}
use Rattle.order_check.specs.declared.verdict.Verdict.{Verdict}
use Rattle.order_check.specs.declared.verdict.Verdict.TheVariants.{No, Yes}

-- the verdict where all lines were taken, by the number of events and that of the line behind the last
abbrev pub end_verdict : Option ℕ → ℕ → Verdict
end_verdict (Some events) number = Yes events
end_verdict None number = No number
