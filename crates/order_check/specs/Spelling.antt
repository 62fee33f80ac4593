-- The scripts whose recordings can be told from their lines.
use Rattle.std.specs.Prelude.{◌≡◌, ℕ, ◌^◌, ◌<◌, ◌≤◌, decimal, length, Some}
use Rattle.hp_num.specs.ParsedDec.{parsed_dec}
use Rattle.record_scripts.specs.Job.{Job}
use Rattle.record_book.specs.Spelled.{AreQuiet}

-- the modules spell nothing, and the number of each thread is read again
pub record IsSpelling (job : Job) : Type 0 where
  pub few : length job.scripts ≤ 64
  pub quiet : AreQuiet job.modules
  pub reads : (n : ℕ) → n < 2 ^ 64 → parsed_dec (decimal n) ≡ Some n
