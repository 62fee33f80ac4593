-- How the reading of a file begins. A file is read by a reader that has the limits of the run,
-- behind the job of the files before it.
use Rattle.std.specs.Prelude.{◌≡◌, ℕ, ◌<◌, length}
use Rattle.hp_outside.specs.LineReaderState.{LineReaderState}
use Rattle.hp_outside.specs.declared.limits.Limits.{Limits}
use Rattle.record_scripts.specs.Job.{Job}
use Rattle.heaprec_commands.specs.declared.reader.InputKind.{InputKind}
use Rattle.heaprec_commands.specs.declared.reader.InputKind.TheVariants.{Script}

-- the reader of lines has the limits of a run
pub record HasLimits (lines : LineReaderState) (limits : Limits) : Type 0 where
  pub input : lines.input ≡ limits.input
  pub line : lines.line_limit ≡ limits.line

-- a file of a kind, behind what gave this job, begins with the kind and the job that are handed in.
-- For a script, one of the job's is open
pub record BeginsWith (kind : InputKind) (job : Job) (given : InputKind) (held : Job) : Type 0 where
  pub kind_is : given ≡ kind
  pub job_is : held ≡ job
  pub opened : kind ≡ Script → 0 < length job.scripts
