-- `gen`: a generated trace, or its summary. Its words give a seed, a number of events and one of
-- stacks, each in its range, and whether the summary is asked for.
use Rattle.std.specs.Prelude.{List, [], ◌∷◌, codes, Bool, false, true, Option, Some, if◌then◌else◌}
use Rattle.clap.specs.Words.{Row}
use Rattle.command_frame.specs.Plan.{Ends, Pieces, Plan}
use Rattle.command_frame.specs.Report.{Writes}
use Rattle.command_frame.specs.Silent.{IsSilent}
use Rattle.command_frame.specs.Task.{Task}
use Rattle.command_words.specs.WordsTaken.{flag_in, value_in}
use Rattle.trace_gen.specs.GeneratedTrace.{generated_text}
use Rattle.trace_gen.specs.Sizes.{Sizes, sizes_of}
use Rattle.trace_reports.specs.GenReport.{gen_summary}
use Rattle.commands.specs.declared.gen_command.GenRequest.{GenRequest}
use Rattle.commands.specs.Command.{CommandOf, by_setting}
use Rattle.commands.specs.NumberWords.{number_or}

-- the trace is written while it is made, or its summary once all of it was
abbrev pub gen_plan : Sizes → Bool → Plan
gen_plan sizes run = if run then Ends (Writes (gen_summary sizes)) else Pieces (generated_text sizes)

-- no file is read
abbrev pub gen_task : Sizes → Bool → Task
gen_task sizes run = record { names = []; plan = gen_plan sizes run }

-- what is done for the rows of taken words
abbrev pub gen_given : List Row → Option Task
gen_given rows =
    by_setting (number_or 1 0 2147483647 (value_in rows (codes "seed"))) (λ seed.
    by_setting (number_or 1000 0 10000000 (value_in rows (codes "events"))) (λ events.
    by_setting (number_or 10 1 4000 (value_in rows (codes "stacks"))) (λ stacks.
    Some (gen_task (record { seed = seed; stacks = stacks; events = events }) (flag_in rows (codes "run"))))))

-- three options and a flag, and no file
abbrev pub gen : CommandOf GenRequest
gen = record {
  table = record {
    options = codes "seed" ∷ codes "events" ∷ codes "stacks" ∷ [];
    flags = codes "run" ∷ [];
    files = false;
  };
  given = λ words rows. gen_given rows;
  task = λ request. gen_task (sizes_of request.options) request.run;
}

-- a summary is written in one piece
pub gen_summary_is_silent : (sizes : Sizes) → IsSilent (gen_plan sizes true)
gen_summary_is_silent sizes = tt
