-- `flame`: the flame stacks of one trace. Its words name the trace, and a cost or none, which is
-- allocations.
use Rattle.std.specs.Prelude.{ℕ, List, [], ◌∷◌, codes, Option, Some, refl}
use Rattle.clap.specs.Words.{Row}
use Rattle.command_frame.specs.Silent.{IsSilent}
use Rattle.command_frame.specs.Task.{Task}
use Rattle.command_words.specs.WordsTaken.{only_file_in, value_in}
use Rattle.ht_print.specs.declared.flame.FlameCost.{FlameCost}
use Rattle.ht_print.specs.declared.flame.FlameCost.TheVariants.{Allocations, Temporary, Leaked, Peak}
use Rattle.trace_reading.specs.TraceReport.{trace_plan}
use Rattle.trace_reports.specs.FlameReport.{flame_written}
use Rattle.commands.specs.declared.flame_command.FlameRequest.{FlameRequest}
use Rattle.commands.specs.Command.{CommandOf, by_setting, over_file, with_file}
use Rattle.commands.specs.NameWords.{meaning_or}

-- the names of costs
abbrev pub costs : List (List ℕ × FlameCost)
costs =
    (codes "allocations", Allocations)
    ∷ (codes "temporary", Temporary)
    ∷ (codes "leaked", Leaked)
    ∷ (codes "peak", Peak)
    ∷ []

-- one trace, whose stacks are written once all lines were read
abbrev pub flame_task : List ℕ → FlameCost → Task
flame_task trace cost = over_file (λ name. trace_plan name (flame_written cost [])) trace

-- what is done for the rows of taken words: the cost is that of allocations where none is given
abbrev pub flame_given : List Row → Option Task
flame_given rows =
    by_setting (only_file_in rows) (λ trace.
    by_setting (meaning_or Allocations costs (value_in rows (codes "flamegraph-cost-type"))) (λ cost.
    Some (flame_task trace cost)))

abbrev pub flame : CommandOf FlameRequest
flame = record {
  table = with_file (codes "flamegraph-cost-type" ∷ []);
  given = λ words rows. flame_given rows;
  task = λ request. flame_task request.trace.now request.cost;
}

-- nothing is written while it reads
pub flame_is_silent : (trace : List ℕ) (cost : FlameCost) → IsSilent (flame_task trace cost).plan
flame_is_silent trace cost = (λ earlier line. refl, λ lines. tt)
