-- The summary of a generated trace is that of the lines that are generated.
use Rattle.std.specs.Prelude.{ℕ, List, []}
use Rattle.trace_gen.specs.GeneratedTrace.{generated_lines}
use Rattle.trace_gen.specs.Sizes.{Sizes}
use Rattle.trace_reports.specs.SummaryReport.{summary_written}

-- the summary of the generated trace
unfoldable pub gen_summary : Sizes → List ℕ
gen_summary sizes = summary_written [] (generated_lines sizes)
