-- The summary of a generated trace.
use Rattle.std.proofs.Common.{◌≡◌, ℕ, ◌-◌, ◌≤◌, List, [], ◌∷◌, ◌++◌, length, take, ap}
use Rattle.std.proofs.Common.{ap₂, sym, subst, ◌∙◌, append_assoc, length-append, arith}
use Rattle.std.proofs.Math.Seq.{take-append_seam}
use Rattle.peak_costs.specs.PeakTotals.{PeakTotalsState}
use Rattle.sound_traces.specs.NoFault.{HasNoFault}
use Rattle.trace_gen.specs.declared.generator.Generator.{Generator}
use Rattle.trace_gen.specs.GeneratorState.{IsAt, lines_yet}
use Rattle.trace_reading.specs.declared.trace.Trace.{Trace}
use Rattle.trace_reports.specs.GenTaken.{HasTaken, ReadsLine}
use Rattle.trace_gen.specs.GeneratedTrace.{generated_lines}
use Rattle.trace_gen.specs.Sizes.{Sizes}
use Rattle.trace_reports.specs.GenReport.{gen_summary}
use Rattle.trace_reports.specs.SummaryReport.{summary_written}

-- it is that of all its lines
pub summary_of_lines : (sizes : Sizes) (lines : List (List ℕ)) → lines ≡ generated_lines sizes
    → summary_written [] lines ≡ gen_summary sizes
unfolding gen_summary
summary_of_lines sizes lines all = ap (summary_written []) all

module _ (old : Trace PeakTotalsState) (before after : Generator) (lines : List (List ℕ)) (line : List ℕ)
    (taken : HasTaken old before lines) (next : lines_yet before ≡ line ∷ lines_yet after) (short : length line ≤ 40) where
  good : HasNoFault taken.taken (line ∷ lines_yet after)
  good = subst (HasNoFault taken.taken) next taken.no_fault

  -- once it was read, the next line is one of those that were taken
  pub next_taken : (new : Trace PeakTotalsState) → IsAt after → ReadsLine old new line → HasTaken new after lines
  next_taken new at read = record {
    at = at;
    sound = read.sound;
    taken = taken.taken ++ line ∷ [];
    read = read.read [] taken.taken taken.read;
    split =
        taken.split
        ∙ (ap (λ more. taken.taken ++ more) next ∙ sym (append_assoc taken.taken (line ∷ []) (lines_yet after)));
    no_fault = good.1;
    room = omega (arith, read.measure, short, ap length next, taken.room);
  }

-- the text of a line is its bytes but for the line feed
pub without_feed : (text line : List ℕ) → text ≡ line ++ (10 ∷ []) → take (length text - 1) text ≡ line
without_feed text line is =
    let count : length text - 1 ≡ length line = omega (arith, ap length is, length-append line (10 ∷ [])) in
    ap₂ take count is ∙ take-append_seam line (10 ∷ [])
