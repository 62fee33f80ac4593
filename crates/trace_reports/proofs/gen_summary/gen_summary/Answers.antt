use Rattle.std.proofs.Common.{[], ◌∙◌, refl, sym, subst}
use Rattle.std.proofs.lemmas.Result.{IfOk-weaker}
use Rattle.trace_gen.specs.GeneratorState.{lines_yet}
use Rattle.trace_gen.specs.Sizes.{sizes_of}
use Rattle.sound_traces.specs.NoFault.{HasNoFault}
use Rattle.trace_reading.specs.TotalsView.{totals_view}
use Rattle.trace_reading.proofs.Laws.{new_totals, new_sound, new_measure}
use Rattle.trace_reports.proofs.GenLemmas.{summary_of_lines}
use Rattle.trace_reports.proofs.gen_summary.gen_summary.Goals as goal

pub summarize-summary-requires : goal.summarize-summary-requires
summarize-summary-requires c =
    let options = c.args.options.now in
    let tables = c.new-tables.result in
    let totals = c.new-follower.ensures in
    let new = new_totals c.new-follower.result totals.stands totals.stacks totals.infos tables in
    let follower = totals_view c.new-follower.result in
    record {
      at = c.in_ok-generator.ensures.at;
      few = c.in_ok-generator.ensures.few;
      good = subst (HasNoFault []) (sym c.in_ok-generator.ensures.lines)
          (c.generated_traces.ensures.no_fault (sizes_of options) options.stacks_above_zero options.stacks_in_range
          options.events_in_range);
      sound = new_sound tables follower c.new-tables.ensures.nodes c.new-tables.ensures.infos new;
      new_trace = record {
        given = [];
        patterns_are = refl;
        tables_of = c.new-tables.ensures.stands;
        stands = totals.stands;
      };
      no_measure = new_measure tables follower c.new-tables.ensures.nodes new;
    }

pub returns : goal.returns
returns c =
    IfOk-weaker c.summarize-summary.result _ _
    (λ summary is. is
    ∙ summary_of_lines (sizes_of c.args.options.now) (lines_yet c.in_ok-generator.generator)
    c.in_ok-generator.ensures.lines)
    c.summarize-summary.ensures
