use Rattle.std.proofs.Common.{◌≤◌, length, sym, ◌∙◌, subst, arith}
use Rattle.std.specs.Arc.{arc_value}
use Rattle.record_scripts.specs.Job.{Job}
use Rattle.record_scripts.specs.ModuleLines.{AreModuleLines}
use Rattle.record_book.specs.Spelled.{AreQuiet}
use Rattle.order_check.proofs.check.check_order.Goals as goal

pub compare_lines-requires-clause-new_check : goal.compare_lines-requires-clause-new_check
compare_lines-requires-clause-new_check g c =
    let job = sym c.in_ok-check.ensures.job in
    record {
      taken = c.in_ok-check.ensures.none;
      spelling = record {
        few =
            subst (λ (j : Job). length j.scripts ≤ 64) (c.deref.ensures ∙ job)
            (omega (arith, c.threads-threads.ensures.count, c.threads-threads.ensures.few));
        quiet = subst (λ (j : Job). AreQuiet j.modules) job (c.quiet_modules.ensures (arc_value c.args.job).modules
            (subst (λ (j : Job). AreModuleLines j.modules) c.deref-2.ensures c.modules-modules.ensures.whole));
        reads = c.decimal_texts.ensures.reads_back;
      };
    }
