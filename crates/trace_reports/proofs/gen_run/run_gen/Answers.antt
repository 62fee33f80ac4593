use Rattle.std.proofs.Common.{ℕ, List, [], subst}
use Rattle.command_frame.specs.Plan.{Pieces}
use Rattle.command_frame.specs.RunsTo.{RunsTo, taken}
use Rattle.trace_reports.proofs.gen_run.run_gen.Goals as goal

pub returns : goal.returns
returns g c =
    λ store. subst
    (λ (text : List ℕ). RunsTo c.args.context.now [] (Pieces text) store store (taken g.O.Sink c.args.out.now)
    (taken g.O.Sink c.run_text.new.out) c.run_text.result)
    c.in_ok-generator.ensures.text (c.run_text.ensures store)
