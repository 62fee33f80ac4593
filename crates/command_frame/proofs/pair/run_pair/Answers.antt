use Rattle.std.proofs.Common.{◌∷◌, [], subst}
use Rattle.command_frame.specs.Plan.{one_file}
use Rattle.command_frame.specs.Report.{Report}
use Rattle.command_frame.specs.RunsTo.{RunsReady, shown, taken}
use Rattle.command_frame.proofs.RunsToLemmas.{runs_on, runs_stopped, runs_wanting_by}
use Rattle.command_frame.proofs.pair.run_pair.Goals as goal

pub returns-in_err-lines : goal.returns-in_err-lines
returns-in_err-lines g c = runs_wanting_by _ _ _ _ _ _ _ _ c.from_residual.ensures.1

pub returns-in-Err : goal.returns-in-Err
returns-in-Err g c = runs_stopped _ _ _ _ _ _ _ _ _ _ c.in-Err.ensures.read

pub returns-in_err-second : goal.returns-in_err-second
returns-in_err-second g c =
    runs_on _ _ _ _ _ _ _ _ _ _ _ _ c.in-Ok.ensures.read
    (λ lines has. runs_wanting_by _ _ _ _ _ _ _ _ c.from_residual-in_err-second.ensures.1)

pub returns : goal.returns
returns g c =
    let second = c.args.names.now.second.now in
    runs_on _ _ _ _ _ _ _ _ _ _ _ _ c.in-Ok.ensures.read
    (λ lines has. subst
    (λ (report : Report). RunsReady g.P.Second.Rest.ReadyText.bytes c.args.context.now (second ∷ [])
    (one_file second report)
    (shown g.S.Store c.read_named_file.new.store) (shown g.S.Store c.run_last_file.new.store)
    (taken g.O.Sink c.read_named_file.new.out) (taken g.O.Sink c.run_last_file.new.out) c.run_last_file.result)
    (c.in_ok-second.ensures.report lines has) c.run_last_file.ensures)
