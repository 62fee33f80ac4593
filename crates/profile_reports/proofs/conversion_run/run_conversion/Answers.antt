use Rattle.std.proofs.Common.{subst, sym, [], ◌∷◌}
use Rattle.command_frame.specs.RunsTo.{RunsTo, shown, taken}
use Rattle.profile_reports.specs.declared.conversion.Conversion.{Conversion}
use Rattle.profile_reports.specs.ConvertReport.{conversion_plan}
use Rattle.profile_reports.proofs.conversion_run.run_conversion.Goals as goal

pub returns-in-FoldedDhat : goal.returns-in-FoldedDhat
returns-in-FoldedDhat g c =
    let out = taken g.O.Sink c.args.out.now in
    let name = c.args.name.now in
    subst (λ (conversion : Conversion). RunsTo c.args.context.now (name ∷ []) (conversion_plan name conversion)
    (shown g.S.Store c.args.store.now) (shown g.S.Store c.run_dhat_file.new.store) out out
    c.run_dhat_file.result) (sym
    c.in-FoldedDhat.is)
    (c.run_dhat_file.ensures out)

pub returns-in-MassifOfDhat : goal.returns-in-MassifOfDhat
returns-in-MassifOfDhat g c =
    let out = taken g.O.Sink c.args.out.now in
    let name = c.args.name.now in
    subst (λ (conversion : Conversion). RunsTo c.args.context.now (name ∷ []) (conversion_plan name conversion)
    (shown g.S.Store c.args.store.now) (shown g.S.Store c.run_dhat_file-in-MassifOfDhat.new.store) out out
    c.run_dhat_file-in-MassifOfDhat.result) (sym
    c.in-MassifOfDhat.is)
    (c.run_dhat_file-in-MassifOfDhat.ensures out)
