use Rattle.std.proofs.Common.{Bool, [], sym, subst}
use Rattle.command_frame.specs.RunsTo.{RunsTo, shown, taken}
use Rattle.trace_gen.specs.Sizes.{sizes_of}
use Rattle.commands.specs.GenCommand.{gen_plan}
use Rattle.commands.proofs.gen_command.GenRequestCommand.run.Goals as goal

pub returns-then-self : goal.returns-then-self
returns-then-self g c =
    let store = shown g.S.Store c.args._store.now in
    let out = taken g.O.Sink c.args.out.now in
    subst (λ (run : Bool). RunsTo c.args.context.now []
    (gen_plan (sizes_of c.args.self.now.options) run) store store out
    out c.run_gen_summary.result) (sym c.if-self.true) (c.run_gen_summary.ensures store out)

pub returns : goal.returns
returns g c =
    let store = shown g.S.Store c.args._store.now in
    subst (λ (run : Bool). RunsTo c.args.context.now [] (gen_plan (sizes_of c.args.self.now.options) run) store store
    (taken g.O.Sink c.args.out.now) (taken g.O.Sink c.run_gen.new.out) c.run_gen.result) (sym c.if-self.false)
    (c.run_gen.ensures store)
