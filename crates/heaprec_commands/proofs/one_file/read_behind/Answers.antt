use Rattle.command_frame.specs.RunsTo.{shown, taken}
use Rattle.heaprec_commands.proofs.FrontLemmas.{file_passed, file_stopped}
use Rattle.heaprec_commands.proofs.one_file.read_behind.Goals as goal

pub returns-in-Ok-clause-read : goal.returns-in-Ok-clause-read
returns-in-Ok-clause-read g c =
    file_passed c.args.context.now g.B.Start.kind c.args.file.now.name.now g.B.Start.job
    c.read_named_file.new.taker.scripts (shown g.S.Store c.args.store.now)
    (shown g.S.Store c.read_named_file.new.store)
    (taken g.O.Sink c.args.out.now) (taken g.O.Sink c.read_named_file.new.out) c.in-Ok.ensures.read (λ lines has. has)

pub returns-in-Err-clause-read : goal.returns-in-Err-clause-read
returns-in-Err-clause-read g c =
    file_stopped c.args.context.now g.B.Start.kind c.args.file.now.name.now g.B.Start.job
    (shown g.S.Store c.args.store.now) (shown g.S.Store c.read_named_file.new.store)
    (taken g.O.Sink c.args.out.now) (taken g.O.Sink c.read_named_file.new.out) c.in-Err.halt c.in-Err.ensures.read
