use Rattle.std.proofs.Common.{◌≡◌, Err, Some, IfOk, ap, refl, subst, ◌∙◌}
use Rattle.command_frame.specs.RunsTo.{shown, taken}
use Rattle.command_frame.specs.Texts.{texts_of}
use Rattle.command_frame.proofs.Laws.{words_ran}
use Rattle.commands.specs.Command.{task_by}
use Rattle.commands.proofs.EndedLemmas.{has_ended}
use Rattle.commands.proofs.command.run_read.Goals as goal

pub returns-in-Ok : goal.returns-in-Ok
returns-in-Ok g c = λ words reads.
    let context = c.args.context.now in
    let command = g.C.Command.command in
    let task = command.task c.in-Ok.request in
    let store = shown g.S.Store c.args.store.now in
    let stored = shown g.S.Store c.run-ran.new.store in
    let out = taken g.O.Sink c.args.out.now in
    let mid = taken g.O.Sink c.run-ran.new.out in
    let asks : task_by command words ≡ Some task =
    subst (λ result. IfOk result (λ request. task_by command words ≡ Some (command.task request))) c.in-Ok.is
    reads.taken in
    has_ended context (task_by command words) store stored out mid (taken g.O.Sink c.deliver.new.out)
    (taken g.E.Sink c.args.err.now) (taken g.E.Sink c.deliver.new.err) c.deliver.result _
    (words_ran context (texts_of context.texts) task (task_by command words) store stored out mid
    c.run-ran.result _ refl asks refl c.run-ran.ensures) c.deliver.ensures

pub returns-in-Err : goal.returns-in-Err
returns-in-Err g c = λ words reads.
    c.refuse.ensures.told (task_by g.C.Command.command words)
    (λ is. reads.refused (c.in-Err.is ∙ ap Err is)) (shown g.S.Store c.args.store.now)
