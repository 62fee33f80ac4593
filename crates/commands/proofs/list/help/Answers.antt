use Rattle.std.proofs.Common.{[], arith, map, refl, string_bytes, subst, sym}
use Rattle.command_frame.specs.Plan.{Ends}
use Rattle.command_frame.specs.Report.{Writes}
use Rattle.command_frame.specs.RunsTo.{RunsTo, taken}
use Rattle.command_frame.specs.Texts.{Texts, texts_of}
use Rattle.command_frame.proofs.Laws.{words_ran}
use Rattle.commands.specs.Commands.{help_task, usage}
use Rattle.commands.specs.HasEnded.{HasEnded}
use Rattle.commands.proofs.EndedLemmas.{has_ended, no_words}
use Rattle.commands.proofs.list.help.Goals as goal

pub returns-in-empty : goal.returns-in-empty
returns-in-empty g c = λ store.
    let context = c.args.context.now in
    let out = taken g.O.Sink c.args.out.now in
    let out_now = taken g.O.Sink c.deliver.new.out in
    let err = taken g.E.Sink c.args.err.now in
    let err_now = taken g.E.Sink c.deliver.new.err in
    let none = no_words c.args.words.now (let below = c.in-empty.len_below in omega (arith, below)) in
    subst (λ words. HasEnded context (help_task (map string_bytes words))
    (record { store = store; out = out; err = err }) (record { store = store; out = out_now; err = err_now })
    c.deliver.result) (sym none)
    (has_ended context (help_task []) store store out out out_now err err_now c.deliver.result _
    (words_ran context (texts_of context.texts) (record { names = []; plan = Ends (Writes usage) }) (help_task []) store
    store out out c.usage-ran.result _ refl refl refl
    (subst (λ (texts : Texts). RunsTo context [] (Ends (Writes texts.usage)) store store out out c.usage-ran.result)
    c.requires.texts (c.usage-ran.ensures store out))) c.deliver.ensures)
