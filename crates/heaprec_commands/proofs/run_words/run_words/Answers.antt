use Rattle.std.proofs.Common.{Err, ap, arith, inl, inr, refl, ◌∙◌}
use Rattle.command_frame.specs.Answer.{Answer}
use Rattle.command_frame.specs.Halts.{halt_answer}
use Rattle.command_frame.specs.RunsTo.{rest_of, shown, taken}
use Rattle.heaprec_commands.specs.Recorded.{IsRecorded}
use Rattle.heaprec_commands.specs.Requests.{asked_by}
use Rattle.heaprec_commands.specs.Texts.{heaprec_texts}
use Rattle.heaprec_commands.proofs.EndLemmas.{words_not_run, words_run}
use Rattle.heaprec_commands.proofs.run_words.run_words.Goals as goal

pub returns-in-Ok-clause-run : goal.returns-in-Ok-clause-run
returns-in-Ok-clause-run g c =
    words_run IsRecorded _ _ _ (asked_by c.in-Ok.request) (shown g.S.Store c.args.store.now)
    (shown g.S.Store c.run_request.new.store)
    (taken g.O.Sink c.args.out.now) (taken g.O.Sink c.run_request.new.out) (rest_of heaprec_texts c.run_request.result)
    _ c.in-Ok.ensures.taken refl c.run_request.ensures

pub returns-in-Err-NotTaken-clause-run : goal.returns-in-Err-NotTaken-clause-run
returns-in-Err-NotTaken-clause-run g c =
    let is = ap (halt_answer heaprec_texts) c.usage.ensures in
    let status = ap (λ (answer : Answer). answer.status) is in
    words_not_run IsRecorded _ _ _ _ _ _ (λ zero. omega (arith, status, zero)) (λ one. omega (arith, status, one))
    (inr (is, c.read.ensures.refused (c.in-Err-NotTaken.is ∙ ap Err c.in-Err-NotTaken.field-0-is)))

pub returns-in-Err-NoMemory-clause-run : goal.returns-in-Err-NoMemory-clause-run
returns-in-Err-NoMemory-clause-run g c =
    let is = ap (halt_answer heaprec_texts) c.no_memory.ensures in
    let status = ap (λ (answer : Answer). answer.status) is in
    words_not_run IsRecorded _ _ _ _ _ _ (λ zero. omega (arith, status, zero)) (λ one. omega (arith, status, one))
    (inl is)
