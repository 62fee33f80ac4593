use Rattle.std.proofs.Common.{ap, sym, inl, arith}
use Rattle.command_frame.specs.Answer.{verdict_answer}
use Rattle.command_frame.specs.Texts.{texts_of}
use Rattle.command_frame.proofs.RunsToLemmas.{runs_to_judgement, runs_unread}
use Rattle.command_frame.proofs.document.run_document.Goals as goal

pub returns-in-Err : goal.returns-in-Err
returns-in-Err g c = λ out. runs_unread _ _ _ _ _ _ _ _ c.in-Err.ensures.read

pub returns-in-Ok-report : goal.returns-in-Ok-report
returns-in-Ok-report g c =
    λ out. runs_to_judgement _ _ _ _ _ _ _ _ c.in-Ok.ensures.read
    (inl (ap (verdict_answer (texts_of c.args.context.now.texts) c.args.name.now) (sym
    c.in-Ok-report.ensures.output)))
    (λ four. omega (arith, four))

pub returns-in-Err-report : goal.returns-in-Err-report
returns-in-Err-report g c = λ out.
    runs_to_judgement _ _ _ _ _ _ _ _ c.in-Ok.ensures.read
    (c.refused.ensures.judges _ c.in-Err-report.ensures.fault) c.refused.ensures.write
