use Rattle.std.proofs.Common.{◌≡◌, ap, subst, sym, inl, arith}
use Rattle.command_frame.specs.Answer.{verdict_answer}
use Rattle.command_frame.specs.Report.{Report, Writes}
use Rattle.command_frame.specs.Taker as taker
use Rattle.command_frame.specs.Texts.{texts_of}
use Rattle.command_frame.proofs.RunsToLemmas.{runs_stopped, runs_to_verdict}
use Rattle.command_frame.proofs.run.run_last_file.Goals as goal

pub returns-in-Err : goal.returns-in-Err
returns-in-Err g c = runs_stopped _ _ _ _ _ _ _ _ _ _ c.in-Err.ensures.read

pub returns-in-Ok-finish : goal.returns-in-Ok-finish
returns-in-Ok-finish g c =
    runs_to_verdict _ _ _ _ _ _ _ _ c.in-Ok.ensures.read
    (λ taken has. inl (ap (verdict_answer (texts_of c.args.context.now.texts) c.args.name.now) (sym
    (subst (λ (r : Report). r.verdict taken ≡ Writes (g.T.Rest.ReadyText.bytes c.in-Ok-finish.rest))
    c.read_named_file.ensures.taker.report (c.in-Ok-finish.ensures.output taken has)))))
    (λ four. omega (arith, four))

pub returns-in-Err-finish : goal.returns-in-Err-finish
returns-in-Err-finish g c =
    runs_to_verdict _ _ _ _ _ _ _ _ c.in-Ok.ensures.read
    (λ taken has. c.refused.ensures.judges _
    (subst (λ (r : Report). taker.Refuses g.T.Fault.Fault.told c.in-Err-finish.refusal (r.verdict taken))
    c.read_named_file.ensures.taker.report (c.in-Err-finish.ensures.fault taken has)))
    c.refused.ensures.write
