use Rattle.std.proofs.Common.{length, ap, ◌∙◌}
use Rattle.record_scripts.specs.Job.{Job}
use Rattle.heaprec_commands.specs.declared.reader.InputKind.TheVariants.{Script}
use Rattle.heaprec_commands.proofs.LineLemmas.{count-one}
use Rattle.heaprec_commands.proofs.TakenLemmas.{front-taken}
use Rattle.heaprec_commands.proofs.ready_lines.take_front.Goals as goal

pub returns-in-Ok-clause-taken : goal.returns-in-Ok-clause-taken
returns-in-Ok-clause-taken c =
    let found = c.in_ok-end.ensures in
    front-taken Script c.args.scripts.now c.line.new.self c.args.ready.now c.split_at.result.0.now c.in_ok-end.end
    c.split_at.ensures.front found.within found.short found.one_line found.feed c.in-Ok.ensures.no_fault
    c.in-Ok.ensures.taken

pub returns-in-Ok-clause-count : goal.returns-in-Ok-clause-count
returns-in-Ok-clause-count c =
    ap (λ (job : Job). length job.scripts) c.in-Ok.ensures.taken
    ∙ count-one Script c.args.scripts.now c.split_at.result.0.now
