use Rattle.std.proofs.Common.{◌≡◌, ◌+◌, [], ◌∷◌, length, ap, subst, ◌∙◌, length-append, arith}
use Rattle.command_frame.specs.RunsTo.{shown, taken}
use Rattle.record_scripts.specs.Job.{Job}
use Rattle.heaprec_commands.specs.declared.reader.InputKind.TheVariants.{Script}
use Rattle.heaprec_commands.specs.FileLines.{begun}
use Rattle.heaprec_commands.specs.FilesPlan.{file_front}
use Rattle.heaprec_commands.specs.FrontRead.{FrontRead}
use Rattle.heaprec_commands.proofs.FrontLemmas.{wanting_file}
use Rattle.heaprec_commands.proofs.files.read_script.Goals as goal

pub returns-in_err-begin-clause-read : goal.returns-in_err-begin-clause-read
returns-in_err-begin-clause-read g c =
    wanting_file c.args.context.now Script c.args.name.now (begun c.args.scripts) (shown g.S.Store c.args.store.now)
    (taken g.O.Sink c.args.out.now) c.from_residual.result c.from_residual.ensures.1

pub returns-clause-read : goal.returns-clause-read
returns-clause-read g c =
    subst (λ (start : Job). FrontRead c.args.context.now (file_front Script c.args.name.now start)
    (shown g.S.Store c.args.store.now) (shown g.S.Store c.read_file.new.store)
    (taken g.O.Sink c.args.out.now) (taken g.O.Sink c.read_file.new.out) c.read_file.result) c.in_ok-begin.ensures.begun
    c.read_file.ensures.read

-- one script more was begun
one_more : (old new : Job) → new ≡ begun old → length new.scripts ≡ length old.scripts + 1
one_more old new is = ap (λ (job : Job). length job.scripts) is ∙ length-append old.scripts ([] ∷ [])

pub read_file-requires-clause-open : goal.read_file-requires-clause-open
read_file-requires-clause-open g c =
    λ is. let more = one_more c.args.scripts c.begin.new.self c.in_ok-begin.ensures.begun in omega (arith, more)
