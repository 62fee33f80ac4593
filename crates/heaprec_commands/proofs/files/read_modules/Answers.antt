use Rattle.std.proofs.Common.{Bor, ℕ, List, Ok, Option, sym, subst}
use Rattle.std.specs.Option.{option_copied}
use Rattle.command_frame.specs.RunsTo.{shown, taken}
use Rattle.heaprec_commands.specs.FilesPlan.{modules_front}
use Rattle.heaprec_commands.specs.FrontRead.{FrontRead}
use Rattle.heaprec_commands.proofs.FrontLemmas.{none_read}
use Rattle.heaprec_commands.proofs.files.read_modules.Goals as goal

pub returns-in-None-clause-read : goal.returns-in-None-clause-read
returns-in-None-clause-read g c =
    let store = shown g.S.Store c.args.store.now in
    let out = taken g.O.Sink c.args.out.now in
    subst (λ (modules : Option (Bor (List ℕ))). FrontRead c.args.context.now
    (modules_front (option_copied modules) c.args.scripts) store store out out (Ok c.args.scripts)) (sym
    c.in-None.is)
    (none_read c.args.context.now c.args.scripts store out)

pub returns-in-Some-clause-read : goal.returns-in-Some-clause-read
returns-in-Some-clause-read g c =
    subst (λ (modules : Option (Bor (List ℕ))). FrontRead c.args.context.now
    (modules_front (option_copied modules) c.args.scripts) (shown g.S.Store c.args.store.now)
    (shown g.S.Store c.read_file.new.store)
    (taken g.O.Sink c.args.out.now) (taken g.O.Sink c.read_file.new.out) c.read_file.result) (sym c.in-Some.is)
    c.read_file.ensures.read
