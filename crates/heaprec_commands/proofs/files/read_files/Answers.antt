use Rattle.std.proofs.Common.{◌≤◌, Bor, ℕ, List, Err, length, map, sym, subst, arith}
use Rattle.std.proofs.lemmas.List.{length-map}
use Rattle.std.specs.Option.{option_copied}
use Rattle.command_frame.specs.RunsTo.{shown, taken}
use Rattle.record_scripts.specs.Job.{Job}
use Rattle.heaprec_commands.specs.FileLines.{no_job}
use Rattle.heaprec_commands.specs.FilesPlan.{files_front, scripts_front}
use Rattle.heaprec_commands.specs.FrontRead.{FrontRead}
use Rattle.heaprec_commands.proofs.FrontLemmas.{front_behind, modules_end, modules_then, wanting_files}
use Rattle.heaprec_commands.proofs.files.read_files.Goals as goal

some_names : (names : List (Bor (List ℕ))) → 1 ≤ length names
    → 1 ≤ length (map (λ (name : Bor (List ℕ)). name.now) names)
some_names names some = subst (λ n. 1 ≤ n) (sym (length-map names (λ (name : Bor (List ℕ)). name.now))) some

pub returns-in_err-lines : goal.returns-in_err-lines
returns-in_err-lines g c =
    record {
      read =
          wanting_files c.args.context.now (option_copied c.args.files.now.modules)
          (map (λ name. name.now) c.args.files.now.scripts.now) (no_job c.args.context.now.limits.order)
          (shown g.S.Store c.args.store.now) (taken g.O.Sink c.args.out.now) c.from_residual.result
          c.from_residual.ensures.1 (some_names c.args.files.now.scripts.now c.requires.some);
    }

pub returns-in-Err : goal.returns-in-Err
returns-in-Err g c =
    let modules = option_copied c.args.files.now.modules in
    let names = map (λ name. name.now) c.args.files.now.scripts.now in
    let before = shown g.S.Store c.args.store.now in
    let now = shown g.S.Store c.read_modules.new.store in
    record {
      read =
          subst (λ (job : Job). FrontRead c.args.context.now (files_front modules names job) before now
          (taken g.O.Sink c.args.out.now) (taken g.O.Sink c.read_modules.new.out)
          (Err c.in-Err.halt)) c.new-scripts.ensures.empty
          (modules_end c.args.context.now modules names _ before now (taken g.O.Sink c.args.out.now)
          (taken g.O.Sink c.read_modules.new.out) c.in-Err.halt c.in-Err.ensures.read);
    }

pub returns : goal.returns
returns g c =
    let modules = option_copied c.args.files.now.modules in
    let names = map (λ name. name.now) c.args.files.now.scripts.now in
    let before = shown g.S.Store c.args.store.now in
    let mid = shown g.S.Store c.read_modules.new.store in
    let old = taken g.O.Sink c.args.out.now in
    let between = taken g.O.Sink c.read_modules.new.out in
    let read = c.in-Ok.ensures.read in
    record {
      read =
          subst (λ (job : Job). FrontRead c.args.context.now (files_front modules names job) before
          (shown g.S.Store c.read_scripts.new.store) old (taken g.O.Sink c.read_scripts.new.out)
          c.read_scripts.result) c.new-scripts.ensures.empty
          (front_behind c.args.context.now _ (scripts_front names c.in-Ok.scripts) before mid
          (shown g.S.Store c.read_scripts.new.store) old between (taken g.O.Sink c.read_scripts.new.out)
          c.read_scripts.result
          (modules_then c.args.context.now modules names _ c.in-Ok.scripts before mid old between read)
          read.files read.silent (read.sound (λ four. absurd (omega (arith, four)))) c.read_scripts.ensures.read);
    }
