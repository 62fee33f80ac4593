use Rattle.std.proofs.Common.{◌+◌, ◌<◌, ◌≤◌, Bor, ℕ, List, Err, length, length-drop, drop, refl, sym, subst, ◌∙◌, arith}
use Rattle.std.proofs.lemmas.List.{length-map}
use Rattle.command_frame.specs.FirstFault.{bounds_of}
use Rattle.command_frame.specs.RunsTo.{shown, taken}
use Rattle.command_frame.specs.Texts.{texts_of}
use Rattle.heaprec_commands.specs.FilesPlan.{scripts_front}
use Rattle.heaprec_commands.specs.FrontRead.{FrontRead, LeadsTo}
use Rattle.heaprec_commands.proofs.FrontLemmas.{bytes_of, front_behind, next_name, no_name, no_script, none_read}
use Rattle.heaprec_commands.proofs.FrontLemmas.{script_ends, scripts_further}
use Rattle.heaprec_commands.proofs.files.read_scripts.Goals as goal

pub each_name-init : goal.each_name-init
each_name-init g c = record {
  leads =
      record {
        runs = λ last more next. (last, λ later answer ran. ran);
        gives = λ folder known. refl;
        threads = refl;
        opens = refl;
      };
  limits = c.requires.limits;
  silent = refl;
  files = refl;
  write_faults = refl;
}

pub read_script-requires-clause-opens : goal.read_script-requires-clause-opens
read_script-requires-clause-opens g c =
    omega (
      arith,
      c.each_name.invariant.leads.opens,
      length-map c.args.names.now (λ (name : Bor (List ℕ)). name.now),
      c.requires.opens,
      c.requires.few,
    )

pub read_script-requires-clause-few : goal.read_script-requires-clause-few
read_script-requires-clause-few g c =
    let names = c.args.names.now in
    let index = c.each_name.name-index in
    let within : index < length names = omega arith in
    let left = length-map (drop index names) (λ (name : Bor (List ℕ)). name.now) in
    omega (
      arith,
      within,
      c.each_name.invariant.leads.threads,
      left,
      length-drop index names,
      length-map names (λ (name : Bor (List ℕ)). name.now),
      c.requires.few,
    )

pub each_name-preserved : goal.each_name-preserved
each_name-preserved g c =
    let held = c.each_name.invariant in
    let read = c.in-Ok.ensures.read in
    let rest = bytes_of (drop (c.each_name.name-index + 1) c.args.names.now) in
    let within : c.each_name.name-index < length c.args.names.now = omega arith in
    let step = next_name c.args.names.now c.each_name.name-index _ within in
    record {
      leads =
          scripts_further c.args.context.now (g.S.Store.files c.args.store.now) (bytes_of c.args.names.now)
          (bytes_of (drop c.each_name.name-index c.args.names.now)) rest _
          c.args.scripts c.each_name.scripts c.in-Ok.scripts (shown g.S.Store c.args.store.now).moment
          (shown g.S.Store c.each_name.store) (shown g.S.Store c.read_script.new.store)
          (taken g.O.Sink c.each_name.out) (taken g.O.Sink c.read_script.new.out) held.files step held.leads read;
      limits = c.read_script.ensures.limits;
      silent = read.silent ∙ held.silent;
      files = read.files ∙ held.files;
      write_faults = read.sound (λ four. absurd (omega (arith, four))) ∙ held.write_faults;
    }

pub returns-in-Err : goal.returns-in-Err
returns-in-Err g c =
    let held = c.each_name.invariant in
    let rest = bytes_of (drop (c.each_name.name-index + 1) c.args.names.now) in
    let within : c.each_name.name-index < length c.args.names.now = omega arith in
    let step = next_name c.args.names.now c.each_name.name-index _ within in
    let mid = shown g.S.Store c.each_name.store in
    let now = shown g.S.Store c.read_script.new.store in
    let between = taken g.O.Sink c.each_name.out in
    let new = taken g.O.Sink c.read_script.new.out in
    record {
      read =
          front_behind c.args.context.now (scripts_front (bytes_of c.args.names.now) c.args.scripts)
          (scripts_front (bytes_of (drop c.each_name.name-index c.args.names.now)) c.each_name.scripts)
          (shown g.S.Store c.args.store.now) mid now (taken g.O.Sink c.args.out.now) between new (Err c.in-Err.halt)
          held.leads held.files held.silent held.write_faults
          (subst
          (λ (names : List (List ℕ)). FrontRead c.args.context.now (scripts_front names c.each_name.scripts) mid now
          between new (Err c.in-Err.halt))
          (sym step)
          (script_ends c.args.context.now _ rest c.each_name.scripts mid now between new c.in-Err.halt
          c.in-Err.ensures.read));
    }

pub returns : goal.returns
returns g c =
    let held = c.each_name.invariant in
    let past : length c.args.names.now ≤ c.each_name.name-index = omega arith in
    let mid = shown g.S.Store c.each_name.store in
    let out = taken g.O.Sink c.each_name.out in
    let all = scripts_front (bytes_of c.args.names.now) c.args.scripts in
    let before = (shown g.S.Store c.args.store.now).moment in
    let texts = texts_of c.args.context.now.texts in
    let bounds = bounds_of c.args.context.now.limits in
    let told = g.S.Store.files c.args.store.now in
    record {
      read =
          front_behind c.args.context.now all _ (shown g.S.Store c.args.store.now) mid mid
          (taken g.O.Sink c.args.out.now)
          out out _
          (no_script texts bounds told all c.each_name.scripts before mid.moment
          (subst
          (λ (names : List (List ℕ)). LeadsTo texts bounds told all before (scripts_front names c.each_name.scripts)
          mid.moment)
          (no_name c.args.names.now c.each_name.name-index past) held.leads))
          held.files held.silent held.write_faults (none_read c.args.context.now c.each_name.scripts mid out);
    }
