use Rattle.std.proofs.Common.{◌≤◌, Bor, ℕ, List, Some, Ok, Err, map, length, ap, sym, subst, arith}
use Rattle.std.proofs.lemmas.List.{length-map}
use Rattle.std.specs.Option.{option_copied}
use Rattle.command_frame.specs.Answer.{done}
use Rattle.command_frame.specs.FirstFault.{bounds_of}
use Rattle.command_frame.specs.RunsTo.{rest_of, shown, taken}
use Rattle.heaprec_commands.specs.FileLines.{no_job}
use Rattle.heaprec_commands.specs.FilesPlan.{files_front}
use Rattle.heaprec_commands.specs.FrontRead.{FrontRead}
use Rattle.heaprec_commands.specs.Recorded.{IsRecorded}
use Rattle.heaprec_commands.specs.RecordWords.{Task}
use Rattle.heaprec_commands.specs.Requests.{asked_by, task_by}
use Rattle.heaprec_commands.specs.Run.{WordsRecord}
use Rattle.heaprec_commands.specs.Texts.{heaprec_texts}
use Rattle.heaprec_commands.proofs.EndLemmas.{asked_checked, asked_done, asked_halted, asked_wanting, asks}
use Rattle.heaprec_commands.proofs.FrontLemmas.{few_named}
use Rattle.heaprec_commands.proofs.run_words.run_request.Goals as goal

pub returns-in-Err : goal.returns-in-Err
returns-in-Err g c =
    let modules = option_copied c.args.request.now.modules in
    let before = shown g.S.Store c.args.store.now in
    let now = shown g.S.Store c.read_files.new.store in
    let old = taken g.O.Sink c.args.out.now in
    let new = taken g.O.Sink c.read_files.new.out in
    let limit = c.args.context.now.limits.order in
    asked_halted IsRecorded c.args.context.now limit (asked_by c.args.request.now) before now old new c.in-Err.halt
    c.requires.texts
    (subst (λ (names : List (Bor (List ℕ))). FrontRead c.args.context.now
    (files_front modules (map (λ name. name.now) names) (no_job limit)) before now old new
    (Err c.in-Err.halt)) c.deref.ensures.value c.in-Err.ensures.read)

pub returns-in_ok-record_text-in-Record : goal.returns-in_ok-record_text-in-Record
returns-in_ok-record_text-in-Record g c =
    let modules = option_copied c.args.request.now.modules in
    let scripts = map (λ name. name.now) c.args.request.now.scripts.items in
    let before = shown g.S.Store c.args.store.now in
    let now = shown g.S.Store c.read_files.new.store in
    let old = taken g.O.Sink c.args.out.now in
    let new = taken g.O.Sink c.read_files.new.out in
    let limit = c.args.context.now.limits.order in
    subst (λ (task : Task). WordsRecord IsRecorded (bounds_of c.args.context.now.limits) limit
    (Some (asks modules scripts task)) before now old new (done c.in_ok-record_text-in-Record.field-0.items)) (sym
    (ap task_by c.in-Record.is))
    (asked_done IsRecorded c.args.context.now limit modules scripts c.in-Record.summary before now old new
    c.in-Ok.scripts
    c.in_ok-record_text-in-Record.field-0.items c.requires.texts
    (subst (λ (names : List (Bor (List ℕ))). FrontRead c.args.context.now
    (files_front modules (map (λ name. name.now) names) (no_job limit)) before now old new
    (Ok c.in-Ok.scripts)) c.deref.ensures.value c.in-Ok.ensures.read)
    c.in_ok-record_text-in-Record.ensures)

pub returns-in_err-record_text-in-Record : goal.returns-in_err-record_text-in-Record
returns-in_err-record_text-in-Record g c =
    let modules = option_copied c.args.request.now.modules in
    let scripts = map (λ name. name.now) c.args.request.now.scripts.items in
    let before = shown g.S.Store c.args.store.now in
    let now = shown g.S.Store c.read_files.new.store in
    let old = taken g.O.Sink c.args.out.now in
    let new = taken g.O.Sink c.read_files.new.out in
    let limit = c.args.context.now.limits.order in
    subst (λ (task : Task). WordsRecord IsRecorded (bounds_of c.args.context.now.limits) limit
    (Some (asks modules scripts task)) before now old new (rest_of heaprec_texts c.from_residual.result)) (sym
    (ap task_by c.in-Record.is))
    (asked_wanting IsRecorded c.args.context.now limit modules scripts c.in-Record.summary before now old new
    c.in-Ok.scripts c.from_residual.result c.requires.texts
    (subst (λ (names : List (Bor (List ℕ))). FrontRead c.args.context.now
    (files_front modules (map (λ name. name.now) names) (no_job limit)) before now old new
    (Ok c.in-Ok.scripts)) c.deref.ensures.value c.in-Ok.ensures.read)
    c.from_residual.ensures.1)

pub returns-in-Check : goal.returns-in-Check
returns-in-Check g c =
    let modules = option_copied c.args.request.now.modules in
    let scripts = map (λ name. name.now) c.args.request.now.scripts.items in
    let before = shown g.S.Store c.args.store.now in
    let mid = shown g.S.Store c.read_files.new.store in
    let now = shown g.S.Store c.check_trace.new.store in
    let old = taken g.O.Sink c.args.out.now in
    let between = taken g.O.Sink c.read_files.new.out in
    let new = taken g.O.Sink c.check_trace.new.out in
    let limit = c.args.context.now.limits.order in
    let job = c.in-Ok.scripts in
    let few : length job.scripts ≤ 64 =
    omega (
      arith,
      c.in-Ok.ensures.read.goes_on.threads,
      length-map c.deref.result.now (λ (name : Bor (List ℕ)). name.now),
      ap (λ (names : List (Bor (List ℕ))). length names) c.deref.ensures.value,
      c.requires.few,
    ) in
    subst (λ (task : Task). WordsRecord IsRecorded (bounds_of c.args.context.now.limits) limit
    (Some (asks modules scripts task)) before now old new (rest_of heaprec_texts c.check_trace.result)) (sym
    (ap task_by c.in-Check.is))
    (asked_checked IsRecorded c.args.context.now limit modules scripts c.in-Check.trace.now before mid now old between
    new
    job c.check_trace.result c.requires.texts
    (c.front_laws.ensures job few (c.quiet_modules.ensures job.modules c.modules-modules.ensures.whole))
    (subst (λ (names : List (Bor (List ℕ))). FrontRead c.args.context.now
    (files_front modules (map (λ name. name.now) names) (no_job limit)) before mid old between
    (Ok job)) c.deref.ensures.value c.in-Ok.ensures.read)
    c.check_trace.ensures)

pub check_trace-requires : goal.check_trace-requires
check_trace-requires g c =
    let files = c.deref.result.now in
    let few = few_named (option_copied c.args.request.now.modules) (map (λ name. name.now) files) in
    omega (
      arith,
      c.in-Ok.ensures.read.goes_on.opens,
      few,
      length-map files (λ (name : Bor (List ℕ)). name.now),
      ap (λ (names : List (Bor (List ℕ))). length names) c.deref.ensures.value,
      c.requires.few,
      c.requires.opens,
    )
