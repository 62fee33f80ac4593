-- From what a run of the words and the delivery of its answer came to, to what a run of the program comes to.
use Rattle.std.proofs.Common.{◌≡◌, ◌≢◌, ◌⊎◌, ℕ, ◌^◌, ◌<◌, List, false, Some, ap, sym, ◌∙◌, inl, inr, arith}
use Rattle.std.specs.Io.KnownBytes.{append_known}
use Rattle.hp_outside.specs.Folder.{Folder}
use Rattle.command_frame.specs.Answer.{Answer}
use Rattle.command_frame.specs.FirstFault.{Bounds}
use Rattle.command_frame.specs.Outside.{Gives, Outside, StoreFaulted}
use Rattle.command_frame.proofs.Laws.{TaskEnded, append_nothing, defined_by, front_by, gives_as, judged_by, run_ends}
use Rattle.command_frame.proofs.Laws.{silent_by, task_quiet, to_end_by, unreached_by, wrote}
use Rattle.commands.specs.Answer.{answer}
use Rattle.commands.specs.Commands.{knows_first, task_of}
use Rattle.commands.specs.HasRun.{HasRun}
use Rattle.commands.specs.Texts.{heapsuite_texts}
use Rattle.trace_reports.proofs.Laws.{AreLaws}
use Rattle.commands.proofs.KeepLemmas.{run-keeps}

-- statuses 1 and 6 are no others
is_other : (status other : ℕ) → (status ≡ 1) ⊎ (status ≡ 6) → other ≢ 1 → other ≢ 6 → status ≢ other
is_other status other (inl one) isnt_one isnt_six = λ is. isnt_one (sym is ∙ one)
is_other status other (inr six) isnt_one isnt_six = λ is. isnt_six (sym is ∙ six)

-- a run of the words, of which an unknown first one takes no memory
pub has_run : (laws : AreLaws) (bounds : Bounds) (words : List (List ℕ)) (before now : Outside) (status : ℕ)
    (given : Answer)
    → bounds.line < 2 ^ 32
    → (e : TaskEnded heapsuite_texts bounds (task_of words) before now status given)
    → (knows_first words ≡ false → status ≢ 5)
    → HasRun bounds words before now status
has_run laws bounds words before now status given small e unknown =
    let defined : (folder : Folder) → before.store.files ≡ Some folder → ¬ StoreFaulted before now → status ≢ 4
    → status ≢ 5 → Gives before now (answer words bounds folder) status =
    λ folder known quiet four five. gives_as before now status (defined_by e folder known quiet four five)
    (e.delivered.whole four) in
    let judged : (folder : Folder) → before.store.files ≡ Some folder → status ≢ 3 → status ≢ 4 → status ≢ 5
    → Gives before now (answer words bounds folder) status =
    λ folder known three four five. gives_as before now status (judged_by e folder known three four five)
    (e.delivered.whole four) in
    let ends = run_ends e (λ none. none) (λ none. none) in
    record {
      defined =
          λ folder known quiet out_quiet err_quiet five. defined folder known quiet (wrote e out_quiet err_quiet) five;
      complete = λ folder known zero quiet out_quiet err_quiet five.
          let given = defined folder known quiet (wrote e out_quiet err_quiet) five in (
            given.status_is ∙ zero,
            given.output,
            given.message
                ∙
                (ap (append_known before.err.written)
                (task_quiet heapsuite_texts bounds folder (task_of words) zero)
                ∙ append_nothing before.err.written),
          );
      run = (given, record { ran = e.ran; delivered = e.delivered });
      front = front_by e;
      judged = judged;
      malformed = λ folder known quiet one four five. (defined folder known quiet four five).status_is ∙ one;
      past_limit = λ folder known quiet six four five. (defined folder known quiet four five).status_is ∙ six;
      reached = λ folder known reached four five. judged folder known (unreached_by e folder known reached) four five;
      only_reached = λ folder known faulty.
          let three = is_other status 3 faulty (λ is. omega (arith, is)) (λ is. omega (arith, is)) in
          let four = is_other status 4 faulty (λ is. omega (arith, is)) (λ is. omega (arith, is)) in
          let five = is_other status 5 faulty (λ is. omega (arith, is)) (λ is. omega (arith, is)) in
          (ends.store_faults three four five, judged folder known three four five);
      read_to_end = to_end_by e;
      keeps_ledger = λ folder known zero.
          let whole =
          judged folder known (λ three. omega (arith, zero, three)) (λ four. omega (arith, zero, four))
          (λ five. omega (arith, zero, five)) in (
            (answer words bounds folder).output,
            whole.output,
            run-keeps laws bounds folder words small (sym whole.status_is ∙ zero),
          );
      silent = silent_by e;
      unknown = unknown;
      ends = ends;
    }
