-- From a run of the words and the delivery of its answer to what every run promises.
use Rattle.std.proofs.Common.{◌≡◌, ◌≢◌, ℕ, ◌+◌, ◌≤◌, true, [], ◌++◌, length, min, take, Option, Some, None, refl, ap}
use Rattle.std.proofs.Common.{sym, subst, ◌∙◌, inl, inr, arith}
use Rattle.std.proofs.lemmas.Bool.Decides.{eqb_tells}
use Rattle.std.specs.Io.KnownBytes.{append_known}
use Rattle.hp_outside.specs.Faults.{Faulted}
use Rattle.hp_outside.specs.Folder.{Folder}
use Rattle.hp_outside.specs.Taken.{GainsFront, WhereTold}
use Rattle.command_frame.specs.Answer.{Answer, after, memory_answer, usage_answer}
use Rattle.command_frame.specs.Delivers.{DeliversTo}
use Rattle.command_frame.specs.FirstFault.{Bounds}
use Rattle.command_frame.specs.Moment.{Moment}
use Rattle.command_frame.specs.Outside.{ErrFaulted, Gives, OutFaulted, Outside, StoreFaulted}
use Rattle.command_frame.specs.RunEnds.{IsDelivered, RunEnds}
use Rattle.command_frame.specs.RunFacts.{NotRead}
use Rattle.command_frame.specs.RunsTo.{Shown, Taken}
use Rattle.command_frame.specs.Task.{IsSilentTask, Task, task_answer, task_names}
use Rattle.command_frame.specs.Texts.{Texts}
use Rattle.command_frame.specs.WordsRan.{WordsRan, WordsRunTo}
use Rattle.command_frame.proofs.DeliveryLemmas.{fronts_behind, fronts_later}
use Rattle.command_frame.proofs.EndLemmas.{take_take}
use Rattle.command_frame.proofs.OutputLemmas.{append_further, append_nothing}
use Rattle.command_frame.proofs.QuietLemmas.{plan_quiet}
use Rattle.command_frame.proofs.RunFactLemmas.{run_facts}

-- what follows for the answer of a run of the words
record TaskFacts (texts : Texts) (bounds : Bounds) (files : Option Folder) (task : Option Task) (before now : Moment)
    (given : Answer) : Type 0 where
  pub judged : WhereTold files
      (λ folder. given.status ≢ 3 → given.status ≢ 4 → given.status ≢ 5 → given ≡ task_answer texts bounds folder task)
  pub quiet : WhereTold files
      (λ folder. ¬ Faulted before.faults now.faults → given.status ≢ 4 → given.status ≢ 5
      → given ≡ task_answer texts bounds folder task)
  pub front : WhereTold files
      (λ folder. (count : ℕ) × (given.output ≡ take count (task_answer texts bounds folder task).output))
  pub opens_at_most : now.opens ≤ before.opens + length (task_names task)
  pub opened : given.status ≡ 0 → now.opens ≡ before.opens + length (task_names task)
  pub current : given.status ≡ 0 → task_names task ≢ [] → now.current ≡ true
  pub ended : given.status ≡ 0 → task_names task ≢ [] → WhereTold now.left (λ left. left ≡ [])
  pub not_read : given.status ≡ 3 → NotRead texts files (task_names task) before now given
  pub sound : given.status ≢ 3 → given.status ≢ 4 → given.status ≢ 5 → now.faults ≡ before.faults
  pub memory : given.status ≡ 5 → given.message ≡ texts.out_of_memory
  pub bounded : given.status ≤ 6
  pub usage : task ≡ None → given.status ≢ 5 → given ≡ usage_answer texts
  pub only_usage : given.status ≡ 2 → task ≡ None
  pub silent : IsSilentTask task → given.status ≢ 0 → given.output ≡ []

-- memory was wanting for the words
wanting : (texts : Texts) (bounds : Bounds) (files : Option Folder) (task : Option Task) (before now : Moment)
    (given : Answer)
    → now ≡ before → given ≡ memory_answer texts
    → TaskFacts texts bounds files task before now given
wanting texts bounds files task before now given same is =
    let five : given.status ≡ 5 = ap (λ (a : Answer). a.status) is in
    let opens : now.opens ≡ before.opens = ap (λ (m : Moment). m.opens) same in
    record {
      judged = λ folder known three four other. absurd (other five);
      quiet = λ folder known quiet four other. absurd (other five);
      front = λ folder known. (0, ap (λ (a : Answer). a.output) is);
      opens_at_most = omega (arith, opens);
      opened = λ zero. absurd (omega (arith, five, zero));
      current = λ zero some. absurd (omega (arith, five, zero));
      ended = λ zero some. absurd (omega (arith, five, zero));
      not_read = λ three. absurd (omega (arith, five, three));
      sound = λ three four other. absurd (other five);
      memory = λ other. ap (λ (a : Answer). a.message) is;
      bounded = omega (arith, five);
      usage = λ none other. absurd (other five);
      only_usage = λ two. absurd (omega (arith, five, two));
      silent = λ quiet some. ap (λ (a : Answer). a.output) is;
    }

-- a run that the words allow has the facts
task_facts : (texts : Texts) (bounds : Bounds) (files : Option Folder) (task : Option Task) (before now : Moment)
    (given : Answer)
    → WordsRan texts bounds files task before now given
    → TaskFacts texts bounds files task before now given
task_facts texts bounds files task before now given (inl memory) =
    wanting texts bounds files task before now given memory.0 memory.1
task_facts texts bounds files None before now given (inr ran) =
    let two : given.status ≡ 2 = ap (λ (a : Answer). a.status) ran.1 in
    let opens : now.opens ≡ before.opens = ap (λ (m : Moment). m.opens) ran.0 in
    record {
      judged = λ folder known three four five. ran.1;
      quiet = λ folder known quiet four five. ran.1;
      front = λ folder known. (0, ap (λ (a : Answer). a.output) ran.1);
      opens_at_most = omega (arith, opens);
      opened = λ zero. absurd (omega (arith, two, zero));
      current = λ zero some. absurd (omega (arith, two, zero));
      ended = λ zero some. absurd (omega (arith, two, zero));
      not_read = λ three. absurd (omega (arith, two, three));
      sound = λ three four five. ap (λ (m : Moment). m.faults) ran.0;
      memory = λ five. absurd (omega (arith, two, five));
      bounded = omega (arith, two);
      usage = λ none five. ran.1;
      only_usage = λ is. refl;
      silent = λ quiet some. ap (λ (a : Answer). a.output) ran.1;
    }
task_facts texts bounds files (Some task) before now given (inr ran) =
    let facts = run_facts texts bounds files [] task.names task.plan before now given ran in
    record {
      judged = facts.judged;
      quiet = facts.quiet;
      front = facts.front;
      opens_at_most = facts.opens_at_most;
      opened = facts.opened;
      current = facts.current;
      ended = facts.ended;
      not_read = facts.not_read;
      sound = facts.sound;
      memory = facts.memory;
      bounded = facts.bounded;
      usage = λ none five. absurd (cc);
      only_usage = λ two. absurd (facts.not_usage two);
      silent = facts.silent;
    }

-- one answer for another that is equal
pub gives_as : (before now : Outside) (status : ℕ) {given other : Answer} → given ≡ other
    → Gives before now given status → Gives before now other status
gives_as before now status is = subst (λ (a : Answer). Gives before now a status) is

-- what was delivered behind bytes that were written before
pub is_delivered : (texts : Texts) (bounds : Bounds) (task : Option Task) (store stored : Shown)
    (out_old out_mid out_new err_old err_new : Taken) (status : ℕ) (rest : Answer)
    → (ran : WordsRunTo texts bounds task store stored out_old out_mid rest)
    → DeliversTo texts.write_failed rest status out_mid out_new err_old err_new
    → IsDelivered texts (after ran.early rest) status (record { store = store; out = out_old; err = err_old })
    (record { store = stored; out = out_new; err = err_new })
is_delivered texts bounds task store stored out_old out_mid out_new err_old err_new status rest ran delivery =
    let whole : append_known out_mid.written rest.output ≡ append_known out_old.written (ran.early ++ rest.output) =
    ap (λ o. append_known o rest.output) ran.written ∙ append_further out_old.written ran.early rest.output in
    let later : Faulted out_mid.faults out_new.faults → Faulted out_old.faults out_new.faults =
    λ rose. elim (eqb_tells rest.status 4) [
      | inl four ↦ let early = ran.unwritten four.1 in omega (arith, early, delivery.out_faults)
      | inr other ↦ subst (λ n. Faulted n out_new.faults) (ran.sound other.1) rose
    ] in
    let unwritten : rest.status ≡ 4 → Faulted out_old.faults out_new.faults =
    λ four. let early = ran.unwritten four in omega (arith, early, delivery.out_faults) in
    record {
      whole = λ four.
          let given = delivery.whole four in
          record { status_is = given.status_is; output = given.output ∙ whole; message = given.message };
      fronts =
          fronts_behind texts.write_failed ran.early rest ran.written
          (fronts_later later (λ rose. rose) refl refl delivery.fronts);
      own_message =
          λ bytes known all. delivery.own_message (bytes ++ ran.early)
          (ran.written ∙ ap (λ o. append_known o ran.early) known) (all ∙ sym whole);
      unwritten = unwritten;
      write = λ four quiet. elim (eqb_tells rest.status 4) [
        | inl early ↦ absurd (quiet (unwritten early.1))
        | inr other ↦ delivery.cause four other.1 (λ rose. quiet (later rose))
      ];
      out_faults = λ four. delivery.out_sound four ∙ ran.sound (λ is. four (delivery.kept is));
      err_faults = delivery.err_sound;
    }

-- a run of the words whose answer was delivered
pub record TaskEnded (texts : Texts) (bounds : Bounds) (task : Option Task) (before now : Outside) (status : ℕ)
    (given : Answer) : Type 0 where
  pub ran : WordsRan texts bounds before.store.files task before.store.moment now.store.moment given
  pub delivered : IsDelivered texts given status before now
  pub files : now.store.files ≡ before.store.files

module _ {texts : Texts} {bounds : Bounds} {task : Option Task} {before now : Outside} {status : ℕ} {given : Answer}
    (e : TaskEnded texts bounds task before now status given) where
  facts : TaskFacts texts bounds before.store.files task before.store.moment now.store.moment given
  facts = task_facts texts bounds before.store.files task before.store.moment now.store.moment given e.ran

  -- a status but 4 is the answer's
  pub told_by : status ≢ 4 → status ≡ given.status
  told_by four = (e.delivered.whole four).status_is

  -- with sound outputs the status isn't 4
  pub wrote : ¬ OutFaulted before now → ¬ ErrFaulted before now → status ≢ 4
  wrote out_quiet err_quiet = λ four. err_quiet (e.delivered.write four out_quiet)

  -- the answer that the words and the files define was delivered
  pub defined_by : (folder : Folder) → before.store.files ≡ Some folder → ¬ StoreFaulted before now → status ≢ 4
      → status ≢ 5 → given ≡ task_answer texts bounds folder task
  defined_by folder known quiet four five =
      facts.quiet folder known quiet (λ is. four (told_by four ∙ is)) (λ is. five (told_by four ∙ is))

  pub judged_by : (folder : Folder) → before.store.files ≡ Some folder → status ≢ 3 → status ≢ 4 → status ≢ 5
      → given ≡ task_answer texts bounds folder task
  judged_by folder known three four five =
      facts.judged folder known (λ is. three (told_by four ∙ is)) (λ is. four (told_by four ∙ is))
      (λ is. five (told_by four ∙ is))

  -- standard output gained a front of what it is to gain
  pub front_by : (folder : Folder) → before.store.files ≡ Some folder
      → GainsFront before.out.written now.out.written (task_answer texts bounds folder task).output
  front_by folder known =
      let front = facts.front folder known in
      let gained = e.delivered.fronts.output in (
        min gained.0 front.0,
        gained.1
            ∙ ap (append_known before.out.written)
            (ap (take gained.0) front.1 ∙ take_take gained.0 front.0 (task_answer texts bounds folder task).output),
      )

  -- unless the status is 0 or 4, nothing was written where nothing is while files are read
  pub silent_by : IsSilentTask task → status ≢ 0 → status ≢ 4 → now.out.written ≡ before.out.written
  silent_by silent zero four =
      (e.delivered.whole four).output
      ∙ (ap (append_known before.out.written) (facts.silent silent (λ is. zero (told_by four ∙ is)))
      ∙ append_nothing before.out.written)

  -- all that every run promises
  pub run_ends : {untaken : Type 0} → (untaken → task ≡ None) → (task ≡ None → untaken)
      → RunEnds texts untaken (task_names task) before now status
  run_ends none untaken =
      let is : (n : ℕ) → status ≡ n → n ≢ 4 → given.status ≡ n =
      λ n known other. sym (told_by (λ four. other (sym known ∙ four))) ∙ known in
      record {
        statuses = elim (eqb_tells status 4) [
          | inl four ↦ omega (arith, four.1)
          | inr other ↦ let same = told_by other.1 in omega (arith, same, facts.bounded)
        ];
        opened = λ zero. facts.opened (is 0 zero (λ e. omega (arith, e)));
        opens = facts.opens_at_most;
        ended = λ zero. facts.ended (is 0 zero (λ e. omega (arith, e)));
        current = λ zero. facts.current (is 0 zero (λ e. omega (arith, e)));
        files = e.files;
        usage =
            λ said four five. gives_as before now status (facts.usage (none said) (λ same. five (told_by four ∙ same)))
            (e.delivered.whole four);
        only_usage = λ two. untaken (facts.only_usage (is 2 two (λ e. omega (arith, e))));
        not_read =
            λ three. (
              given,
              facts.not_read (is 3 three (λ e. omega (arith, e))),
              e.delivered.whole (λ four. omega (arith, three, four)),
            );
        no_memory =
            λ five. (e.delivered.whole (λ four. omega (arith, five, four))).message
            ∙ ap (append_known before.err.written) (facts.memory (is 5 five (λ e. omega (arith, e))));
        store_faults =
            λ three four five. facts.sound (λ same. three (told_by four ∙ same)) (λ same. four (told_by four ∙ same))
            (λ same. five (told_by four ∙ same));
      }

-- an answer of status 0 has no message
pub task_quiet : (texts : Texts) (bounds : Bounds) (folder : Folder) (task : Option Task)
    → (task_answer texts bounds folder task).status ≡ 0 → (task_answer texts bounds folder task).message ≡ []
task_quiet texts bounds folder None zero = absurd (omega (arith, zero))
task_quiet texts bounds folder (Some task) zero = plan_quiet texts bounds folder [] task.plan zero
