-- How a run of a program ends, of what the store and both outputs show before it and after it. What
-- every run promises: how an answer was delivered, where an answer of status 4 comes only where
-- standard output failed; what each status says; and, where memory for the words was wanting, that
-- nothing was read and that this is told.
use Rattle.std.specs.Prelude.{◌≡◌, ◌≢◌, ◌+◌, ◌≤◌, ℕ, List, [], true, length, Some}
use Rattle.std.specs.Io.KnownBytes.{append_known}
use Rattle.hp_outside.specs.Taken.{GainsFront, WhereTold}
use Rattle.command_frame.specs.Answer.{Answer, memory_answer, usage_answer}
use Rattle.command_frame.specs.Delivery.{GainsFronts}
use Rattle.command_frame.specs.Outside.{ErrFaulted, Gives, OutFaulted, Outside}
use Rattle.command_frame.specs.RunFacts.{NotRead}
use Rattle.command_frame.specs.Texts.{Texts}

-- an answer was delivered: whole, or at status 4 in part. `write failed` is told only where
-- standard output lacks bytes of it, and is the answer's own message only where standard output
-- failed
pub record IsDelivered (texts : Texts) (given : Answer) (status : ℕ) (before now : Outside) : Type
    0 where
  pub whole : status ≢ 4 → Gives before now given status
  pub fronts : GainsFronts texts.write_failed given (OutFaulted before now) (ErrFaulted before now)
      before.out.written now.out.written before.err.written now.err.written
  pub own_message : (bytes : List ℕ) → before.out.written ≡ Some bytes
      → now.out.written ≡ append_known before.out.written given.output
      → GainsFront before.err.written now.err.written given.message
  pub unwritten : given.status ≡ 4 → OutFaulted before now
  -- Status 4: only where an output failed.
  pub write : status ≡ 4 → ¬ OutFaulted before now → ErrFaulted before now
  -- A call of an output that failed is not passed over in silence.
  pub out_faults : status ≢ 4 → now.out.faults ≡ before.out.faults
  pub err_faults : status ≢ 4 → now.err.faults ≡ before.err.faults

-- what every run promises, of files with these names; the words may not be taken
pub record RunEnds (texts : Texts) (untaken : Type 0) (names : List (List ℕ)) (before now : Outside)
    (status : ℕ)
    : Type 0 where
  pub statuses : status ≤ 6
  -- Status 0: each file that the words name was opened once, and the last was read to its end.
  pub opened : status ≡ 0 → now.store.moment.opens ≡ before.store.moment.opens + length names
  pub opens : now.store.moment.opens ≤ before.store.moment.opens + length names
  pub ended : status ≡ 0 → names ≢ [] → WhereTold now.store.moment.left (λ left. left ≡ [])
  pub current : status ≡ 0 → names ≢ [] → now.store.moment.current ≡ true
  pub files : now.store.files ≡ before.store.files
  -- Status 2: exactly where the words aren't taken.
  pub usage : untaken → status ≢ 4 → status ≢ 5 → Gives before now (usage_answer texts) status
  pub only_usage : status ≡ 2 → untaken
  -- Status 3: only where the store failed or lacks a file, with the message that names the file opened last.
  pub not_read : status ≡ 3 → (given : Answer)
      × NotRead texts before.store.files names before.store.moment now.store.moment given
      × Gives before now given status
  -- Status 5: the message for it.
  pub no_memory : status ≡ 5 → now.err.written ≡ append_known before.err.written texts.out_of_memory
  -- A call of the store that failed is not passed over in silence.
  pub store_faults : status ≢ 3 → status ≢ 4 → status ≢ 5
      → now.store.moment.faults ≡ before.store.moment.faults

-- memory was wanting for the words themselves: nothing was read, and that was told
pub record HasNotBegun (texts : Texts) (before now : Outside) (status : ℕ) : Type 0 where
  pub unread : now.store ≡ before.store
  pub delivered : IsDelivered texts (memory_answer texts) status before now
