-- What follows from that for every plan: the defined answer unless something failed, which file a
-- message names, what stands on the output.
use Rattle.std.specs.Prelude.{◌≡◌, ◌≢◌, ◌≤◌, ◌+◌, ◌⊎◌, ℕ, true, false, List, [], length, slice_get, take, Option, Some}
use Rattle.std.specs.Prelude.{None, IsSome}
use Rattle.hp_outside.specs.Faults.{Faulted}
use Rattle.hp_outside.specs.FaultTexts.{line_text, open_text}
use Rattle.hp_outside.specs.declared.span.LineFault.TheVariants as reading
use Rattle.hp_outside.specs.declared.store.OpenFault.TheVariants as opening
use Rattle.hp_outside.specs.Folder.{Folder, file_of}
use Rattle.hp_outside.specs.Taken.{WhereTold}
use Rattle.command_frame.specs.FirstFault.{Bounds}
use Rattle.command_frame.specs.Plan.{Plan}
use Rattle.command_frame.specs.Silent.{IsSilent}
use Rattle.command_frame.specs.Texts.{Texts, at_file}
use Rattle.command_frame.specs.Answer.{Answer, plan_answer}
use Rattle.command_frame.specs.Moment.{Moment}

-- a call of the store failed or a file is absent: the message names the file that was opened last,
-- which is the one at a place among those to be read, and says that it can't be read where a file
-- is current
pub record NotRead (texts : Texts) (files : Option Folder) (names : List (List ℕ))
    (before now : Moment) (given : Answer) : Type 0 where
  pub place : ℕ
  pub name : List ℕ
  pub named : slice_get names place ≡ Some name
  pub opens : now.opens ≡ before.opens + (place + 1)
  pub cannot_read : now.current ≡ true
      → given.message ≡ at_file texts name (line_text reading.ReadFailed)
  pub no_such_file : WhereTold files
      (λ folder. file_of folder name ≡ None
      → given.message ≡ at_file texts name (open_text opening.Absent))
  pub cannot_open : WhereTold files
      (λ folder. IsSome (file_of folder name) → now.current ≡ false
      → given.message ≡ at_file texts name (open_text opening.Failed))
  pub untold : files ≡ None → now.current ≡ false
      → (given.message ≡ at_file texts name (open_text opening.Absent))
      ⊎ (given.message ≡ at_file texts name (open_text opening.Failed))
  pub cause_told : WhereTold files
      (λ folder. IsSome (file_of folder name) → Faulted before.faults now.faults)
  pub cause_untold : files ≡ None → Faulted before.faults now.faults

pub record RunFacts (texts : Texts) (bounds : Bounds) (files : Option Folder) (last : List ℕ)
    (names : List (List ℕ)) (plan : Plan) (before now : Moment) (given : Answer) : Type 0 where
  -- the answer is the plan's, unless the store failed, a write failed or memory was wanting
  pub judged : WhereTold files
      (λ folder. given.status ≢ 3 → given.status ≢ 4 → given.status ≢ 5
      → given ≡ plan_answer texts bounds folder last plan)
  pub quiet : WhereTold files
      (λ folder. ¬ Faulted before.faults now.faults → given.status ≢ 4 → given.status ≢ 5
      → given ≡ plan_answer texts bounds folder last plan)
  -- whatever failed, the output is a front of the plan's
  pub front : WhereTold files
      (λ folder. (count : ℕ)
      × (given.output ≡ take count (plan_answer texts bounds folder last plan).output))
  -- no file, no call of the store
  pub unread : names ≡ [] → now ≡ before
  pub opens_at_least : before.opens ≤ now.opens
  pub opens_at_most : now.opens ≤ before.opens + length names
  -- at status 0 all files were opened and read to their ends
  pub opened : given.status ≡ 0 → now.opens ≡ before.opens + length names
  pub current : given.status ≡ 0 → names ≢ [] → now.current ≡ true
  pub ended : given.status ≡ 0 → names ≢ [] → WhereTold now.left (λ left. left ≡ [])
  pub not_read : given.status ≡ 3 → NotRead texts files names before now given
  pub sound : given.status ≢ 3 → given.status ≢ 4 → given.status ≢ 5 → now.faults ≡ before.faults
  pub memory : given.status ≡ 5 → given.message ≡ texts.out_of_memory
  pub write : given.status ≡ 4 → given.message ≡ texts.write_failed
  pub bounded : given.status ≤ 6
  pub not_usage : given.status ≢ 2
  -- a plan that is silent while files are read has written nothing, unless all is done
  pub silent : IsSilent plan → given.status ≢ 0 → given.output ≡ []
