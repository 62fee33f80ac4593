-- The facts of a run that came to one status or another.
use Rattle.std.proofs.Common.{◌≡◌, ◌⊎◌, ℕ, ◌+◌, ◌≤◌, List, [], length, take, take_all, Option, refl, ap, sym, ◌∙◌, inl}
use Rattle.std.proofs.Common.{inr, arith}
use Rattle.hp_outside.specs.Faults.{Faulted}
use Rattle.hp_outside.specs.Folder.{Folder}
use Rattle.hp_outside.specs.Taken.{WhereTold}
use Rattle.command_frame.specs.declared.fault.FaultStatus.{FaultStatus}
use Rattle.command_frame.specs.declared.fault.FaultStatus.TheVariants.{Malformed, PastLimit}
use Rattle.command_frame.specs.Told.{code_of}
use Rattle.command_frame.specs.FirstFault.{Bounds}
use Rattle.command_frame.specs.Plan.{Plan}
use Rattle.command_frame.specs.Texts.{Texts}
use Rattle.command_frame.specs.Answer.{Answer, plan_answer}
use Rattle.command_frame.specs.Moment.{Moment}
use Rattle.command_frame.specs.RunFacts.{NotRead, RunFacts}
use Rattle.command_frame.specs.Silent.{IsSilent}

-- the front of the output is that of a plan's answer
abbrev pub HasFront : Texts → Bounds → Option Folder → List ℕ → Plan → Answer → Type 0
HasFront texts bounds files last plan given =
    WhereTold files
    (λ folder. (count : ℕ) × (given.output ≡ take count (plan_answer texts bounds folder last plan).output))

module _ (texts : Texts) (bounds : Bounds) (files : Option Folder) (last : List ℕ) (names : List (List ℕ)) (plan : Plan)
    (before now : Moment) (given : Answer) where
  -- memory was wanting
  pub wanting_facts : given.status ≡ 5 → given.message ≡ texts.out_of_memory
      → HasFront texts bounds files last plan given → (IsSilent plan → given.output ≡ []) → (names ≡ [] → now ≡ before)
      → before.opens ≤ now.opens → now.opens ≤ before.opens + length names
      → RunFacts texts bounds files last names plan before now given
  wanting_facts five message front silent unread least most = record {
    judged = λ folder known three four other. absurd (other five);
    quiet = λ folder known quiet four other. absurd (other five);
    front = front;
    unread = unread;
    opens_at_least = least;
    opens_at_most = most;
    opened = λ is. absurd (omega (arith, five, is));
    current = λ is some. absurd (omega (arith, five, is));
    ended = λ is some. absurd (omega (arith, five, is));
    not_read = λ is. absurd (omega (arith, five, is));
    sound = λ three four other. absurd (other five);
    memory = λ is. message;
    write = λ is. absurd (omega (arith, five, is));
    bounded = omega (arith, five);
    not_usage = λ is. omega (arith, five, is);
    silent = λ quiet some. silent quiet;
  }

  -- a write failed
  pub unwritten_facts : given.status ≡ 4 → given.message ≡ texts.write_failed
      → HasFront texts bounds files last plan given → (IsSilent plan → given.output ≡ []) → (names ≡ [] → now ≡ before)
      → before.opens ≤ now.opens → now.opens ≤ before.opens + length names
      → RunFacts texts bounds files last names plan before now given
  unwritten_facts four message front silent unread least most = record {
    judged = λ folder known three other five. absurd (other four);
    quiet = λ folder known quiet other five. absurd (other four);
    front = front;
    unread = unread;
    opens_at_least = least;
    opens_at_most = most;
    opened = λ is. absurd (omega (arith, four, is));
    current = λ is some. absurd (omega (arith, four, is));
    ended = λ is some. absurd (omega (arith, four, is));
    not_read = λ is. absurd (omega (arith, four, is));
    sound = λ three other five. absurd (other four);
    memory = λ is. absurd (omega (arith, four, is));
    write = λ is. message;
    bounded = omega (arith, four);
    not_usage = λ is. omega (arith, four, is);
    silent = λ quiet some. silent quiet;
  }

  -- a file is absent, or a call on it failed
  pub unreadable_facts : given.status ≡ 3 → NotRead texts files names before now given
      → WhereTold files (λ folder. ¬ Faulted before.faults now.faults
      → given ≡ plan_answer texts bounds folder last plan)
      → HasFront texts bounds files last plan given → (IsSilent plan → given.output ≡ []) → (names ≡ [] → now ≡ before)
      → before.opens ≤ now.opens → now.opens ≤ before.opens + length names
      → RunFacts texts bounds files last names plan before now given
  unreadable_facts three not_read quiet front silent unread least most = record {
    judged = λ folder known other four five. absurd (other three);
    quiet = λ folder known is four five. quiet folder known is;
    front = front;
    unread = unread;
    opens_at_least = least;
    opens_at_most = most;
    opened = λ is. absurd (omega (arith, three, is));
    current = λ is some. absurd (omega (arith, three, is));
    ended = λ is some. absurd (omega (arith, three, is));
    not_read = λ is. not_read;
    sound = λ other four five. absurd (other three);
    memory = λ is. absurd (omega (arith, three, is));
    write = λ is. absurd (omega (arith, three, is));
    bounded = omega (arith, three);
    not_usage = λ is. omega (arith, three, is);
    silent = λ quiet some. silent quiet;
  }

  -- the input has a fault
  pub fault_facts : (status : FaultStatus) → given.status ≡ code_of status
      → WhereTold files (λ folder. given ≡ plan_answer texts bounds folder last plan) → now.faults ≡ before.faults
      → (IsSilent plan → given.output ≡ []) → (names ≡ [] → now ≡ before) → before.opens ≤ now.opens
      → now.opens ≤ before.opens + length names
      → RunFacts texts bounds files last names plan before now given
  fault_facts status is_status is sound silent unread least most =
      let either = either_code status in
      record {
        judged = λ folder known three four five. is folder known;
        quiet = λ folder known quiet four five. is folder known;
        front =
            λ folder
            known. (
              length given.output,
              sym
                  (ap (λ (a : Answer). take (length given.output) a.output) (sym (is folder known))
                  ∙ take_all (length given.output) given.output (omega arith)),
            );
        unread = unread;
        opens_at_least = least;
        opens_at_most = most;
        opened = λ other. absurd (omega (arith, either, is_status, other));
        current = λ other some. absurd (omega (arith, either, is_status, other));
        ended = λ other some. absurd (omega (arith, either, is_status, other));
        not_read = λ other. absurd (omega (arith, either, is_status, other));
        sound = λ three four five. sound;
        memory = λ other. absurd (omega (arith, either, is_status, other));
        write = λ other. absurd (omega (arith, either, is_status, other));
        bounded = omega (arith, either, is_status);
        not_usage = λ other. omega (arith, either, is_status, other);
        silent = λ quiet some. silent quiet;
      }
    where
      either_code : (s : FaultStatus) → (code_of s ≡ 1) ⊎ (code_of s ≡ 6)
      either_code Malformed = inl refl
      either_code PastLimit = inr refl
