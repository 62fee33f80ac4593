-- A check only reads the current file, and answers by what the store tells of it.
use Rattle.std.specs.Prelude.{◌≡◌, ◌≢◌, ℕ, Result, Err}
use Rattle.hp_outside.specs.declared.store.Store as store
use Rattle.hp_outside.specs.declared.limits.Limits.{Limits}
use Rattle.hp_outside.specs.Faults.{Faulted}
use Rattle.hp_outside.specs.LineReaderState.{LineReaderState}
use Rattle.hp_outside.specs.Taken.{WhereTold}
use Rattle.record_scripts.specs.Job.{Job}
use Rattle.order_check.specs.declared.verdict.CheckFault.{CheckFault}
use Rattle.order_check.specs.declared.verdict.CheckFault.TheVariants.{ReadFailed}
use Rattle.order_check.specs.declared.verdict.Verdict.{Verdict}
use Rattle.order_check.specs.CheckAnswer.{CheckAnswer}

-- where the store tells what is left of the file, the answer is the one to these bytes, of which
-- none may have more, nor longer lines
abbrev pub AnswersFile : {S : Type 0} → store.Ghosts S → ℕ → ℕ → Job → S → S
    → Result Verdict CheckFault → Type 0
AnswersFile s input line job old new result = WhereTold (s.left old)
    (λ bytes. CheckAnswer input line job bytes (s.left new) result)

-- the same under the limits of a run, and under those of a reader
abbrev pub AnswersWithin : {S : Type 0} → store.Ghosts S → Limits → Job → S → S
    → Result Verdict CheckFault → Type 0
AnswersWithin s limits job old new result = AnswersFile s limits.input limits.line job old new
    result

abbrev pub AnswersReader : {S : Type 0} → store.Ghosts S → LineReaderState → Job → S → S
    → Result Verdict CheckFault → Type 0
AnswersReader s lines job old new result = AnswersFile s lines.input lines.line_limit job old new
    result

-- the file is only read, and a call failed exactly where the answer says so
pub record OnlyReads {S : Type 0} (s : store.Ghosts S) (old new : S)
    (result : Result Verdict CheckFault) : Type 0 where
  pub failed : result ≡ Err ReadFailed → Faulted (s.faults old) (s.faults new)
  pub sound : result ≢ Err ReadFailed → s.faults new ≡ s.faults old
  pub files : s.files new ≡ s.files old
  pub current : s.current new ≡ s.current old
  pub opens : s.opens new ≡ s.opens old
