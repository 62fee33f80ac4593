-- A call for the next line gives what the rest of the file says, and leaves the rest; it reads only
-- where it has to; what a caller that counts may rely on.
use Rattle.std.specs.Prelude.{◌≡◌, ◌≢◌, ℕ, ◌+◌, ◌≤◌, List, [], length, Option, None, Some, Result, Err, true, false}
use Rattle.std.specs.Prelude.{IsTrue, IfOk, IfErr, OnOk, IfSome, IfNone, is_some, if◌then◌else◌}
use Rattle.std.specs.Io.KnownBytes.{prepend_known}
use Rattle.hp_outside.specs.declared.span.LineFault.{LineFault}
use Rattle.hp_outside.specs.declared.span.LineFault.TheVariants.{ReadFailed}
use Rattle.hp_outside.specs.declared.span.Span.{Span}
use Rattle.hp_outside.specs.declared.store.Store as store
use Rattle.hp_outside.specs.Faults.{Faulted}
use Rattle.hp_outside.specs.LineReaderState.{LineReaderState}
use Rattle.hp_outside.specs.NextLine.{GivesLine, IsLine, IsUndecided, NextAnswer, has_line_feed}
use Rattle.hp_outside.specs.Taken.{WhereTold}
use Rattle.hp_outside.specs.WholeLines.{IsLineText}

-- the next line of the rest of a file, its end or a refusal, and what is left of it then
pub record GivesNext (old new : LineReaderState) (rest : List ℕ) (left : Option (List ℕ))
    (result : Result (Option Span) LineFault) : Type 0 where
  pub answer : NextAnswer old.input old.line_limit old.passed rest result
  pub line : GivesLine old.passed rest new.passed left new.line result
  pub line_ended : IfOk result
      (λ place. IfSome place (λ span. new.line_ended ≡ has_line_feed rest))

-- a file is current, of which nothing is left once its end was seen
pub record HasFile {S : Type 0} (g : store.Ghosts S) (reader : LineReaderState) (now : S) : Type 0
  where
    pub current : IsTrue (g.current now)
    pub ended : reader.ended ≡ true → WhereTold (g.left now) (λ bytes. bytes ≡ [])

-- the store was read alone, and only where the bytes that were taken show neither a line nor a fault of its length
pub record OnlyReads {S : Type 0} (g : store.Ghosts S) (before now : S)
    (old new : LineReaderState) (result : Result (Option Span) LineFault) : Type 0 where
  pub files : g.files now ≡ g.files before
  pub current : g.current now ≡ g.current before
  pub opens : g.opens now ≡ g.opens before
  pub faults : g.faults before ≤ g.faults now
  pub decided : ¬ (IsUndecided old.input old.line_limit old.passed old.kept) → now ≡ before
  pub unread : old.ended ≡ true → now ≡ before
  -- a read failed exactly where the result says so
  pub failed : old.fault ≡ None → result ≡ Err ReadFailed → Faulted (g.faults before) (g.faults now)
  pub sound : result ≢ Err ReadFailed → g.faults now ≡ g.faults before
  pub end : new.ended ≡ true → WhereTold (g.left now) (λ bytes. bytes ≡ [])

-- where a line is given: what it is, and how far the reader moved with it
pub record MeasuresLine (old new : LineReaderState) (result : Result (Option Span) LineFault)
    : Type 0 where
  pub span : IfOk result (λ place. IfSome place (λ span. new.span ≡ span))
  pub number : IfOk result (λ place. new.number ≡ old.number + (if is_some place then 1 else 0))
  pub given : IfOk result
      (λ place. IfSome place (λ span. new.given ≡ old.given + length new.line + 1))
  pub step : IfOk result (λ place. IfSome place (λ span.
      new.passed ≡ old.passed + length new.line + (if new.line_ended then 1 else 0)))
  pub short : IfOk result (λ place. IfSome place (λ span. length new.line ≤ new.line_limit))
  pub one_line : IfOk result (λ place. IfSome place (λ span. IsLineText new.line))

-- what a caller that counts may rely on
pub record CountsNext (old new : LineReaderState) (result : Result (Option Span) LineFault) : Type 0
  where
    pub input : new.input ≡ old.input
    pub limit : new.line_limit ≡ old.line_limit
    pub kept_fault : IfErr result (λ fault. new.fault ≡ Some fault)
    pub no_fault : OnOk result (new.fault ≡ None)
    pub line : MeasuresLine old new result
    -- of a failed read: what was taken shows neither the next line nor a fault of its length
    pub place : old.fault ≡ None → result ≡ Err ReadFailed
        → IsUndecided new.input new.line_limit new.passed new.kept
    -- in any case
    pub bounded : new.given ≤ new.input + 1
    pub within : new.passed ≤ new.input
    pub last : new.line_ended ≡ false → (new.ended ≡ true) × (new.kept ≡ [])
    pub end_seen : IfOk result (λ place. IfNone place (new.ended ≡ true))
    pub stays_ended : old.ended ≡ true → new.ended ≡ true

-- nothing of the file is passed over or lost: `before` and `now` are what is not yet given of it
pub record LosesNothing (old new : LineReaderState) (before now : Option (List ℕ)) : Type 0 where
  pub passed : new.passed ≡ old.passed
  pub number : new.number ≡ old.number
  pub given : new.given ≡ old.given
  pub line_ended : new.line_ended ≡ old.line_ended
  pub rest : now ≡ before

-- what is not yet given of the file
abbrev pub rest_of : {S : Type 0} → store.Ghosts S → LineReaderState → S → Option (List ℕ)
rest_of g reader now = prepend_known reader.kept (g.left now)

-- an earlier fault is answered again, and nothing else happens
abbrev pub RepeatsFault : {S : Type 0} → S → S → LineReaderState → LineReaderState
    → Result (Option Span) LineFault → Type 0
RepeatsFault before now old new result = (fault : LineFault) → old.fault ≡ Some fault
    → (result ≡ Err fault) × (new ≡ old) × (now ≡ before)

-- behind no fault the next line of the file is given, its end or a refusal
abbrev pub GivesNextOfFile : {S : Type 0} → store.Ghosts S → S → S → LineReaderState
    → LineReaderState → Result (Option Span) LineFault → Type 0
GivesNextOfFile g before now old new result = old.fault ≡ None
    → WhereTold (rest_of g old before)
    (λ rest. GivesNext old new rest (rest_of g new now) result)

-- where no line is given, nothing of the file is passed over or lost
abbrev pub KeepsUngiven : {S : Type 0} → store.Ghosts S → S → S → LineReaderState
    → LineReaderState → Result (Option Span) LineFault → Type 0
KeepsUngiven g before now old new result = ¬ IsLine result
    → LosesNothing old new (rest_of g old before) (rest_of g new now)
