-- What the calls of a reader of lines change in it. What the reader gives, passes over and takes
-- from the store; what its window keeps; what a read leaves as it was.
use Rattle.std.specs.Prelude.{◌≡◌, ◌≢◌, ◌⊎◌, ℕ, ◌+◌, ◌<◌, ◌≤◌, List, [], Option, None, Some, Result, true, false}
use Rattle.std.specs.Prelude.{length, take, drop, nat_eq, is_ok, is_some, IsSome, IfErr, IfNone, IfSome, OnErr, OnOk}
use Rattle.std.specs.Prelude.{◌↔◌, if◌then◌else◌}
use Rattle.std.specs.Io.KnownBytes.{prepend_known}
use Rattle.hp_outside.specs.declared.span.LineFault.{LineFault}
use Rattle.hp_outside.specs.declared.span.LineFault.TheVariants.{ReadFailed}
use Rattle.hp_outside.specs.declared.span.Span.{Span}
use Rattle.hp_outside.specs.declared.store.Store as store
use Rattle.hp_outside.specs.Faults.{Faulted}
use Rattle.hp_outside.specs.LineReaderState.{LineReaderState}
use Rattle.hp_outside.specs.Taken.{WhereTold}

-- it stands where it stood
pub record StandsAt (old new : LineReaderState) : Type 0 where
  pub input : new.input ≡ old.input
  pub line_limit : new.line_limit ≡ old.line_limit
  pub passed : new.passed ≡ old.passed
  pub number : new.number ≡ old.number
  pub given : new.given ≡ old.given
  pub line_ended : new.line_ended ≡ old.line_ended

-- so many bytes that it keeps may be given as a line, and so many behind them, the line feed or none, be passed over
pub record MayGive (old : LineReaderState) (count skipped : ℕ) : Type 0 where
  pub held : count + skipped ≤ length old.kept
  pub within : old.passed + count + skipped ≤ old.input
  pub one : skipped ≤ 1
  -- with no line feed, all of a file that ended
  pub last : skipped ≡ 0 → (count ≡ length old.kept) × (old.ended ≡ true) × (0 < count)

-- they were given and passed over
pub record Gives (old new : LineReaderState) (count skipped : ℕ) (place : Span) : Type 0 where
  pub span : place ≡ new.span
  pub line : new.line ≡ take count old.kept
  pub kept : new.kept ≡ drop (count + skipped) old.kept
  pub passed : new.passed ≡ old.passed + count + skipped
  pub given : new.given ≡ old.given + count + 1
  pub line_ended : new.line_ended ≡ nat_eq skipped 1
  pub number : new.number ≡ old.number + 1
  pub input : new.input ≡ old.input
  pub limit : new.line_limit ≡ old.line_limit
  pub ended : new.ended ≡ old.ended
  pub fault : new.fault ≡ old.fault

-- all that is kept was given as the last line, if there was any
pub record GivesLast (old new : LineReaderState) (count : ℕ) (place : Option Span) : Type 0 where
  pub some : IsSome place ↔ (0 < count)
  pub none : IfNone place (new ≡ old)
  pub line : IfSome place (λ span. new.line ≡ old.kept)
  pub span : IfSome place (λ span. new.span ≡ span)
  pub kept : new.kept ≡ []
  pub passed : new.passed ≡ old.passed + count
  pub given : IfSome place (λ span. new.given ≡ old.given + count + 1)
  pub line_ended : IfSome place (λ span. new.line_ended ≡ false)
  pub number : new.number ≡ old.number + (if is_some place then 1 else 0)
  pub input : new.input ≡ old.input
  pub limit : new.line_limit ≡ old.line_limit
  pub ended : new.ended ≡ old.ended
  pub fault : new.fault ≡ old.fault

-- so many bytes were passed, which were so many lines
pub record Passes (old new : LineReaderState) (count lines : ℕ) : Type 0 where
  pub kept : new.kept ≡ drop count old.kept
  pub passed : new.passed ≡ old.passed + count
  pub number : new.number ≡ old.number + lines
  pub given : new.given ≡ old.given + count
  pub input : new.input ≡ old.input
  pub limit : new.line_limit ≡ old.line_limit
  pub ended : new.ended ≡ old.ended
  pub fault : new.fault ≡ old.fault
  pub line_ended : new.line_ended ≡ old.line_ended
  pub line : new.line ≡ old.line
  pub span : new.span ≡ old.span

-- more may be taken from the store
pub record MayTakeMore (old : LineReaderState) : Type 0 where
  pub line : length old.kept ≤ old.line_limit
  pub input : old.passed + length old.kept ≤ old.input
  pub ended : old.ended ≡ false

-- more was taken from the store, or the end of the file was seen, or a read failed
pub record TakesMore {S : Type 0} (g : store.Ghosts S) (before now : S) (old new : LineReaderState)
    (result : Result (Unit {0}) LineFault) : Type 0 where
  pub rest : prepend_known old.kept (g.left before) ≡ prepend_known new.kept (g.left now)
  pub front : take (length old.kept) new.kept ≡ old.kept
  pub bounded : new.passed + length new.kept ≤ new.input + 1
  pub fault : new.fault ≡ (if is_ok result then old.fault else Some ReadFailed)
  pub sound : OnOk result (g.faults now ≡ g.faults before)
  pub more : OnOk result ((new.ended ≡ true) ⊎ (new.ended ≡ false)
      × (length old.kept < length new.kept))
  pub end : OnOk result (new.ended ≡ true → WhereTold (g.left now) (λ bytes. bytes ≡ []))
  pub end_kept : OnOk result (new.ended ≡ true → new.kept ≡ old.kept)
  pub failed : IfErr result
      (λ fault. (fault ≡ ReadFailed) × Faulted (g.faults before) (g.faults now))
  pub still : OnErr result (new.ended ≡ old.ended)
  pub kept : OnErr result (new.kept ≡ old.kept)
