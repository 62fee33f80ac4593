-- What taking the lines of the current file does to the store, to the output and to the reader of lines.
use Rattle.std.specs.Prelude.{◌≡◌, ◌≢◌, ◌^◌, ◌≤◌, ℕ, List, [], Result, Err, IsTrue, OnOk, Vec}
use Rattle.hp_outside.specs.declared.store.Store as store
use Rattle.hp_outside.specs.declared.sink.Sink as sink
use Rattle.hp_outside.specs.Faults.{Faulted}
use Rattle.hp_outside.specs.declared.limits.Limits.{Limits}
use Rattle.hp_outside.specs.LineReaderState.{LineReaderState}
use Rattle.hp_outside.specs.NewReader.{IsNewReader}
use Rattle.hp_outside.specs.Taken.{WhereTold}
use Rattle.command_frame.specs.declared.lines.LinesStop.{LinesStop}
use Rattle.command_frame.specs.declared.lines.LinesStop.TheVariants.{ReadFailed, WriteFailed}
use Rattle.command_frame.specs.declared.taker.LineTaker as taker
use Rattle.command_frame.specs.LinesRun.{LinesRun, end_of}
use Rattle.command_frame.specs.Report.{Report}
use Rattle.command_frame.specs.Told.{Told}

-- a file is current, and a reader of lines with limits that a program may have stands at its front
pub record MayReadLines {S : Type 0} (s : store.Ghosts S) (lines : LineReaderState) (now : S)
    : Type 0 where
  pub current : IsTrue (s.current now)
  pub bounds : lines.input ≤ 2 ^ 34
  pub line_bound : lines.line_limit ≤ 1048576
  pub new : IsNewReader lines

-- a reader of lines has the limits of a run
pub record HasLimits (lines : LineReaderState) (limits : Limits) : Type 0 where
  pub input : lines.input ≡ limits.input
  pub line : lines.line_limit ≡ limits.line

-- a reader of lines has the limits that it had
pub record KeepsLimits (old new : LineReaderState) : Type 0 where
  pub input : new.input ≡ old.input
  pub line : new.line_limit ≡ old.line_limit

-- the file was read to its end, or as far as the result says. A read or a write failed exactly
-- where it says so; but where both failed it names the write
pub record TakesFile {S O F : Type 0} (s : store.Ghosts S) (o : sink.Ghosts O)
    (lines after : LineReaderState) (before now : S) (old new : O)
    (result : Result (Unit {0}) (LinesStop F)) : Type 0 where
  pub limits : KeepsLimits lines after
  pub files : s.files now ≡ s.files before
  pub current : s.current now ≡ s.current before
  pub opens : s.opens now ≡ s.opens before
  pub ended : OnOk result (WhereTold (s.left now) (λ left. left ≡ []))
  pub failed : result ≡ Err ReadFailed → Faulted (s.faults before) (s.faults now)
  pub sound_reads : result ≢ Err ReadFailed → result ≢ Err WriteFailed
      → s.faults now ≡ s.faults before
  pub write_failed : result ≡ Err WriteFailed → Faulted (o.faults old) (o.faults new)
  pub sound_writes : result ≢ Err WriteFailed → o.faults new ≡ o.faults old

-- what the file said, and what the output got of it but for what is kept back: with the lines that
-- were taken and, where a write failed, the number of bytes written
pub record RanThrough {S O F : Type 0} (s : store.Ghosts S) (o : sink.Ghosts O) (told : F → Told)
    (report : Report) (has_taken : List (List ℕ) → Type 0)
    (lines : LineReaderState) (before now : S) (old new : O) (kept_back : List ℕ)
    (result : Result (Unit {0}) (LinesStop F)) : Type 0 where
  pub taken : List (List ℕ)
  pub count : ℕ
  pub run : LinesRun (record { input = lines.input; line = lines.line_limit }) report
      (s.left before) (s.left now) (o.written old) (o.written new) kept_back
      (end_of told result taken count)
  pub has : OnOk result (has_taken taken)

-- the same of a taker, where a buffer holds what is kept back, and where nothing is kept back
abbrev pub RanToBuffer : {S O T F Z : Type 0} → store.Ghosts S → sink.Ghosts O → (F → Told)
    → taker.Ghosts T F → T → T → LineReaderState → S → S → O → O → Vec ℕ Z
    → Result (Unit {0}) (LinesStop F) → Type 0
RanToBuffer s o told g before after lines from now old new buffer result =
    RanThrough s o told (g.report before) (g.has_taken after) lines from now old new buffer.items
    result

abbrev pub RanToEnd : {S O T F : Type 0} → store.Ghosts S → sink.Ghosts O → (F → Told)
    → taker.Ghosts T F → T → T → LineReaderState → S → S → O → O → Result (Unit {0}) (LinesStop F)
    → Type 0
RanToEnd s o told g before after lines from now old new result =
    RanThrough s o told (g.report before) (g.has_taken after) lines from now old new [] result
