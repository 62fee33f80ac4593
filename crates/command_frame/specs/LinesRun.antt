-- What taking the lines of a file comes to, once the file was opened.
use Rattle.std.specs.Prelude.{◌≡◌, ℕ, List, ◌++◌, Option, Result, Ok, Err}
use Rattle.std.specs.Io.KnownBytes.{append_known}
use Rattle.hp_outside.specs.Taken.{WhereTold}
use Rattle.command_frame.specs.declared.lines.FileFault.{FileFault}
use Rattle.command_frame.specs.declared.lines.FileFault.TheVariants.{LineTooLong, InputTooLong, Taker}
use Rattle.command_frame.specs.declared.lines.LinesStop.{LinesStop}
use Rattle.command_frame.specs.declared.lines.LinesStop.TheVariants.{AtLine, ReadFailed, WriteFailed, NoMemory}
use Rattle.command_frame.specs.Told.{Told}
use Rattle.command_frame.specs.Report.{Report}
use Rattle.command_frame.specs.FirstFault.{Bounds, input_too_long, line_too_long}
use Rattle.command_frame.specs.FileRead.{CannotRead, EndsAt, FileEnd, Passed, Refused, Unwritten, Wanting, end_output}

-- what is told of a fault of a file
abbrev pub told_of : {F : Type 0} → (F → Told) → FileFault F → Told
told_of told LineTooLong = line_too_long
told_of told InputTooLong = input_too_long
told_of told (Taker fault) = told fault

-- the end that a result is, with the lines that were taken and, where a write failed, with the number of bytes written
abbrev pub end_of : {F : Type 0} → (F → Told) → Result (Unit {0}) (LinesStop F) → List (List ℕ) → ℕ
    → FileEnd
end_of told (Ok all) taken count = Passed taken
end_of told (Err (AtLine number fault)) taken count = Refused taken number (told_of told fault)
end_of told (Err ReadFailed) taken count = CannotRead taken
end_of told (Err WriteFailed) taken count = Unwritten taken count
end_of told (Err NoMemory) taken count = Wanting taken

-- an output has gained these bytes but for those that are kept back
pub record Gained (old now : Option (List ℕ)) (kept_back bytes : List ℕ) : Type 0 where
  pub early : List ℕ
  pub written : now ≡ append_known old early
  pub all : early ++ kept_back ≡ bytes

-- how taking lines ended: what the end says of the file, and what the output has gained
pub record LinesRun (bounds : Bounds) (report : Report) (start left old now : Option (List ℕ))
    (kept_back : List ℕ) (end : FileEnd) : Type 0 where
  pub told : WhereTold start (λ bytes. EndsAt bounds report bytes left end)
  pub gained : Gained old now kept_back (end_output report end)
