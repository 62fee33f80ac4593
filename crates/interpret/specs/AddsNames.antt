-- How names are added, and the lines of the new ones written, for private clauses.
use Rattle.std.specs.Prelude.{◌≡◌, ℕ, List, ◌++◌, ◌≤◌, length, map, Result, OnOk, IfErr}
use Rattle.std.specs.Global.{Vec}
use Rattle.std.specs.Str.{bytes_eq}
use Rattle.ht_lines.specs.Content.{string_line}
use Rattle.ht_lines.specs.Written.{written}
use Rattle.ht_trace.specs.declared.error.LineError.{LineError}
use Rattle.ht_trace.specs.LineFault.{Tells, most_entries}
use Rattle.interpret.specs.FirstAppearances.{all_fault, with_all}
use Rattle.interpret.specs.Interpreted.{text_of}

-- the names have those that are called for, and the lines of those that are new stand at the end of what is written
pub record AreAdded (version : ℕ) (called : List (List ℕ)) (old new : List (List ℕ))
    (before after : List ℕ) : Type 0 where
  pub more : List (List ℕ)
  pub grown : new ≡ old ++ more
  pub added : new ≡ with_all bytes_eq old called
  pub lines : after ≡ before ++ text_of (map (written version) (map string_line more))

-- a call that adds the names that are called for: after an error some of them may have been added
pub record AddsNames (version : ℕ) (called : List (List ℕ)) (old new : List (List ℕ))
    (before after : Vec ℕ) (result : Result (Unit {0}) LineError) : Type 0 where
  pub added : OnOk result (AreAdded version called old new before.items after.items)
  pub fault : IfErr result (λ error. Tells error (all_fault bytes_eq old called))
  -- in any case
  pub few : length old ≤ most_entries → length new ≤ most_entries
