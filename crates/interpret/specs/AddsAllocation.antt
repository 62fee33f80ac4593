-- How an allocation is added, and its lines written, for private clauses.
use Rattle.std.specs.Prelude.{◌≡◌, ℕ, ◌≤◌, List, [], ◌∷◌, ◌++◌, length, map, Result, OnOk, IfOk, IfErr}
use Rattle.std.specs.Global.{Vec}
use Rattle.ht_lines.specs.Content.{allocation_line}
use Rattle.ht_trace.specs.declared.error.LineError.{LineError}
use Rattle.ht_trace.specs.LineFault.{Tells, most_entries}
use Rattle.interpret.specs.declared.infos.AllocationInfo.{AllocationInfo}
use Rattle.interpret.specs.AppendsLines.{AppendsLines}
use Rattle.interpret.specs.FirstAppearances.{new_fault, with_new}
use Rattle.interpret.specs.Interpreted.{info_said, new_in}
use Rattle.interpret.specs.RawTables.{info_number, same_info}

-- its info is added where it is new; the line of a new one and that of the allocation stand at the
-- end of what is written
pub record AddsAllocation (version : ℕ) (info : AllocationInfo) (old new : List AllocationInfo)
    (before after : Vec ℕ) (result : Result ℕ LineError) : Type 0 where
  pub added : OnOk result (new ≡ with_new same_info old info)
  pub number : IfOk result (λ number. number ≡ info_number new info)
  pub lines : IfOk result (λ number. AppendsLines version
      (map info_said (new_in old new) ++ allocation_line number ∷ []) before after)
  pub fault : IfErr result (λ error. Tells error (new_fault same_info old info))
  -- in any case
  pub few : length new ≤ most_entries
