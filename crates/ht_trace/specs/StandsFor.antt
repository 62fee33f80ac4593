-- The tables stand for lines where each table is the lines' list.
use Rattle.std.specs.Prelude.{◌≡◌, ℕ, true, false, List, [], is_some}
use Rattle.std.specs.List.{AllByRecursion}
use Rattle.ht_trace.specs.Gathered.{gathered}
use Rattle.ht_trace.specs.LineFault.{line_fault_after}
use Rattle.ht_trace.specs.VersionLines.{may_stand_first}
use Rattle.ht_trace.specs.TableState.{TableState, tables_after}

-- the tables are those of the lines, of which none has a fault after those before it; so long as none is a version
-- line, each may stand before one. The texts of suppressions that were given stood before the lines
pub record StandsAfter (tables : TableState) (given lines : List (List ℕ)) : Type 0 where
  pub tables_is : tables ≡ tables_after given lines
  pub no_fault : gathered (line_fault_after given) [] lines ≡ []
  pub first : is_some tables.version ≡ false
      → AllByRecursion (λ line. may_stand_first line ≡ true) lines

-- the same where none were given
abbrev pub StandsFor : TableState → List (List ℕ) → Type 0
StandsFor tables lines = StandsAfter tables [] lines
