-- What holds of the entries of a section, for private clauses.
use Rattle.std.specs.Prelude.{ℕ, ◌≤◌, length}
use Rattle.ht_trace.specs.TableState.{TableState}
use Rattle.ht_print.specs.declared.entry.Entry.{Entry}

-- the stack is held, and the figure is no greater than the sum of all
pub record IsEntry (tables : TableState) (total : ℕ) (entry : Entry) : Type 0 where
  pub held : entry.stack ≤ length tables.nodes
  pub within : entry.figure ≤ total
