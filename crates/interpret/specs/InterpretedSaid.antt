-- What the interpreted lines of a raw trace say, and the events that they bring when they are read
-- without limits. What the interpreted lines say, and the events that an interpreted trace has
-- which says this.
use Rattle.std.specs.Prelude.{ℕ, List, [], ◌∷◌, ◌++◌, Option}
use Rattle.ht_lines.specs.Content.{Content, clear_line, module_line, node_line, raw_allocation_line, raw_free_line}
use Rattle.ht_trace.specs.Gathered.{gathered}
use Rattle.ht_trace.specs.StepOf.{event_in}
use Rattle.ht_trace.specs.TraceLists as lists
use Rattle.live_ledger.specs.declared.event.Event.{Event}
use Rattle.interpret.specs.Interpreted.{said_for}
use Rattle.interpret.specs.RawBlocks.{freed_by, freed_info}
use Rattle.interpret.specs.RawTables.{RawTables, tables_of}
use Rattle.interpret.specs.SymbolLine.{Symbol}

-- what the lines of one that says this say: a line of modules gives none, and one that is passed on says what it said
abbrev pub told_for : List Symbol → RawTables → RawTables → Option ℕ → Content → List Content
told_for symbols before after freed clear_line = []
told_for symbols before after freed (module_line name start numbers) = []
told_for symbols before after freed (node_line ip parent) = said_for symbols before after freed
    (node_line ip parent)
told_for symbols before after freed (raw_allocation_line size trace ptr) = said_for symbols before
    after freed (raw_allocation_line size trace ptr)
told_for symbols before after freed (raw_free_line ptr) = said_for symbols before after freed
    (raw_free_line ptr)
told_for symbols before after freed said = said ∷ []

-- the same after earlier lines
abbrev pub told_after : List Symbol → List Content → Content → List Content
told_after symbols earlier said =
    told_for symbols (tables_of symbols earlier) (tables_of symbols (earlier ++ said ∷ []))
    (freed_info (tables_of symbols earlier).infos (freed_by earlier said)) said

-- what all of them say, one after another
abbrev pub told_from : List Symbol → List Content → List Content → List Content
told_from symbols earlier [] = []
told_from symbols earlier (said ∷ more) = told_after symbols earlier said
    ++ told_from symbols (earlier ++ said ∷ []) more

unfoldable pub interpreted_said : List Symbol → List Content → List Content
interpreted_said symbols said = told_from symbols [] said

-- the events that lines bring which say this
unfoldable pub events_said : List Content → List Event
events_said told = gathered (λ earlier. event_in (lists.infos earlier)) [] told

unfoldable pub interpreted_events : List Symbol → List Content → List Event
interpreted_events symbols said = events_said (interpreted_said symbols said)
