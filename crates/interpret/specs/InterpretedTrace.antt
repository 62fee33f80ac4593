-- The interpreted trace of raw lines is the lines of each of them, in order; the fault of a free is
-- that its info has no live block.
use Rattle.std.specs.Prelude.{◌≡◌, ℕ, ◌^◌, ◌<◌, true, List, [], ◌∷◌, ◌++◌, length, Option, None}
use Rattle.std.specs.List.{AllByRecursion}
use Rattle.ht_lines.specs.OneLine.{IsOneLine}
use Rattle.ht_trace.specs.Gathered.{gathered}
use Rattle.live_ledger.specs.declared.event.Event.{Event}
use Rattle.live_ledger.specs.declared.event.Event.TheVariants.{Alloc, Free, Tick}
use Rattle.live_ledger.specs.declared.event.EventFault.{EventFault}
use Rattle.live_ledger.specs.Faults.{fault_of}
use Rattle.interpret.specs.Interpreted.{interpreted_lines}
use Rattle.interpret.specs.RawFault.{raw_fault}
use Rattle.interpret.specs.SymbolLine.{Symbol, are_texts}

-- the lines that lines after earlier lines give
abbrev pub lines_from : List Symbol → List (List ℕ) → List (List ℕ) → List (List ℕ)
lines_from symbols earlier [] = []
lines_from symbols earlier (line ∷ lines) = interpreted_lines symbols earlier line
    ++ lines_from symbols (earlier ++ line ∷ []) lines

unfoldable pub interpreted_trace : List Symbol → List (List ℕ) → List (List ℕ)
interpreted_trace symbols lines = lines_from symbols [] lines

-- each text of a symbol has a length that fits 64 bits
abbrev pub HasShortTexts : Symbol → Type 0
HasShortTexts symbol = AllByRecursion (λ text. length text < 2 ^ 64) symbol.texts

-- its texts are a function alone, or frames, as each line of a table says them
abbrev pub HasFrames : Symbol → Type 0
HasFrames symbol = are_texts symbol.texts ≡ true

-- none of them has a line feed
abbrev pub HasOneLines : Symbol → Type 0
HasOneLines symbol = AllByRecursion IsOneLine symbol.texts

-- no line has a fault after those before it, and neither lines nor texts are longer than what can be read
pub record AreInterpretable (symbols : List Symbol) (lines : List (List ℕ)) : Type 0 where
  pub texts : AllByRecursion HasShortTexts symbols
  pub short : AllByRecursion (λ line. length line < 2 ^ 32) lines
  pub no_fault : gathered (raw_fault symbols) [] lines ≡ []

-- the fault of a free; that of an allocation is a limit of the ledger
abbrev pub free_fault : List Event → Event → Option EventFault
free_fault earlier (Alloc info stack size) = None
free_fault earlier (Free info stack size) = fault_of earlier (Free info stack size)
free_fault earlier (Tick ms) = None
