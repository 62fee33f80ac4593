-- The symbols of a table are those of its lines; empty lines and lines that begin with `#` say
-- none. Two symbols meet where they are of one module and have an offset in common. The symbol at
-- an offset of a module is the one that holds it.
use Rattle.std.specs.Prelude.{◌≡◌, ◌≢◌, ℕ, Bool, true, ◌==◌, ◌&&◌, if◌then◌else◌, List, [], ◌∷◌, ◌++◌, nat_le, nat_lt}
use Rattle.std.specs.Prelude.{find, Option, None, Some}
use Rattle.std.specs.List.{filter_map, list_any}
use Rattle.std.specs.Option.{option_map}
use Rattle.std.specs.Str.{bytes_eq}
use Rattle.interpret.specs.declared.fault.SymbolFault.{SymbolFault}
use Rattle.interpret.specs.declared.fault.SymbolFault.TheVariants.{BadSymbolLine, SymbolOverlap, NoMemory}
use Rattle.interpret.specs.SymbolLine.{Symbol, fields, symbol_of}

-- empty lines and comments say nothing
abbrev pub is_skipped : List ℕ → Bool
is_skipped [] = true
is_skipped (b ∷ rest) = b == 35

-- the symbol that a line says
abbrev pub symbol_in : List ℕ → Option Symbol
symbol_in line = if is_skipped line then None else symbol_of (fields line)

-- the symbols that the lines say
abbrev pub symbols_of : List (List ℕ) → List Symbol
symbols_of lines = filter_map symbol_in lines

-- the symbols of any lines are now those of these and one more
abbrev pub StandForMore : List Symbol → List Symbol → List ℕ → Type 0
StandForMore old new line = (lines : List (List ℕ)) → old ≡ symbols_of lines
    → new ≡ symbols_of (lines ++ line ∷ [])

-- whether two symbols of one module have an offset in common
abbrev pub meets : Symbol → Symbol → Bool
meets s t = bytes_eq s.module_name t.module_name && (nat_lt s.start t.end && nat_lt t.start s.end)

-- whether a symbol holds an offset in a module
abbrev pub holds : List ℕ → ℕ → Symbol → Bool
holds name offset s = bytes_eq name s.module_name && (nat_le s.start offset && nat_lt offset s.end)

-- the symbol that holds an offset in a module; symbols that were taken don't meet, so that no other does
abbrev pub symbol_at : List Symbol → List ℕ → ℕ → Option Symbol
symbol_at symbols name offset = find (holds name offset) symbols

abbrev pub texts_at : List Symbol → List ℕ → ℕ → Option (List (List ℕ))
texts_at symbols name offset = option_map (λ s. s.texts) (symbol_at symbols name offset)

-- the fault of a symbol, if it is one, after earlier symbols
abbrev pub fault_after : List Symbol → Option Symbol → Option SymbolFault
fault_after symbols None = Some BadSymbolLine
fault_after symbols (Some s) = if list_any (meets s) symbols then Some SymbolOverlap else None

-- the fault of a line after earlier symbols
abbrev pub symbol_fault : List Symbol → List ℕ → Option SymbolFault
symbol_fault symbols line = if is_skipped line then None
    else fault_after symbols (symbol_of (fields line))

-- the fault is this one, unless memory was wanting
abbrev pub Tells : SymbolFault → Option SymbolFault → Type 0
Tells fault found = fault ≢ NoMemory → found ≡ Some fault
