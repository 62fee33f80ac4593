-- How symbols are kept: with the number of their module's name and their texts as one text, and
-- beside them their places by module and start, for private clauses.
use Rattle.std.specs.Prelude.{◌≡◌, ◌≢◌, ◌⊎◌, ℕ, ◌+◌, ◌<◌, ◌≤◌, ◌==◌, ◌&&◌, Bool, nat_le, nat_lt, List, [], length, map}
use Rattle.std.specs.Prelude.{slice_get, Option, None, Some, unwrap_or}
use Rattle.std.specs.BTreeMap.{get}
use Rattle.std.specs.Ordering.{nat_cmp, ordering_then}
use Rattle.std.specs.declared.cmp.Ordering.{Ordering}
use Rattle.intern_tables.specs.Numbers.{name_at, number_of}
use Rattle.interpret.specs.declared.symbol_line.SymbolLine.{SymbolLine}
use Rattle.interpret.specs.declared.start_index.StartIndex.{StartIndex}
use Rattle.interpret.specs.declared.symbols.SymbolEntry.{SymbolEntry}
use Rattle.interpret.specs.SymbolLine.{Symbol, fields}

-- the fields of what follows a field
abbrev pub following : Option (List ℕ) → List (List ℕ)
following None = []
following (Some rest) = fields rest

-- how much follows a field, its tab with it
abbrev pub bytes_left : Option (List ℕ) → ℕ
bytes_left None = 0
bytes_left (Some rest) = length rest + 1

-- the symbol that the parts of a line say
abbrev pub said_by : SymbolLine → Symbol
said_by line = record {
  module_name = line.name.now;
  start = line.start;
  end = line.end;
  texts = fields line.texts.now;
}

-- the parts of a line say this symbol, or there is none of both
abbrev pub Says : Option SymbolLine → Option Symbol → Type 0
Says None said = said ≡ None
Says (Some line) said = said ≡ Some (said_by line)

-- the order of keys: by module, then by start
abbrev pub key_cmp : ℕ × ℕ → ℕ × ℕ → Ordering
key_cmp x y = ordering_then (nat_cmp x.0 y.0) (nat_cmp x.1 y.1)

-- the place that is kept for a module and a start
abbrev pub place_at : StartIndex → ℕ → ℕ → Option ℕ
place_at index number start = get key_cmp index.places (number, start)

-- none of a module's starts up to an offset is later
abbrev pub IsLatest : StartIndex → ℕ → ℕ → ℕ → Type 0
IsLatest index number offset latest = (start place : ℕ) → start ≤ offset
    → place_at index number start ≡ Some place → start ≤ latest

-- all places are as they were, and all but that of one module and start
abbrev pub SamePlaces : StartIndex → StartIndex → Type 0
SamePlaces old new = (number start : ℕ) → place_at new number start ≡ place_at old number start

abbrev pub SameElsewhere : StartIndex → StartIndex → ℕ → ℕ → Type 0
SameElsewhere old new number start = (other from : ℕ) → (other ≢ number) ⊎ (from ≢ start)
    → place_at new other from ≡ place_at old other from

-- the symbol that an entry keeps
abbrev pub symbol_kept : List (List ℕ) → SymbolEntry → Symbol
symbol_kept names entry =
    record {
      module_name = unwrap_or (name_at names entry.module_number) [];
      start = entry.start;
      end = entry.end;
      texts = fields entry.texts;
    }

-- the symbols that the entries keep
abbrev pub symbols_kept : List (List ℕ) → List SymbolEntry → List Symbol
symbols_kept names entries = map (symbol_kept names) entries

-- two entries have no offset of one module in common
abbrev pub AreApart : SymbolEntry → SymbolEntry → Type 0
AreApart x y = (x.module_number ≢ y.module_number) ⊎ ((x.end ≤ y.start) ⊎ (y.end ≤ x.start))

-- each entry's module has a name, whose number it has
pub record AreNamed (names : List (List ℕ)) (entries : List SymbolEntry) : Type 0 where
  pub number : (k : ℕ) (x : SymbolEntry) → slice_get entries k ≡ Some x
      → number_of names (symbol_kept names x).module_name ≡ Some x.module_number
  pub within : (k : ℕ) (x : SymbolEntry) → slice_get entries k ≡ Some x
      → x.module_number ≤ length names

-- the entries are apart, with ranges that aren't empty, and the index has the place of each under
-- its module and start, and nothing else
pub record AreIndexed (entries : List SymbolEntry) (index : StartIndex) : Type 0 where
  pub some : (k : ℕ) (x : SymbolEntry) → slice_get entries k ≡ Some x → x.start < x.end
  pub apart : (j k : ℕ) (x y : SymbolEntry) → slice_get entries j ≡ Some x
      → slice_get entries k ≡ Some y → j ≢ k → AreApart x y
  pub placed : (k : ℕ) (x : SymbolEntry) → slice_get entries k ≡ Some x
      → place_at index x.module_number x.start ≡ Some k
  pub only : (number start k : ℕ) → place_at index number start ≡ Some k
      → (x : SymbolEntry) × (slice_get entries k ≡ Some x) × (x.module_number ≡ number)
      × (x.start ≡ start)

-- the entry is the last of its module that doesn't start above an offset
pub record IsLast (entries : List SymbolEntry) (number offset : ℕ) (x : SymbolEntry) : Type 0 where
  pub place : ℕ
  pub at : slice_get entries place ≡ Some x
  pub number_is : x.module_number ≡ number
  pub upto : x.start ≤ offset
  pub last : (k : ℕ) (y : SymbolEntry) → slice_get entries k ≡ Some y → y.module_number ≡ number
      → y.start ≤ offset → y.start ≤ x.start

-- no entry of a module starts at an offset or before it
abbrev pub HasNone : List SymbolEntry → ℕ → ℕ → Type 0
HasNone entries number offset = (k : ℕ) (y : SymbolEntry) → slice_get entries k ≡ Some y
    → y.module_number ≡ number → offset < y.start

-- whether an entry has an offset in common with a range of a module
abbrev pub meets_range : ℕ → ℕ → ℕ → SymbolEntry → Bool
meets_range number start end x = x.module_number == number
    && (nat_lt start x.end && nat_lt x.start end)

-- whether an entry holds an offset of a module
abbrev pub holds_offset : ℕ → ℕ → SymbolEntry → Bool
holds_offset number offset x = x.module_number == number
    && (nat_le x.start offset && nat_lt offset x.end)
