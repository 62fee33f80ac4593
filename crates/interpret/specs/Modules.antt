-- The modules that are loaded: each with the addresses that it takes. The modules are those of the
-- lines since the last that clears them; the module of an address is the last one with a range that
-- holds it, a range's end being outside.
use Rattle.std.specs.Prelude.{ℕ, ◌+◌, Bool, ◌&&◌, List, [], ◌∷◌, ◌++◌, fold, find, nat_le, nat_lt, reverse, Option}
use Rattle.std.specs.List.{list_any}
use Rattle.ht_lines.specs.Content.{Content, clear_line, module_line}
use Rattle.ht_lines.specs.Fields.{numbers}
use Rattle.interpret.specs.declared.modules.AddressRange.{AddressRange}

-- a name, the address where the module starts, and its ranges
pub record LoadedModule : Type 0 where
  pub name : List ℕ
  pub start : ℕ
  pub ranges : List AddressRange

-- the ranges of a module line: an offset from the start and a size for each
abbrev pub ranges_said : ℕ → List ℕ → List AddressRange
ranges_said start [] = []
ranges_said start (offset ∷ []) = []
ranges_said start (offset ∷ size ∷ more)
    = record { begin = start + offset; end = start + offset + size } ∷ ranges_said start more

-- those of a line's tail
abbrev pub ranges_in : ℕ → List ℕ → List AddressRange
ranges_in start tail = ranges_said start (numbers tail)

-- whether a range holds an address; its end is outside
abbrev pub in_range : ℕ → AddressRange → Bool
in_range ip range = nat_le range.begin ip && nat_lt ip range.end

-- whether one of several does
abbrev pub in_ranges : List AddressRange → ℕ → Bool
in_ranges ranges ip = list_any (in_range ip) ranges

abbrev pub holds_address : ℕ → LoadedModule → Bool
holds_address ip loaded = in_ranges loaded.ranges ip

-- the module that a line says
abbrev pub module_said : List ℕ → ℕ → List ℕ → LoadedModule
module_said name start numbers
    = record { name = name; start = start; ranges = ranges_said start numbers }

-- the modules after one more line
abbrev pub modules_after : List LoadedModule → Content → List LoadedModule
modules_after loaded clear_line = []
modules_after loaded (module_line name start numbers) = loaded
    ++ module_said name start numbers ∷ []
modules_after loaded _ = loaded

-- the modules since the last line that clears them
unfoldable pub modules : List Content → List LoadedModule
modules said = fold modules_after [] said

-- the module of an address: the last one that holds it
abbrev pub module_of : List LoadedModule → ℕ → Option LoadedModule
module_of loaded ip = find (holds_address ip) (reverse loaded)
