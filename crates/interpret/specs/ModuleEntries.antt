-- How modules are kept, for private clauses.
use Rattle.std.specs.Prelude.{◌≡◌, ℕ, List, map, slice_get, Option, None, Some}
use Rattle.interpret.specs.declared.address_index.AddressIndex.{AddressIndex}
use Rattle.interpret.specs.declared.modules.ModuleEntry.{ModuleEntry}
use Rattle.interpret.specs.Holders.{holder_at}
use Rattle.interpret.specs.Modules.{LoadedModule, module_of}

-- the module that an entry keeps
abbrev pub module_kept : ModuleEntry → LoadedModule
module_kept entry = record { name = entry.name; start = entry.start; ranges = entry.ranges.items }

-- the entry at the place keeps the module of the address
abbrev pub Holds : List ModuleEntry → ℕ → Option ℕ → Type 0
Holds entries ip None = module_of (map module_kept entries) ip ≡ None
Holds entries ip (Some place) = (entry : ModuleEntry) × (slice_get entries place ≡ Some entry)
    × (module_of (map module_kept entries) ip ≡ Some (module_kept entry))

-- of each address, the place that counts is that of its module
abbrev pub AreHeld : List ModuleEntry → AddressIndex → Type 0
AreHeld entries index = (ip : ℕ) → Holds entries ip (holder_at index ip)
