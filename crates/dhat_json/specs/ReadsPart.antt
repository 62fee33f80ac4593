-- What a call reads of a JSON value whose texts are borrowed, for private clauses.
use Rattle.std.specs.Prelude.{◌≡◌, ℕ, List, None, Option, Result, map}
use Rattle.json.specs.declared.value.Value.{Value}
use Rattle.serde_json.specs.Data.{Data}
use Rattle.dhat_json.specs.declared.fault.DhatFault.{DhatFault}
use Rattle.dhat_json.specs.declared.key.Key.{Key}
use Rattle.dhat_json.specs.DataOf.{data_of}
use Rattle.dhat_json.specs.DhatFault.{Finding, first_of, needed}
use Rattle.dhat_json.specs.Kinds.{as_list}
use Rattle.dhat_json.specs.ProfileIn.{list_at}
use Rattle.dhat_json.specs.Reads.{Reads}

-- a check of the value found no fault and this part was read, or the answer is the fault that it found, or memory was
-- wanting
abbrev pub ReadsPart : {A X : Type 0} → Result A DhatFault → (Data → Finding) → (Data → A) → Value X
    → Type 0
ReadsPart result check part value = Reads result (check (data_of value)) (part (data_of value))

-- the same of several checks, of which the first fault counts
abbrev pub ReadsFirst : {A X : Type 0} → Result A DhatFault → (Data → List Finding) → (Data → A)
    → Value X → Type 0
ReadsFirst result checks part value = ReadsPart result (λ d. first_of (checks d)) part value

-- these are the items of the list at the key
abbrev pub IsListAt : {X : Type 0} → Option ℕ → Key → Value X → List (Value X) → Type 0
IsListAt point key value list = (needed as_list point key (data_of value) ≡ None)
    × (map data_of list ≡ list_at key (data_of value))
