-- What single lines say: the value of a key, a number, a unit, a mark, for private clauses.
use Rattle.std.specs.Prelude.{ℕ, ◌==◌, nat_le, if◌then◌else◌, List, [], ◌∷◌, find, Option, Some, None, Result, Ok, Err}
use Rattle.std.specs.Prelude.{codes}
use Rattle.std.specs.Option.{option_map}
use Rattle.std.specs.Str.{bytes_eq}
use Rattle.hp_num.specs.ParsedDec.{parsed_dec}
use Rattle.massif_file.specs.declared.fault.ProfileFault.{ProfileFault}
use Rattle.massif_file.specs.declared.fault.ProfileFault.TheVariants.{BadSnapshot, BadNumber}
use Rattle.massif_file.specs.declared.profile.TimeUnit.{TimeUnit}
use Rattle.massif_file.specs.declared.profile.TimeUnit.TheVariants.{Instructions, Milliseconds, Bytes, Events}
use Rattle.massif_file.specs.declared.profile.HeapTree.{HeapTree}
use Rattle.massif_file.specs.declared.profile.HeapTree.TheVariants.{Empty, Detailed, Peak}
use Rattle.massif_file.specs.Blanks.{without_blanks}

-- what follows the key, where the line begins with it
abbrev pub value_after : List ℕ → List ℕ → Option (List ℕ)
value_after [] line = Some line
value_after (k ∷ key) [] = None
value_after (k ∷ key) (b ∷ line) = if b == k then value_after key line else None

-- what follows a key of the header, without leading blanks
abbrev pub header_value : List ℕ → List ℕ → Option (List ℕ)
header_value key line = option_map without_blanks (value_after key line)

abbrev pub at_most : ℕ → Option ℕ → Option ℕ
at_most most None = None
at_most most (Some n) = if nat_le n most then Some n else None

-- the number of at most `most` that the text is in decimal digits
unfoldable pub number_of : ℕ → List ℕ → Option ℕ
number_of most text = at_most most (parsed_dec text)

-- the greatest number of a Massif file, 2 ^ 62
abbrev pub max_number : ℕ
max_number = 4611686018427387904

abbrev pub or_fault : {A : Type 0} → ProfileFault → Option A → Result A ProfileFault
or_fault fault None = Err fault
or_fault fault (Some x) = Ok x

abbrev pub number_in : Option (List ℕ) → Result ℕ ProfileFault
number_in None = Err BadSnapshot
number_in (Some value) = or_fault BadNumber (number_of max_number value)

-- the number after the key, or why there is none
unfoldable pub key_number : List ℕ → List ℕ → Result ℕ ProfileFault
key_number key line = number_in (value_after key line)

-- the name of a time unit
abbrev pub unit_name : TimeUnit → List ℕ
unit_name Instructions = codes "i"
unit_name Milliseconds = codes "ms"
unit_name Bytes = codes "B"
unit_name Events = codes "e"

-- the time unit of this name
unfoldable pub unit_of : List ℕ → Option TimeUnit
unit_of name = find (λ unit. bytes_eq name (unit_name unit))
    (Instructions ∷ Milliseconds ∷ Bytes ∷ Events ∷ [])

-- the name of a mark
abbrev pub mark_name : HeapTree → List ℕ
mark_name Empty = codes "empty"
mark_name Detailed = codes "detailed"
mark_name Peak = codes "peak"

-- the mark of this name
unfoldable pub mark_of : List ℕ → Option HeapTree
mark_of name = find (λ mark. bytes_eq name (mark_name mark)) (Empty ∷ Detailed ∷ Peak ∷ [])

-- the unit and the mark that a value names
abbrev pub unit_in : Option (List ℕ) → Option TimeUnit
unit_in None = None
unit_in (Some value) = unit_of value

abbrev pub mark_in : Option (List ℕ) → Option HeapTree
mark_in None = None
mark_in (Some value) = mark_of value
