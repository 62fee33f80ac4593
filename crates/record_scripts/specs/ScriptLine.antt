-- A line of a script says a turn: `a` or `r`, an ID, a size of at most 2^32 and at most 256
-- pointers other than 0; or `f` and an ID.
use Rattle.std.specs.Prelude.{ℕ, ◌^◌, Bool, ◌==◌, ◌&&◌, if◌then◌else◌, List, [], ◌∷◌, length, map, nat_le, nat_lt}
use Rattle.std.specs.Prelude.{Option, None, Some, option_map}
use Rattle.std.specs.List.{list_all}
use Rattle.hp_num.specs.ParsedHex.{parsed_hex}
use Rattle.ht_lines.specs.Fields.{field_ends, fields, number}
use Rattle.record_scripts.specs.Turns.{Turn, allocates, frees, reallocates}

-- at most 256 ips, none of which is 0
abbrev pub are_ips : List ℕ → Bool
are_ips ips = nat_le (length ips) 256 && list_all (λ ip. nat_lt 0 ip) ips

-- an ID, a size, and the numbers after them
abbrev pub sized_from : Option ℕ → Option ℕ → List ℕ → Option (ℕ × ℕ × List ℕ)
sized_from None size ips = None
sized_from (Some id) None ips = None
sized_from (Some id) (Some size) ips = Some (id, size, ips)

-- those that fields say; a field that is no number counts as 0, which no ip is
abbrev pub sized_of : List (List ℕ) → Option (ℕ × ℕ × List ℕ)
sized_of [] = None
sized_of (id ∷ []) = None
sized_of (id ∷ size ∷ ips) = sized_from (parsed_hex id) (parsed_hex size) (map number ips)

-- a block with these numbers, where they are ips
abbrev pub block_read : ℕ → ℕ → List ℕ → Option (ℕ × ℕ × List ℕ)
block_read id size ips = if are_ips ips then Some (id, size, ips) else None

-- a block of at most 2^32 bytes, with the ips that allocate it
abbrev pub block_from : Option (ℕ × ℕ × List ℕ) → Option (ℕ × ℕ × List ℕ)
block_from None = None
block_from (Some said) = if nat_le said.1 (2 ^ 32) && are_ips said.2 then Some said else None

abbrev pub block_of : List (List ℕ) → Option (ℕ × ℕ × List ℕ)
block_of fs = block_from (sized_of fs)

-- the ID that one field says
abbrev pub free_of : List (List ℕ) → Option ℕ
free_of [] = None
free_of (id ∷ []) = parsed_hex id
free_of (id ∷ other ∷ more) = None

-- the turn of a kind: `a`, `r` or `f`, which are the bytes 97, 114 and 102
unfoldable pub turn_of : ℕ → List (List ℕ) → Option Turn
turn_of kind fs =
    if kind == 97 then option_map (λ block. allocates block.0 block.1 block.2) (block_of fs)
    else if kind == 114 then option_map (λ block. reallocates block.0 block.1 block.2) (block_of fs)
    else if kind == 102 then option_map frees (free_of fs)
    else None

-- the turn that a line says: its kind, then a blank or the end, and fields
abbrev pub turn_in : List ℕ → Option Turn
turn_in [] = None
turn_in (kind ∷ rest) = if field_ends rest then turn_of kind (fields rest) else None
