-- The name of a module in what follows the kind of its line, and the tail after the name. The name
-- of a module is the bytes after its size, in file version 3 where a size stands there that fits,
-- and else the first field.
use Rattle.std.specs.Prelude.{◌≡◌, ◌≢◌, ◌⊎◌, ℕ, ◌<◌, ◌==◌, ◌&&◌, if◌then◌else◌, List, [], ◌∷◌, ◌++◌, length, take, drop}
use Rattle.std.specs.Prelude.{nat_le, Option, Some, None, IsTrue}
use Rattle.std.specs.Option.{option_or}
use Rattle.std.specs.List.{AllByRecursion}
use Rattle.hp_num.specs.ParsedHex.{parsed_hex}
use Rattle.ht_lines.specs.Fields.{first_field, after_field, field_ends}

-- blanks, a hexadecimal number, one blank, so many bytes, and then a blank or the end
pub record IsSizedName (rest name tail : List ℕ) : Type 0 where
  pub blanks : List ℕ
  pub digits : List ℕ
  pub all_blank : AllByRecursion (λ b. b ≡ 32) blanks
  pub size : parsed_hex digits ≡ Some (length name)
  pub bytes : rest ≡ blanks ++ (digits ++ (32 ∷ (name ++ tail)))
  pub ends : IsTrue (field_ends tail)

-- blanks, the first field, and then a blank or the end
pub record IsPlainName (rest name tail : List ℕ) : Type 0 where
  pub blanks : List ℕ
  pub all_blank : AllByRecursion (λ b. b ≡ 32) blanks
  pub not_empty : 0 < length name
  pub no_blank : AllByRecursion (λ b. b ≢ 32) name
  pub bytes : rest ≡ blanks ++ (name ++ tail)
  pub ends : IsTrue (field_ends tail)

-- in file version 3 the sized name where there is one; else the first field
abbrev pub IsModuleName : ℕ → List ℕ → List ℕ → List ℕ → Type 0
IsModuleName version rest name tail =
    ((version ≡ 3) × IsSizedName rest name tail)
    ⊎ (((version ≡ 3) → (n t : List ℕ) → ¬ IsSizedName rest n t) × IsPlainName rest name tail)

-- n bytes after one blank, and what follows them
abbrev pub of_size_in : Option ℕ → List ℕ → Option (List ℕ × List ℕ)
of_size_in None after = None
of_size_in (Some n) [] = None
of_size_in (Some n) (b ∷ bytes) =
    if nat_le n (length bytes) && field_ends (drop n bytes) then Some (take n bytes, drop n bytes)
    else None

-- the sized name and the tail
unfoldable pub sized_name : List ℕ → Option (List ℕ × List ℕ)
sized_name rest = of_size_in (parsed_hex (first_field rest)) (after_field rest)

-- the first field and the tail
unfoldable pub plain_name : List ℕ → Option (List ℕ × List ℕ)
plain_name rest = if length (first_field rest) == 0 then None
    else Some (first_field rest, after_field rest)

-- the name and the tail
unfoldable pub module_name : ℕ → List ℕ → Option (List ℕ × List ℕ)
module_name version rest = if version == 3 then option_or (sized_name rest) (plain_name rest)
    else plain_name rest
