-- The text of a line: what follows its kind and one blank, in file version 3 maybe with its size
-- before it. The text after a kind, and in file version 3 without its size where the size is right.
use Rattle.std.specs.Prelude.{◌≡◌, ◌⊎◌, ℕ, ◌==◌, if◌then◌else◌, List, [], ◌∷◌, ◌++◌, length, Option, Some, None}
use Rattle.std.specs.Prelude.{unwrap_or}
use Rattle.hp_num.specs.ParsedHex.{parsed_hex}
use Rattle.ht_lines.specs.Fields.{before_blank, from_blank}

-- a hexadecimal number, one blank, and then exactly so many bytes
abbrev pub IsSizedText : List ℕ → List ℕ → Type 0
IsSizedText plain bytes = (digits : List ℕ) × (parsed_hex digits ≡ Some (length bytes))
    × (plain ≡ digits ++ (32 ∷ bytes))

-- so many bytes after one blank
abbrev pub of_size : Option ℕ → List ℕ → Option (List ℕ)
of_size None after = None
of_size (Some n) [] = None
of_size (Some n) (b ∷ bytes) = if length bytes == n then Some bytes else None

-- the bytes of a sized text
unfoldable pub sized_text : List ℕ → Option (List ℕ)
sized_text plain = of_size (parsed_hex (before_blank plain)) (from_blank plain)

-- the text that a plain text stands for
unfoldable pub text_of : ℕ → List ℕ → List ℕ
text_of version plain = if version == 3 then unwrap_or (sized_text plain) plain else plain

-- the same as a relation
abbrev pub IsText : ℕ → List ℕ → List ℕ → Type 0
IsText version plain bytes =
    ((version ≡ 3) × IsSizedText plain bytes)
    ⊎ (((version ≡ 3) → (other : List ℕ) → ¬ IsSizedText plain other) × (bytes ≡ plain))
