-- The value of an option is the key of a figure where it is the name of one; where the option isn't
-- given, it is that of all bytes.
use Rattle.std.specs.Prelude.{ℕ, List, [], ◌∷◌, codes, Option}
use Rattle.dhat_json.specs.declared.figure.FigureKey.{FigureKey}
use Rattle.dhat_json.specs.declared.figure.FigureKey.TheVariants.{Tb, Tbk, Tl, Gb, Gbk, Eb, Ebk, Rb, Wb}
use Rattle.commands.specs.NameWords.{meaning_or}

-- the names of keys
abbrev pub keys : List (List ℕ × FigureKey)
keys =
    (codes "tb", Tb)
    ∷ (codes "tbk", Tbk)
    ∷ (codes "tl", Tl)
    ∷ (codes "gb", Gb)
    ∷ (codes "gbk", Gbk)
    ∷ (codes "eb", Eb)
    ∷ (codes "ebk", Ebk)
    ∷ (codes "rb", Rb)
    ∷ (codes "wb", Wb)
    ∷ []

-- the key of an option: bytes of all blocks where it isn't given
unfoldable pub key_or : Option (List ℕ) → Option FigureKey
key_or value = meaning_or Tb keys value
