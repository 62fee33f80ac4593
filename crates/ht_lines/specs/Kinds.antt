-- A line is of a known kind where its first byte is one; every other line but a comment says
-- nothing. In a raw trace the kinds of strings, instructions and infos are foreign.
use Rattle.std.specs.Prelude.{◌≡◌, ◌≢◌, ℕ, Bool, ◌==◌, List, [], ◌∷◌, drop, codes, false, IsTrue}
use Rattle.std.specs.List.{list_any}
use Rattle.ht_lines.specs.declared.item.Form.{Form}
use Rattle.ht_lines.specs.declared.item.Form.TheVariants.{Raw, Interpreted}
use Rattle.ht_lines.specs.Fields.{fields}

-- the known kinds other than the comment
abbrev pub kinds : List ℕ
kinds = codes "vxXSIsmita+-cRA"

abbrev pub is_kind : ℕ → Bool
is_kind b = list_any (λ k. k == b) kinds

-- the kinds of lines of tables that a raw trace has none of
abbrev pub table_kinds : List ℕ
table_kinds = codes "sia"

-- lines of that kind stand in traces of the other form alone
abbrev pub is_foreign : Form → ℕ → Bool
is_foreign Raw b = list_any (λ k. k == b) table_kinds
is_foreign Interpreted b = false

abbrev pub IsForeign : Form → List ℕ → Type 0
IsForeign form [] = ⊥
IsForeign form (b ∷ rest) = IsTrue (is_foreign form b)

-- the line has this kind, and nothing after it or a blank there
abbrev pub IsOfKind : ℕ → List ℕ → Type 0
IsOfKind kind [] = ⊥
IsOfKind kind (b ∷ []) = b ≡ kind
IsOfKind kind (b ∷ c ∷ rest) = (b ≡ kind) × (c ≡ 32)

-- the line has a known kind, and another byte than a blank after it
abbrev pub HasWrongSecondByte : List ℕ → Type 0
HasWrongSecondByte [] = ⊥
HasWrongSecondByte (b ∷ []) = ⊥
HasWrongSecondByte (b ∷ c ∷ rest) = IsTrue (is_kind b) × (c ≢ 32)

-- the line is empty, or of no known kind
abbrev pub IsOther : List ℕ → Type 0
IsOther [] = Unit {0}
IsOther (b ∷ rest) = (is_kind b ≡ false) × (b ≢ 35)

-- what follows the kind
abbrev pub after_kind : List ℕ → List ℕ
after_kind line = drop 1 line

-- what follows the kind and one blank
abbrev pub plain_text : List ℕ → List ℕ
plain_text line = drop 2 line

-- the fields after the kind
abbrev pub fields_of : List ℕ → List (List ℕ)
fields_of line = fields (after_kind line)
