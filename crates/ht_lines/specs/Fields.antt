-- The fields of a text, and the numbers that they are. Fields are the pieces between blanks that
-- aren't empty.
use Rattle.std.specs.Prelude.{◌≡◌, ℕ, Bool, true, ◌==◌, if◌then◌else◌, List, [], ◌∷◌, length, nat_lt, filter, map, Some}
use Rattle.std.specs.Prelude.{IsTrue, is_some, unwrap_or}
use Rattle.std.specs.List.{slice_split, list_all}
use Rattle.hp_num.specs.ParsedHex.{parsed_hex}

-- a blank is the byte 0x20
abbrev pub is_blank : ℕ → Bool
is_blank b = b == 32

-- the pieces between the blanks, without the empty ones
unfoldable pub fields : List ℕ → List (List ℕ)
fields text = filter (λ piece. nat_lt 0 (length piece)) (slice_split is_blank text)

-- the text without the blanks that it begins with
abbrev pub after_blanks : List ℕ → List ℕ
after_blanks [] = []
after_blanks (b ∷ bs) = if is_blank b then after_blanks bs else b ∷ bs

-- the text up to its first blank
abbrev pub before_blank : List ℕ → List ℕ
before_blank [] = []
before_blank (b ∷ bs) = if is_blank b then [] else b ∷ before_blank bs

-- the text from its first blank on
abbrev pub from_blank : List ℕ → List ℕ
from_blank [] = []
from_blank (b ∷ bs) = if is_blank b then b ∷ bs else from_blank bs

-- the first field, empty where there is none, and what follows it
abbrev pub first_field : List ℕ → List ℕ
first_field text = before_blank (after_blanks text)

abbrev pub after_field : List ℕ → List ℕ
after_field text = from_blank (after_blanks text)

-- the text is empty or begins with a blank, so that a field before it ends there
abbrev pub field_ends : List ℕ → Bool
field_ends [] = true
field_ends (b ∷ bs) = is_blank b

-- the fields are these numbers
abbrev pub AreNumbers : List (List ℕ) → List ℕ → Type 0
AreNumbers fs ns = map parsed_hex fs ≡ map Some ns

-- whether each field is a number
abbrev pub all_numbers : List (List ℕ) → Bool
all_numbers fs = list_all (λ f. is_some (parsed_hex f)) fs

-- the number that a field is, or 0 where it is none
abbrev pub number : List ℕ → ℕ
number f = unwrap_or (parsed_hex f) 0

-- the numbers of the text's fields
abbrev pub numbers : List ℕ → List ℕ
numbers text = map number (fields text)

-- where all fields of the one text are numbers, those of the other are
abbrev pub KeepsNumbers : List ℕ → List ℕ → Type 0
KeepsNumbers text rest = IsTrue (all_numbers (fields text)) → IsTrue (all_numbers (fields rest))

-- the text has one field, and it is the number
abbrev pub IsLoneNumber : List ℕ → ℕ → Type 0
IsLoneNumber text n = (digits : List ℕ) × (fields text ≡ digits ∷ []) × (parsed_hex digits ≡ Some n)
