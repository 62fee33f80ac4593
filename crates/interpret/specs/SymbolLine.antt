-- The fields of a line of a symbol table are the pieces between its tabs. A line says a symbol
-- where it has a module, a start and a size in hexadecimal digits, and then a function alone, or a
-- function, a file and a decimal number for each frame; no text is empty, the size isn't 0, and
-- start and size are together below 2^64.
use Rattle.std.specs.Prelude.{ℕ, ◌+◌, ◌^◌, Bool, true, false, ◌==◌, ◌&&◌, if◌then◌else◌, List, [], ◌∷◌, length, nat_lt}
use Rattle.std.specs.Prelude.{Option, None, Some, is_some}
use Rattle.std.specs.List.{slice_split}
use Rattle.hp_num.specs.ParsedDec.{parsed_dec}
use Rattle.hp_num.specs.ParsedHex.{parsed_hex}

-- a tab is the byte 0x09
abbrev pub is_tab : ℕ → Bool
is_tab b = b == 9

-- the fields of a line: the pieces between its tabs
unfoldable pub fields : List ℕ → List (List ℕ)
fields line = slice_split is_tab line

-- the range from `start` up to `end`, which is outside, of the module with this name. The texts are
-- a function alone, or a function, a file and a line number for each frame from the innermost on
pub record Symbol : Type 0 where
  pub module_name : List ℕ
  pub start : ℕ
  pub end : ℕ
  pub texts : List (List ℕ)

abbrev pub is_text : List ℕ → Bool
is_text bytes = nat_lt 0 (length bytes)

-- whether the texts are a function, a file and a decimal number for each frame
abbrev pub are_frames : List (List ℕ) → Bool
are_frames [] = true
are_frames (function ∷ []) = false
are_frames (function ∷ file ∷ []) = false
are_frames (function ∷ file ∷ line ∷ more) = is_text function
    && (is_text file && (is_some (parsed_dec line) && are_frames more))

-- whether the texts are a function alone, or at least one frame
abbrev pub are_texts : List (List ℕ) → Bool
are_texts [] = false
are_texts (function ∷ []) = is_text function
are_texts (function ∷ more) = are_frames (function ∷ more)

-- the symbol with this start and size, where its parts may stand so: start and size are together below 2^64
abbrev pub symbol_from : List ℕ → Option ℕ → Option ℕ → List (List ℕ) → Option Symbol
symbol_from name None size texts = None
symbol_from name (Some start) None texts = None
symbol_from name (Some start) (Some size) texts =
    if is_text name && (nat_lt 0 size && (nat_lt (start + size) (2 ^ 64) && are_texts texts))
    then Some (record { module_name = name; start = start; end = start + size; texts = texts })
    else None

-- the symbol that fields say, if they say one
abbrev pub symbol_of : List (List ℕ) → Option Symbol
symbol_of [] = None
symbol_of (name ∷ []) = None
symbol_of (name ∷ start ∷ []) = None
symbol_of (name ∷ start ∷ size ∷ texts) = symbol_from name (parsed_hex start) (parsed_hex size)
    texts
