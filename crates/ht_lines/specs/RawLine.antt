-- Bytes begin with an allocation, a free or a node of a raw trace: a kind, so many numbers of one
-- to 16 digits, each behind one blank, and a line feed.
use Rattle.std.specs.Prelude.{◌≡◌, ◌≢◌, ℕ, ◌+◌, ◌<◌, ◌≤◌, List, ◌∷◌, ◌++◌, length, drop, All, Some, Ok}
use Rattle.hp_num.specs.ParsedHex.{parsed_hex}
use Rattle.ht_lines.specs.declared.raw.RawEvent.{RawEvent}
use Rattle.ht_lines.specs.declared.raw.RawEvent.TheVariants.{Allocation, Free, Node}
use Rattle.ht_lines.specs.declared.raw.RawLine.{RawLine}
use Rattle.ht_lines.specs.declared.item.Form.TheVariants.{Raw}
use Rattle.ht_lines.specs.Content.{Content, node_line, raw_allocation_line, raw_free_line}
use Rattle.ht_lines.specs.Reading.{reading}

-- what the line says
abbrev pub raw_content : RawEvent → Content
raw_content (Allocation size trace ptr) = raw_allocation_line size trace ptr
raw_content (Free ptr) = raw_free_line ptr
raw_content (Node ip parent) = node_line ip parent

-- the text begins with such a line and its line feed, and in a raw trace of each version it says this
pub record BeginsWithRaw (text : List ℕ) (found : RawLine) : Type 0 where
  pub line : List ℕ
  pub rest : List ℕ
  pub split : text ≡ line ++ (10 ∷ rest)
  pub counted : found.bytes ≡ length line + 1
  pub at_least : 3 ≤ length line
  pub at_most : length line ≤ 52
  pub one_line : All (λ b. b ≢ 10) line
  pub said : (version : ℕ) → reading Raw version line ≡ Ok (raw_content found.says)

-- at a place of the text stand a blank and the digits of the number, up to another place
pub record IsFieldAt (text : List ℕ) (start number end : ℕ) : Type 0 where
  pub digits : List ℕ
  pub split : drop start text ≡ 32 ∷ (digits ++ drop end text)
  pub parsed : parsed_hex digits ≡ Some number
  pub one_line : All (λ b. b ≢ 10) digits
  pub some : 0 < length digits
  pub most : length digits ≤ 16
  pub size : end ≡ start + 1 + length digits
