-- How texts and lists of them are kept: each different text once, and a list as the numbers of its
-- texts, for private clauses.
use Rattle.std.specs.Prelude.{◌≡◌, ℕ, ◌+◌, ◌^◌, ◌≤◌, All, List, [], ◌∷◌, ◌++◌, codes, flat_map, length, map, reverse}
use Rattle.std.specs.Prelude.{Some, slice_get, sum_by}
use Rattle.std.specs.Global.{Vec}
use Rattle.cost_tree.specs.Costed.{Costed, costed}
use Rattle.cost_tree.specs.Inclusive.{own}
use Rattle.cost_tree.specs.Texts.{IsText, texts_of}
use Rattle.intern_tables.specs.Distinct.{AreDistinct}
use Rattle.intern_tables.specs.Numbers.{name_at}
use Rattle.convert.specs.declared.list_sums.ListSums.{ListSums}
use Rattle.convert.specs.Folded.{folded_line, folded_lists, folded_name, folded_text}

-- the lists that the vectors of numbers stand for
abbrev pub lists_at : List (List ℕ) → List (Vec ℕ) → List (List (List ℕ))
lists_at names keys = map (λ key. texts_of names key.items) keys

-- each of these lists with its sum
abbrev pub lines_at : List (List ℕ) → List (Vec ℕ) → List ℕ → List Costed
lines_at names keys sums = costed (lists_at names keys) sums

-- the lists are those of the items, each with the sum of the items that have it
pub record AreSums (names : List (List ℕ)) (keys : List (Vec ℕ)) (sums : List ℕ)
    (items : List Costed) : Type 0 where
  pub distinct : AreDistinct names
  pub held : All (λ key. All (IsText names) key.items) keys
  pub lists : lists_at names keys ≡ folded_lists items
  pub sums_are : sums ≡ map (λ list. own list items) (folded_lists items)

-- a list of numbers of names with a number
abbrev pub item_of : List (List ℕ) → List ℕ → ℕ → Costed
item_of names list number = record { texts = texts_of names list; cost = number }

-- texts from the last to the first, each behind a semicolon
abbrev pub later_texts : List (List ℕ) → List ℕ → List ℕ
later_texts names numbers =
    flat_map (λ text. codes ";" ++ folded_name text) (reverse (texts_of names numbers))

-- the same of sums that are kept
abbrev pub lines_of : ListSums → List Costed
lines_of sums = lines_at sums.names sums.lists.keys sums.sums.items

abbrev pub SumsUp : ListSums → List Costed → Type 0
SumsUp sums = AreSums sums.names sums.lists.keys sums.sums.items

-- the lines of whatever items they are the sums of came to the bytes
abbrev pub GainsSums : ListSums → List ℕ → List ℕ → Type 0
GainsSums sums old new = (items : List Costed) → SumsUp sums items
    → new ≡ old ++ folded_text items

-- the line at this place came to the bytes
abbrev pub GainsLineAt : ListSums → ℕ → List ℕ → List ℕ → Type 0
GainsLineAt sums place old new = (line : Costed) → slice_get (lines_of sums) place ≡ Some line
    → new ≡ old ++ folded_line line

-- the line of a list of numbers of names with its sum
abbrev pub line_with : List (List ℕ) → List ℕ → ℕ → List ℕ
line_with names list sum = folded_line (item_of names list sum)

-- a number more is no more than fits
abbrev pub HasRoom : ListSums → ℕ → Type 0
HasRoom sums number = (items : List Costed) × SumsUp sums items
    × (sum_by (λ (item : Costed). item.cost) items + number ≤ 2 ^ 62)

-- an item came behind the others
abbrev pub AddsItem : ListSums → ListSums → Costed → Type 0
AddsItem old new item = (items : List Costed) → SumsUp old items → SumsUp new (items ++ item ∷ [])

-- names that were held keep their numbers
abbrev pub KeepsNames : List (List ℕ) → List (List ℕ) → Type 0
KeepsNames old new = (n : ℕ) → n ≤ length old → name_at new n ≡ name_at old n
