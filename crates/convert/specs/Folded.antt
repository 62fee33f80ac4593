-- Folded lines are a line for each different list whose items' numbers have a sum other than 0, by
-- the first item with it whose number isn't 0: the texts from the last to the first with `;`
-- between them, a blank and the sum. A `;` within a text is a colon, and no text is `(no stack)`.
use Rattle.std.specs.Prelude.{ℕ, ◌==◌, if◌then◌else◌, nat_lt, List, [], ◌∷◌, ◌++◌, codes, decimal, filter, flat_map}
use Rattle.std.specs.Prelude.{map, reverse}
use Rattle.std.specs.List.{join_by}
use Rattle.cost_tree.specs.Costed.{Costed}
use Rattle.cost_tree.specs.Inclusive.{is_front, own}
use Rattle.indexmap.specs.IndexSet.{insert_all}

-- the items whose number isn't 0
abbrev pub counting : List Costed → List Costed
counting items = filter (λ item. nat_lt 0 item.cost) items

-- their different lists: each goes behind those of the items before, unless one of these is the same
unfoldable pub folded_lists : List Costed → List (List (List ℕ))
folded_lists items = insert_all is_front [] (map (λ item. item.texts) (counting items))

-- each of these lists with the sum of the numbers of all items that have it
unfoldable pub folded_sums : List Costed → List Costed
folded_sums items = map (λ list. record { texts = list; cost = own list items })
    (folded_lists items)

-- a colon for a semicolon, since semicolons stand between texts
abbrev pub folded_byte : ℕ → ℕ
folded_byte byte = if byte == 59 then 58 else byte

abbrev pub folded_name : List ℕ → List ℕ
folded_name text = map folded_byte text

-- the texts from the last to the first with semicolons between them; an empty list has words of its own
abbrev pub folded_path : List (List ℕ) → List ℕ
folded_path [] = codes "(no stack)"
folded_path (text ∷ more) = join_by folded_name (codes ";") (reverse (text ∷ more))

-- the line of a list with its sum
unfoldable pub folded_line : Costed → List ℕ
folded_line line = folded_path line.texts ++ (codes " " ++ (decimal line.cost ++ codes "\n"))

-- the lines of these sums, one behind the other
abbrev pub lines_text : List Costed → List ℕ
lines_text lines = flat_map folded_line lines

-- the folded lines of the items
unfoldable pub folded_text : List Costed → List ℕ
folded_text items = lines_text (folded_sums items)
