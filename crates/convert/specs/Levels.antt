-- Where a walk over a tree's lines stands, for private clauses: the levels that are open, from the
-- innermost one outwards.
use Rattle.std.specs.Prelude.{◌≡◌, ℕ, zero, suc, ◌-◌, List, [], ◌∷◌, ◌++◌, drop, length, map, reverse, sum, take}
use Rattle.std.specs.Global.{Vec}
use Rattle.cost_tree.specs.Costed.{Costed}
use Rattle.massif_file.specs.TreeLine.{TreeLine}
use Rattle.convert.specs.declared.path.Level.{Level}
use Rattle.cost_tree.specs.Texts.{texts_of}
use Rattle.convert.specs.TreeItems.{all_items, left_bytes}

-- what the children of each line leave of its bytes
unfoldable pub left_in : List TreeLine → List ℕ
left_in [] = []
left_in (line ∷ lines) = left_bytes line lines ∷ left_in lines

-- what so many of the last roots leave of these bytes, and that a root with these bytes takes their place
abbrev pub kept : ℕ → ℕ → List ℕ → ℕ
kept bytes children roots = bytes - sum (take children (reverse roots))

abbrev pub TakesRoots : ℕ → ℕ → Vec ℕ → Vec ℕ → Type 0
TakesRoots bytes children old new =
    reverse new.items ≡ bytes ∷ drop children (reverse old.items)

-- these lists have so many numbers, one for each line
abbrev pub HaveLength : ℕ → List ℕ → List ℕ → Type 0
HaveLength count left numbers = (length left ≡ count) × (length numbers ≡ count)

-- the innermost levels at which no line is to come are ended
abbrev pub level_at : ℕ → ℕ → Level
level_at label to_come = record { label = label; to_come = to_come }

abbrev pub if_open : ℕ → ℕ → List Level → List Level → List Level
if_open label zero outer ended = ended
if_open label (suc n) outer ended = level_at label (suc n) ∷ outer

abbrev pub without_done : List Level → List Level
without_done [] = []
without_done (level ∷ outer) = if_open level.label level.to_come outer (without_done outer)

-- one line less is to come at the innermost level
abbrev pub one_less : List Level → List Level
one_less [] = []
one_less (level ∷ outer) = level_at level.label (level.to_come - 1) ∷ outer

-- the levels after a line with this label and so many children
abbrev pub entered : ℕ → ℕ → List Level → List Level
entered label children levels = level_at label children ∷ one_less (without_done levels)

-- the texts from the outermost level inwards
abbrev pub path_of : List (List ℕ) → List Level → List (List ℕ)
path_of names levels = texts_of names (reverse (map (λ level. level.label) levels))

-- an item below these texts
abbrev pub under : List (List ℕ) → Costed → Costed
under path item = record { texts = path ++ item.texts; cost = item.cost }

-- a line with this label and so many children came to the levels, of which the last one is the innermost
abbrev pub Enters : ℕ → ℕ → List Level → List Level → Type 0
Enters label children old new = reverse new ≡ entered label children (reverse old)

-- the levels at which no line is to come ended, and one less is at the next one
abbrev pub TakesOne : List Level → List Level → Type 0
TakesOne old new = reverse new ≡ one_less (without_done (reverse old))

-- the items of the trees that are still to come: at each level as many as it waits for, and what is
-- left stands beside all
unfoldable pub items_left : List (List ℕ) → List Level → List (List Costed) → List Costed
items_left names [] trees = all_items trees
items_left names (level ∷ outer) trees = map (under (path_of names (level ∷ outer)))
    (all_items (take level.to_come trees)) ++ items_left names outer (drop level.to_come trees)
