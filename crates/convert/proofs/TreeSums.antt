-- The tree of some stacks with a line for each of their fronts: what its lines say of the fronts.
use Rattle.std.proofs.Common.{◌≡◌, ◌≢◌, ◌⊎◌, ℕ, zero, suc, ◌+◌, ◌-◌, ◌<◌, ◌≤◌, inl, inr, List, [], ◌∷◌, ◌++◌, length}
use Rattle.std.proofs.Common.{map, take, drop, get_or, Some, refl, sym, ap, ◌∙◌, subst, append_assoc, append-nil, arith}
use Rattle.std.specs.Prelude.{All, AllPairs, Contains, slice_get}
use Rattle.std.specs.List.{flat_map}
use Rattle.std.proofs.lemmas.List.{get_or-map, length-map, length-take, length_push, map-append, take-append-le}
use Rattle.std.proofs.lemmas.List.{take-take, take_all}
use Rattle.std.proofs.lemmas.List.Elements.{All-cons, All-head, All-nil, All-tail, All-weaker, Contains-append_cases}
use Rattle.std.proofs.lemmas.List.Elements.{Contains-append_left, Contains-append_right}
use Rattle.std.proofs.lemmas.Option.{slice_get-get_or, slice_get_within, get_or_from_slice_get}
use Rattle.cost_tree.specs.declared.scale.Scale.{Scale}
use Rattle.cost_tree.specs.Costed.{Costed}
use Rattle.cost_tree.specs.CostLines.{FrontLine, Shown, a_front, gathered, cost_lines, front_line, front_lines}
use Rattle.cost_tree.specs.CostLines.{gathered_lines, kept_fronts, last_of}
use Rattle.cost_tree.specs.Inclusive.{inclusive}
use Rattle.cost_tree.proofs.Laws.{All-flat, inclusive-longer, kept-all, kept-apart, kept-held, kept-next, kept-some}
use Rattle.cost_tree.proofs.Laws.{next-texts, small-none}
use Rattle.dhat_json.specs.Shown.{shown}
use Rattle.massif_file.specs.TreeLine.{TreeLine}
use Rattle.massif_tree.specs.declared.options.TreeOptions.{TreeOptions}
use Rattle.massif_tree.specs.MassifTree.{label_of, massif_line, massif_tree, scale_of}
use Rattle.convert.specs.AreTreeSums.{AreTreeSums, line_fronts}
use Rattle.convert.specs.Converted.{whole_tree}
use Rattle.convert.specs.TreeItems.{all_items, below, forest_items, tree_items, without_root}

-- First, the texts of a forest's items.

-- those of each tree, in the order of the lines
forest_texts : List TreeLine → List (List (List (List ℕ)))
forest_texts [] = []
forest_texts (line ∷ lines) =
    ((shown line.label ∷ [])
    ∷ map (λ (texts : List (List ℕ)). shown line.label ∷ texts)
    (flat_map (λ (trees : List (List (List ℕ))). trees) (take line.children (forest_texts lines))))
    ∷ drop line.children (forest_texts lines)

abbrev texts_of : List Costed → List (List (List ℕ))
texts_of items = map (λ (item : Costed). item.texts) items

map-take : {X Y : Type 0} (f : X → Y) (n : ℕ) (xs : List X) → map f (take n xs) ≡ take n (map f xs)
map-take f zero [] = refl
map-take f zero (x ∷ xs) = refl
map-take f (suc n) [] = refl
map-take {X} {Y} f (suc n) (x ∷ xs) = ap (λ (ys : List Y). f x ∷ ys) (map-take f n xs)

map-drop : {X Y : Type 0} (f : X → Y) (n : ℕ) (xs : List X) → map f (drop n xs) ≡ drop n (map f xs)
map-drop f zero [] = refl
map-drop f zero (x ∷ xs) = refl
map-drop f (suc n) [] = refl
map-drop f (suc n) (x ∷ xs) = map-drop f n xs

all-texts : (trees : List (List Costed))
    → texts_of (all_items trees) ≡ flat_map (λ (texts : List (List (List ℕ))). texts) (map texts_of trees)
all-texts [] = refl
all-texts (items ∷ trees) =
    map-append (λ (item : Costed). item.texts) items (all_items trees)
    ∙ ap (λ (rest : List (List (List ℕ))). texts_of items ++ rest) (all-texts trees)

below-texts : (text : List ℕ) (items : List Costed)
    → texts_of (map (below text) items) ≡ map (λ (texts : List (List ℕ)). text ∷ texts) (texts_of items)
below-texts text [] = refl
below-texts text (item ∷ items) =
    ap (λ (rest : List (List (List ℕ))). (text ∷ item.texts) ∷ rest) (below-texts text items)

without_root-texts : (items : List Costed)
    → texts_of (map without_root items) ≡ map (λ (texts : List (List ℕ)). drop 1 texts) (texts_of items)
without_root-texts [] = refl
without_root-texts (item ∷ items) =
    ap (λ (rest : List (List (List ℕ))). drop 1 item.texts ∷ rest) (without_root-texts items)

forest-texts : (lines : List TreeLine) → map texts_of (forest_items lines) ≡ forest_texts lines
unfolding forest_items forest_texts
forest-texts [] = refl
forest-texts (line ∷ lines) =
    let label : List ℕ = shown line.label in
    let trees : List (List Costed) = take line.children (forest_items lines) in
    let under : List (List (List (List ℕ))) → List (List (List ℕ)) =
    λ texts. (label ∷ [])
    ∷ map (λ (t : List (List ℕ)). label ∷ t) (flat_map (λ (ts : List (List (List ℕ))). ts) texts) in
    let first : texts_of (map (below label) (all_items trees))
    ≡ map (λ (t : List (List ℕ)). label ∷ t)
    (flat_map (λ (ts : List (List (List ℕ))). ts) (take line.children (forest_texts lines))) =
    below-texts label (all_items trees)
    ∙ ap (λ (texts : List (List (List ℕ))). map (λ (t : List (List ℕ)). label ∷ t) texts)
    (all-texts trees
    ∙ ap (λ (texts : List (List (List (List ℕ)))). flat_map (λ (ts : List (List (List ℕ))). ts) texts)
    (map-take texts_of line.children (forest_items lines) ∙ ap (take line.children) (forest-texts lines))) in
    let rest = map-drop texts_of line.children (forest_items lines) ∙ ap (drop line.children) (forest-texts lines) in
    ap (λ (texts : List (List (List ℕ))). ((label ∷ []) ∷ texts)
    ∷ map texts_of (drop line.children (forest_items lines))) first
    ∙ ap (λ (texts : List (List (List (List ℕ)))). under (take line.children (forest_texts lines)) ∷ texts) rest

-- Then the fronts of a whole tree, in the order of its lines.

-- what the texts of the lines below a front's go on with, down to so many texts more
under : ℕ → Scale → List Costed → List (List ℕ) → List (List (List ℕ))
under zero scale stacks front = [] ∷ []
under (suc more) scale stacks front =
    []
    ∷ flat_map
    (λ (next : List (List ℕ)). map (λ (texts : List (List ℕ)). shown (label_of next) ∷ texts)
    (under more scale stacks next))
    (kept_fronts scale stacks front)

-- a front, and those below it that cost something, down to so many texts more
walk : ℕ → Scale → List Costed → List (List ℕ) → List (List (List ℕ))
walk zero scale stacks front = front ∷ []
walk (suc more) scale stacks front = front ∷ flat_map (walk more scale stacks) (kept_fronts scale stacks front)

-- the lines of a front, where no places are gathered
lines-whole : (more : ℕ) (scale : Scale) (stacks : List Costed) (front : List (List ℕ)) → scale.threshold ≡ 0
    → front_lines (suc more) scale stacks front
    ≡ front_line (length (kept_fronts scale stacks front)) stacks front
    ∷ flat_map (front_lines more scale stacks) (kept_fronts scale stacks front)
unfolding front_lines gathered_lines
lines-whole more scale stacks front all =
    let kept : List (List (List ℕ)) = kept_fronts scale stacks front in
    let lines : List FrontLine → List FrontLine =
    λ few. front_line (length kept + length few) stacks front
    ∷ (flat_map (front_lines more scale stacks) kept ++ few) in
    ap (λ (small : List (List (List ℕ))). lines (gathered_lines stacks (length front + 1) small))
    (small-none scale stacks front all)
    ∙ ap (λ (n : ℕ). front_line n stacks front ∷ (flat_map (front_lines more scale stacks) kept ++ []))
    (let none : length kept + 0 ≡ length kept = omega arith in none)
    ∙ ap (λ (rest : List FrontLine). front_line (length kept) stacks front ∷ rest)
    (append-nil (flat_map (front_lines more scale stacks) kept))

-- the lines of the file
abbrev file_lines : ℕ → ℕ → Scale → List Costed → List (List ℕ) → List TreeLine
file_lines threshold more scale stacks front = map (massif_line threshold) (front_lines more scale stacks front)

-- the texts that a tree of a front has
abbrev below_front : ℕ → Scale → List Costed → List (List ℕ) → List (List (List ℕ))
below_front more scale stacks front =
    map (λ (texts : List (List ℕ)). shown (label_of front) ∷ texts) (under more scale stacks front)

-- trees side by side, before others
beside : (threshold more : ℕ) (scale : Scale) (stacks : List Costed) (fronts : List (List (List ℕ)))
    (rest : List TreeLine)
    → ((front : List (List ℕ)) (others : List TreeLine)
    → forest_texts (file_lines threshold more scale stacks front ++ others)
    ≡ below_front more scale stacks front ∷ forest_texts others)
    → forest_texts (map (massif_line threshold) (flat_map (front_lines more scale stacks) fronts) ++ rest)
    ≡ map (below_front more scale stacks) fronts ++ forest_texts rest
beside threshold more scale stacks [] rest one = refl
beside threshold more scale stacks (front ∷ fronts) rest one =
    let M : List FrontLine → List TreeLine = λ ls. map (massif_line threshold) ls in
    let later : List FrontLine = flat_map (front_lines more scale stacks) fronts in
    ap (λ (ls : List TreeLine). forest_texts (ls ++ rest))
    (map-append (massif_line threshold) (front_lines more scale stacks front) later)
    ∙ ap forest_texts (append_assoc (M (front_lines more scale stacks front)) (M later) rest)
    ∙ one front (M later ++ rest)
    ∙ ap (λ (trees : List (List (List (List ℕ)))). below_front more scale stacks front ∷ trees)
    (beside threshold more scale stacks fronts rest one)

take-none : {X : Type 0} (xs : List X) → take 0 xs ≡ []
take-none [] = refl
take-none (x ∷ xs) = refl

drop-none : {X : Type 0} (xs : List X) → drop 0 xs ≡ xs
drop-none [] = refl
drop-none (x ∷ xs) = refl

take-front : {X : Type 0} (xs ys : List X) → take (length xs) (xs ++ ys) ≡ xs
take-front [] ys = take-none ys
take-front {X} (x ∷ xs) ys = ap (λ (zs : List X). x ∷ zs) (take-front xs ys)

drop-front : {X : Type 0} (xs ys : List X) → drop (length xs) (xs ++ ys) ≡ ys
drop-front [] ys = drop-none ys
drop-front (x ∷ xs) ys = drop-front xs ys

flat-same : {X A : Type 0} (f : X → List A) (xs : List X) → flat_map (λ (ys : List A). ys) (map f xs) ≡ flat_map f xs
flat-same f [] = refl
flat-same {X} {A} f (x ∷ xs) = ap (λ (rest : List A). f x ++ rest) (flat-same f xs)

-- the texts of a line with so many children, before the texts of the lines that follow
abbrev with_line : List ℕ → ℕ → List (List (List (List ℕ))) → List (List (List (List ℕ)))
with_line label children later =
    ((label ∷ [])
    ∷ map (λ (texts : List (List ℕ)). label ∷ texts)
    (flat_map (λ (trees : List (List (List ℕ))). trees) (take children later)))
    ∷ drop children later

line-texts : (line : TreeLine) (lines : List TreeLine)
    → forest_texts (line ∷ lines) ≡ with_line (shown line.label) line.children (forest_texts lines)
unfolding forest_texts
line-texts line lines = refl

-- as many trees as it has children go below it
with_line-front : (label : List ℕ) (children : ℕ) (trees later : List (List (List (List ℕ)))) → length trees ≡ children
    → with_line label children (trees ++ later)
    ≡ ((label ∷ [])
    ∷ map (λ (texts : List (List ℕ)). label ∷ texts) (flat_map (λ (ts : List (List (List ℕ))). ts) trees))
    ∷ later
with_line-front label children trees later count =
    ap (λ (n : ℕ). with_line label n (trees ++ later)) (sym count)
    ∙ ap (λ (first : List (List (List (List ℕ)))). ((label ∷ [])
    ∷ map (λ (texts : List (List ℕ)). label ∷ texts) (flat_map (λ (ts : List (List (List ℕ))). ts) first))
    ∷ drop (length trees) (trees ++ later)) (take-front
    trees later)
    ∙ ap (λ (rest : List (List (List (List ℕ)))). ((label ∷ [])
    ∷ map (λ (texts : List (List ℕ)). label ∷ texts) (flat_map (λ (ts : List (List (List ℕ))). ts) trees))
    ∷ rest) (drop-front
    trees later)

lines-none : (scale : Scale) (stacks : List Costed) (front : List (List ℕ))
    → front_lines 0 scale stacks front ≡ front_line 0 stacks front ∷ []
unfolding front_lines
lines-none scale stacks front = refl

-- the tree of a front has the texts under it
tree-texts : (threshold more : ℕ) (scale : Scale) (stacks : List Costed) → scale.threshold ≡ 0
    → (front : List (List ℕ)) (rest : List TreeLine)
    → forest_texts (file_lines threshold more scale stacks front ++ rest)
    ≡ below_front more scale stacks front ∷ forest_texts rest
unfolding under
tree-texts threshold zero scale stacks all front rest =
    ap (λ (ls : List FrontLine). forest_texts (map (massif_line threshold) ls ++ rest)) (lines-none scale stacks front)
    ∙ line-texts (massif_line threshold (front_line 0 stacks front)) rest
    ∙ with_line-front (shown (label_of front)) 0 [] (forest_texts rest) refl
tree-texts threshold (suc more) scale stacks all front rest =
    let kept : List (List (List ℕ)) = kept_fronts scale stacks front in
    let label : List ℕ = shown (label_of front) in
    let later : List TreeLine = map (massif_line threshold) (flat_map (front_lines more scale stacks) kept) ++ rest in
    ap (λ (ls : List FrontLine). forest_texts (map (massif_line threshold) ls ++ rest))
    (lines-whole more scale stacks front all)
    ∙ line-texts (massif_line threshold (front_line (length kept) stacks front)) later
    ∙ ap (with_line label (length kept))
    (beside threshold more scale stacks kept rest (tree-texts threshold more scale stacks all))
    ∙ with_line-front label (length kept) (map (below_front more scale stacks) kept) (forest_texts rest)
    (length-map kept (below_front more scale stacks))
    ∙ ap (λ (texts : List (List (List ℕ))). ((label ∷ []) ∷ map (λ (t : List (List ℕ)). label ∷ t) texts)
    ∷ forest_texts rest) (flat-same
    (below_front more scale stacks) kept)

-- What goes on from a front, behind it, is the walk.

-- the texts of the stacks are shown as they are
abbrev AreShown : List Costed → Type 0
AreShown stacks = All (λ (stack : Costed). All (λ (text : List ℕ). shown text ≡ text) stack.texts) stacks

-- a front one text longer, by its label
abbrev IsLabelled : List (List ℕ) → List (List ℕ) → Type 0
IsLabelled front next = next ≡ front ++ shown (label_of next) ∷ []

labelled : (front next : List (List ℕ)) → next ≡ front ++ last_of next ∷ []
    → All (λ (text : List ℕ). shown text ≡ text) next → IsLabelled front next
labelled front [] is texts =
    absurd (let count = ap (λ (xs : List (List ℕ)). length xs) is in let more = length_push front (last_of []) in omega
    arith)
labelled front (text ∷ more) is texts =
    is ∙ ap (λ (last : List ℕ). front ++ last ∷ []) (sym (texts (length (text ∷ more) - 1) [] (omega arith)))

both-all : {X : Type 0} (P Q R : X → Type 0) (xs : List X) → ((x : X) → P x → Q x → R x) → All P xs → All Q xs
    → All R xs
both-all P Q R xs f p q = λ k d within. f (get_or xs k d) (p k d within) (q k d within)

kept-labelled : (scale : Scale) (stacks : List Costed) (front : List (List ℕ)) → scale.threshold ≡ 0 → AreShown stacks
    → All (IsLabelled front) (kept_fronts scale stacks front)
kept-labelled scale stacks front all texts =
    both-all (λ (next : List (List ℕ)). next ≡ front ++ last_of next ∷ []) (All (λ (text : List ℕ). shown text ≡ text))
    (IsLabelled front) (kept_fronts scale stacks front) (labelled front)
    (kept-next scale stacks front all)
    (kept-all (All (λ (text : List ℕ). shown text ≡ text)) scale stacks front
    (next-texts (λ (text : List ℕ). shown text ≡ text) front stacks texts))

onto : (front next : List (List ℕ)) (label : List ℕ) → next ≡ front ++ label ∷ [] → (ts : List (List (List ℕ)))
    → map (λ (t : List (List ℕ)). front ++ t) (map (λ (t : List (List ℕ)). label ∷ t) ts)
    ≡ map (λ (t : List (List ℕ)). next ++ t) ts
onto front next label is [] = refl
onto front next label is (t ∷ ts) =
    ap (λ (x : List (List ℕ)). x ∷ map (λ (u : List (List ℕ)). front ++ u) (map (λ (u : List (List ℕ)). label ∷ u) ts))
    (sym (append_assoc front (label ∷ []) t) ∙ ap (λ (xs : List (List ℕ)). xs ++ t) (sym is))
    ∙ ap (λ (rest : List (List (List ℕ))). (next ++ t) ∷ rest) (onto front next label is ts)

-- those below each longer front
walks-under : (more : ℕ) (scale : Scale) (stacks : List Costed) (front : List (List ℕ))
    → ((next : List (List ℕ))
    → map (λ (t : List (List ℕ)). next ++ t) (under more scale stacks next) ≡ walk more scale stacks next)
    → (fronts : List (List (List ℕ))) → All (IsLabelled front) fronts
    → map (λ (t : List (List ℕ)). front ++ t) (flat_map (below_front more scale stacks) fronts)
    ≡ flat_map (walk more scale stacks) fronts
walks-under more scale stacks front one [] are = refl
walks-under more scale stacks front one (next ∷ fronts) are =
    map-append (λ (t : List (List ℕ)). front ++ t) (below_front more scale stacks next)
    (flat_map (below_front more scale stacks) fronts)
    ∙ ap (λ (first : List (List (List ℕ))). first
    ++ map (λ (t : List (List ℕ)). front ++ t) (flat_map (below_front more scale stacks) fronts))
    (onto front next (shown (label_of next)) (All-head (IsLabelled front) next fronts are)
    (under more scale stacks next)
    ∙ one next)
    ∙ ap (λ (rest : List (List (List ℕ))). walk more scale stacks next ++ rest)
    (walks-under more scale stacks front one fronts (All-tail (IsLabelled front) next fronts are))

walk-under : (more : ℕ) (scale : Scale) (stacks : List Costed) → scale.threshold ≡ 0 → AreShown stacks
    → (front : List (List ℕ))
    → map (λ (t : List (List ℕ)). front ++ t) (under more scale stacks front) ≡ walk more scale stacks front
unfolding under walk
walk-under zero scale stacks all texts front = ap (λ (x : List (List ℕ)). x ∷ []) (append-nil front)
walk-under (suc more) scale stacks all texts front =
    ap (λ (x : List (List ℕ)). x
    ∷ map (λ (t : List (List ℕ)). front ++ t)
    (flat_map (below_front more scale stacks) (kept_fronts scale stacks front)))
    (append-nil
    front)
    ∙ ap (λ (rest : List (List (List ℕ))). front ∷ rest)
    (walks-under more scale stacks front (walk-under more scale stacks all texts) (kept_fronts scale stacks front)
    (kept-labelled scale stacks front all texts))

drop-label : (label : List ℕ) (ts : List (List (List ℕ)))
    → map (λ (texts : List (List ℕ)). drop 1 texts) (map (λ (texts : List (List ℕ)). label ∷ texts) ts) ≡ ts
drop-label label [] = refl
drop-label label (t ∷ ts) =
    ap (λ (x : List (List ℕ)). x
    ∷ map (λ (texts : List (List ℕ)). drop 1 texts) (map (λ (texts : List (List ℕ)). label ∷ texts) ts))
    (drop-none
    t)
    ∙ ap (λ (rest : List (List (List ℕ))). t ∷ rest) (drop-label label ts)

map-itself : (ts : List (List (List ℕ))) → map (λ (t : List (List ℕ)). [] ++ t) ts ≡ ts
map-itself [] = refl
map-itself (t ∷ ts) = ap (λ (rest : List (List (List ℕ))). t ∷ rest) (map-itself ts)

-- the fronts of the lines are those of the walk
fronts-walk : (threshold more : ℕ) (scale : Scale) (stacks : List Costed) → scale.threshold ≡ 0 → AreShown stacks
    → line_fronts (file_lines threshold more scale stacks []) ≡ walk more scale stacks []
unfolding tree_items forest_texts
fronts-walk threshold more scale stacks all texts =
    let lines : List TreeLine = file_lines threshold more scale stacks [] in
    let cut : List (List (List ℕ)) → List (List (List ℕ)) = λ ts. map (λ (t : List (List ℕ)). drop 1 t) ts in
    let whole : forest_texts lines ≡ below_front more scale stacks [] ∷ [] =
    ap forest_texts (sym (append-nil lines)) ∙ tree-texts threshold more scale stacks all [] [] in
    without_root-texts (all_items (forest_items lines))
    ∙ ap cut (all-texts (forest_items lines)
    ∙ ap (λ (trees : List (List (List (List ℕ)))). flat_map (λ (ts : List (List (List ℕ))). ts) trees)
    (forest-texts lines ∙ whole)
    ∙ append-nil (below_front more scale stacks []))
    ∙ drop-label (shown (label_of [])) (under more scale stacks [])
    ∙ sym (map-itself (under more scale stacks []))
    ∙ walk-under more scale stacks all texts []

-- What each line says.

abbrev by_shown : Shown → List (List ℕ)
by_shown (a_front front) = front
by_shown (gathered places) = []

abbrev front_in : FrontLine → List (List ℕ)
front_in line = by_shown line.shown

map-flat : {X A B : Type 0} (f : A → B) (g : X → List A) (h : X → List B) (xs : List X) → ((x : X) → map f (g x) ≡ h x)
    → map f (flat_map g xs) ≡ flat_map h xs
map-flat f g h [] each = refl
map-flat {X} {A} {B} f g h (x ∷ xs) each =
    map-append f (g x) (flat_map g xs) ∙ ap (λ (first : List B). first ++ map f (flat_map g xs)) (each x)
    ∙ ap (λ (rest : List B). h x ++ rest) (map-flat f g h xs each)

lines-walk : (more : ℕ) (scale : Scale) (stacks : List Costed) → scale.threshold ≡ 0 → (front : List (List ℕ))
    → map front_in (front_lines more scale stacks front) ≡ walk more scale stacks front
unfolding walk
lines-walk zero scale stacks all front = ap (map front_in) (lines-none scale stacks front)
lines-walk (suc more) scale stacks all front =
    ap (map front_in) (lines-whole more scale stacks front all)
    ∙ ap (λ (rest : List (List (List ℕ))). front ∷ rest)
    (map-flat front_in (front_lines more scale stacks) (walk more scale stacks) (kept_fronts scale stacks front)
    (lines-walk more scale stacks all))

abbrev HasSum : List Costed → FrontLine → Type 0
HasSum stacks line = line.cost ≡ inclusive (front_in line) stacks

lines-sum : (more : ℕ) (scale : Scale) (stacks : List Costed) → scale.threshold ≡ 0 → (front : List (List ℕ))
    → All (HasSum stacks) (front_lines more scale stacks front)
lines-sum zero scale stacks all front =
    subst (All (HasSum stacks)) (sym (lines-none scale stacks front))
    (All-cons (HasSum stacks) (front_line 0 stacks front) [] refl (All-nil (HasSum stacks)))
lines-sum (suc more) scale stacks all front =
    let kept : List (List (List ℕ)) = kept_fronts scale stacks front in
    subst (All (HasSum stacks)) (sym (lines-whole more scale stacks front all))
    (All-cons (HasSum stacks) (front_line (length kept) stacks front) (flat_map (front_lines more scale stacks) kept)
    refl
    (All-flat (HasSum stacks) (front_lines more scale stacks) kept
    (λ k d within. lines-sum more scale stacks all (get_or kept k d))))

-- Which fronts the walk has.

walk-suc : (more : ℕ) (scale : Scale) (stacks : List Costed) (front : List (List ℕ))
    → walk (suc more) scale stacks front ≡ front ∷ flat_map (walk more scale stacks) (kept_fronts scale stacks front)
unfolding walk
walk-suc more scale stacks front = refl

walk-zero : (scale : Scale) (stacks : List Costed) (front : List (List ℕ)) → walk 0 scale stacks front ≡ front ∷ []
unfolding walk
walk-zero scale stacks front = refl

-- what holds of a front, and of all below each longer one, holds of the walk
walk-all : (P : List (List ℕ) → Type 0) (more : ℕ) (scale : Scale) (stacks : List Costed) (front : List (List ℕ))
    → P front → All (λ (next : List (List ℕ)). All P (walk more scale stacks next)) (kept_fronts scale stacks front)
    → All P (walk (suc more) scale stacks front)
walk-all P more scale stacks front here rest =
    subst (All P) (sym (walk-suc more scale stacks front))
    (All-cons P front (flat_map (walk more scale stacks) (kept_fronts scale stacks front)) here
    (All-flat P (walk more scale stacks) (kept_fronts scale stacks front) rest))

walk-one : (P : List (List ℕ) → Type 0) (scale : Scale) (stacks : List Costed) (front : List (List ℕ)) → P front
    → All P (walk 0 scale stacks front)
walk-one P scale stacks front here =
    subst (All P) (sym (walk-zero scale stacks front)) (All-cons P front [] here (All-nil P))

next-length : (front next : List (List ℕ)) → next ≡ front ++ last_of next ∷ [] → length next ≡ length front + 1
next-length front next is = ap (λ (xs : List (List ℕ)). length xs) is ∙ length_push front (last_of next)

walk-short : (more : ℕ) (scale : Scale) (stacks : List Costed) → scale.threshold ≡ 0 → (front : List (List ℕ))
    → All (λ (g : List (List ℕ)). length g ≤ length front + more) (walk more scale stacks front)
walk-short zero scale stacks all front =
    walk-one (λ (g : List (List ℕ)). length g ≤ length front + 0) scale stacks front (omega arith)
walk-short (suc more) scale stacks all front =
    walk-all (λ (g : List (List ℕ)). length g ≤ length front + suc more) more scale stacks front (omega arith)
    (All-weaker (λ (next : List (List ℕ)). next ≡ front ++ last_of next ∷ [])
    (λ (next : List (List ℕ)). All (λ (g : List (List ℕ)). length g ≤ length front + suc more)
    (walk more scale stacks next))
    (λ next is.
    (let long = next-length front next is in
    All-weaker (λ (g : List (List ℕ)). length g ≤ length next + more)
    (λ (g : List (List ℕ)). length g ≤ length front + suc more) (λ g short. omega arith) (walk more scale stacks next)
    (walk-short more scale stacks all next)))
    (kept_fronts scale stacks front) (kept-next scale stacks front all))

-- a front that is the first one, or costs something
abbrev IsSome : List Costed → List (List ℕ) → List (List ℕ) → Type 0
IsSome stacks front g = (g ≡ front) ⊎ (0 < inclusive g stacks)

walk-some : (more : ℕ) (scale : Scale) (stacks : List Costed) → scale.threshold ≡ 0 → (front : List (List ℕ))
    → All (IsSome stacks front) (walk more scale stacks front)
walk-some zero scale stacks all front = walk-one (IsSome stacks front) scale stacks front (inl refl)
walk-some (suc more) scale stacks all front =
    walk-all (IsSome stacks front) more scale stacks front (inl refl)
    (All-weaker (λ (next : List (List ℕ)). 0 < inclusive next stacks)
    (λ (next : List (List ℕ)). All (IsSome stacks front) (walk more scale stacks next))
    (λ next some.
    All-weaker (IsSome stacks next) (IsSome stacks front)
    (λ g is. elim is [
      | inl same ↦ inr (subst (λ (x : List (List ℕ)). 0 < inclusive x stacks) (sym same) some)
      | inr costs ↦ inr costs
    ]) (walk more scale stacks next) (walk-some more scale stacks all next))
    (kept_fronts scale stacks front) (kept-some scale stacks front all))

walk-first : (more : ℕ) (scale : Scale) (stacks : List Costed) (front : List (List ℕ))
    → slice_get (walk more scale stacks front) 0 ≡ Some front
walk-first zero scale stacks front = ap (λ (xs : List (List (List ℕ))). slice_get xs 0) (walk-zero scale stacks front)
walk-first (suc more) scale stacks front =
    ap (λ (xs : List (List (List ℕ))). slice_get xs 0) (walk-suc more scale stacks front)

Contains-flat : {X A : Type 0} (f : X → List A) (xs : List X) (y : X) (a : A) → Contains xs y → Contains (f y) a
    → Contains (flat_map f xs) a
Contains-flat {X} {A} f xs y a held inside = at xs held.0 held.1 held.2
  where
    at : (zs : List X) (k : ℕ) → k < length zs → get_or zs k y ≡ y → Contains (flat_map f zs) a
    at [] k within is = absurd (omega arith)
    at (z ∷ zs) zero within is =
        Contains-append_left (f z) (flat_map f zs) a (subst (λ (x : X). Contains (f x) a) (sym is) inside)
    at (z ∷ zs) (suc k) within is = Contains-append_right (f z) (flat_map f zs) a (at zs k (omega arith) is)

-- each front that costs something is there
walk-held : (more : ℕ) (scale : Scale) (stacks : List Costed) → scale.threshold ≡ 0 → (front tail : List (List ℕ))
    → length tail ≤ more → 0 < inclusive (front ++ tail) stacks
    → Contains (walk more scale stacks front) (front ++ tail)
walk-held zero scale stacks all front [] short some =
    subst (λ (xs : List (List (List ℕ))). Contains xs (front ++ [])) (sym (walk-zero scale stacks front))
    (0, omega arith, sym (append-nil front))
walk-held zero scale stacks all front (text ∷ tail) short some = absurd (omega arith)
walk-held (suc more) scale stacks all front [] short some =
    subst (λ (xs : List (List (List ℕ))). Contains xs (front ++ [])) (sym (walk-suc more scale stacks front))
    (0, omega arith, sym (append-nil front))
walk-held (suc more) scale stacks all front (text ∷ tail) short some =
    let next : List (List ℕ) = front ++ text ∷ [] in
    let is : next ++ tail ≡ front ++ text ∷ tail = append_assoc front (text ∷ []) tail in
    let some_next : 0 < inclusive (next ++ tail) stacks =
    subst (λ (xs : List (List ℕ)). 0 < inclusive xs stacks) (sym is) some in
    let most = inclusive-longer next tail stacks in
    let there = kept-held scale stacks front next text all refl (omega arith) in
    let held =
    Contains-flat (walk more scale stacks) (kept_fronts scale stacks front) next (next ++ tail) there
    (walk-held more scale stacks all next tail (omega arith) some_next) in
    subst (λ (xs : List (List (List ℕ))). Contains xs (front ++ text ∷ tail)) (sym (walk-suc more scale stacks front))
    (Contains-append_right (front ∷ []) (flat_map (walk more scale stacks) (kept_fronts scale stacks front))
    (front ++ text ∷ tail)
    (subst (λ (x : List (List ℕ)). Contains (flat_map (walk more scale stacks) (kept_fronts scale stacks front)) x) is
    held))

-- No front is there twice.

abbrev Once : {X : Type 0} → List X → Type 0
Once [] = Unit {0}
Once (x ∷ xs) = ¬ Contains xs x × Once xs

once-append : {X : Type 0} (xs ys : List X) → Once xs → Once ys → ((x : X) → Contains xs x → Contains ys x → ⊥)
    → Once (xs ++ ys)
once-append [] ys first second apart = second
once-append (x ∷ xs) ys first second apart = (
  λ held. elim (Contains-append_cases xs ys x held) [
    | inl early ↦ first.0 early
    | inr late ↦ apart x (0, omega arith, refl) late
  ],
  once-append xs ys first.1 second (λ y here there. apart y (Contains-append_right (x ∷ []) xs y here) there),
)

-- an element of lists side by side is one of them
in_flat : {X A : Type 0} (f : X → List A) (xs : List X) (a : A) → Contains (flat_map f xs) a
    → (y : X) × Contains xs y × Contains (f y) a
in_flat f [] a held = absurd (let within = held.1 in omega arith)
in_flat f (x ∷ xs) a held = elim (Contains-append_cases (f x) (flat_map f xs) a held) [
  | inl here ↦ (x, (0, omega arith, refl), here)
  | inr later ↦
      (let found = in_flat f xs a later in (found.0, Contains-append_right (x ∷ []) xs found.0 found.1, found.2))
]

once-flat : {X A : Type 0} (f : X → List A) (xs : List X) → Once xs → All (λ (x : X). Once (f x)) xs
    → ((x y : X) (a : A) → Contains xs x → Contains xs y → Contains (f x) a → Contains (f y) a → x ≡ y)
    → Once (flat_map f xs)
once-flat f [] once each same = tt
once-flat {X} f (x ∷ xs) once each same =
    once-append (f x) (flat_map f xs) (All-head (λ y. Once (f y)) x xs each)
    (once-flat f xs once.1 (All-tail (λ y. Once (f y)) x xs each)
    (λ y z a here there. same y z a (Contains-append_right (x ∷ []) xs y here)
    (Contains-append_right (x ∷ []) xs z there)))
    (λ a here later.
    (let found = in_flat f xs a later in
    let is = same x found.0 a (0, omega arith, refl) (Contains-append_right (x ∷ []) xs found.0 found.1) here found.2 in
    once.0 (subst (λ (y : X). Contains xs y) (sym is) found.1)))

once-apart : {X : Type 0} (xs : List X) → AllPairs (λ earlier later. earlier ≢ later) xs → Once xs
once-apart [] apart = tt
once-apart (x ∷ xs) apart = (
  λ held. apart 0 (suc held.0) x (omega arith) (let within = held.1 in omega arith) (sym held.2),
  once-apart xs (λ i j d before within. apart (suc i) (suc j) d (omega arith) (omega arith)),
)

once-at : {X : Type 0} (xs : List X) (m n : ℕ) (x : X) → Once xs → slice_get xs m ≡ Some x → slice_get xs n ≡ Some x
    → m ≡ n
once-at [] m n x once here there = absurd (let within = slice_get_within [] m x here in omega arith)
once-at (y ∷ xs) zero zero x once here there = refl
once-at (y ∷ xs) zero (suc n) x once here there =
    (let is : y ≡ x = get_or_from_slice_get (y ∷ xs) 0 x y here in
    absurd (once.0 (n, slice_get_within xs n x there, get_or_from_slice_get xs n x y there ∙ sym is)))
once-at (y ∷ xs) (suc m) zero x once here there =
    (let is : y ≡ x = get_or_from_slice_get (y ∷ xs) 0 x y there in
    absurd (once.0 (m, slice_get_within xs m x here, get_or_from_slice_get xs m x y here ∙ sym is)))
once-at (y ∷ xs) (suc m) (suc n) x once here there = ap suc (once-at xs m n x once.1 here there)

-- each front of a walk begins with the first one
abbrev Begins : List (List ℕ) → List (List ℕ) → Type 0
Begins front g = take (length front) g ≡ front

begins-shorter : (front next g : List (List ℕ)) → next ≡ front ++ last_of next ∷ [] → Begins next g → Begins front g
begins-shorter front next g is begins =
    let long = next-length front next is in
    sym (take-take (length front) (length next) g (omega arith))
    ∙ ap (λ (xs : List (List ℕ)). take (length front) xs) (begins ∙ is)
    ∙ take-append-le (length front) front (last_of next ∷ []) (omega arith)
    ∙ take_all (length front) front (omega arith)

walk-begins : (more : ℕ) (scale : Scale) (stacks : List Costed) → scale.threshold ≡ 0 → (front : List (List ℕ))
    → All (Begins front) (walk more scale stacks front)
walk-begins zero scale stacks all front =
    walk-one (Begins front) scale stacks front (take_all (length front) front (omega arith))
walk-begins (suc more) scale stacks all front =
    walk-all (Begins front) more scale stacks front (take_all (length front) front (omega arith))
    (All-weaker (λ (next : List (List ℕ)). next ≡ front ++ last_of next ∷ [])
    (λ (next : List (List ℕ)). All (Begins front) (walk more scale stacks next))
    (λ next is. All-weaker (Begins next) (Begins front) (λ g begins. begins-shorter front next g is begins)
    (walk more scale stacks next) (walk-begins more scale stacks all next))
    (kept_fronts scale stacks front) (kept-next scale stacks front all))

of-all : {X : Type 0} (P : X → Type 0) (xs : List X) (x : X) → All P xs → Contains xs x → P x
of-all {X} P xs x all held = subst P held.2 (all held.0 x held.1)

walk-once : (more : ℕ) (scale : Scale) (stacks : List Costed) → scale.threshold ≡ 0 → (front : List (List ℕ))
    → Once (walk more scale stacks front)
walk-once zero scale stacks all front =
    subst Once (sym (walk-zero scale stacks front)) ((λ held. let within = held.1 in omega arith), tt)
walk-once (suc more) scale stacks all front =
    subst Once (sym (walk-suc more scale stacks front)) (
      first,
      once-flat (walk more scale stacks) kept (once-apart kept (kept-apart scale stacks front all))
          (λ k d within. walk-once more scale stacks all (get_or kept k d)) same,
    )
  where
    kept : List (List (List ℕ))
    kept = kept_fronts scale stacks front

    first : Contains (flat_map (walk more scale stacks) (kept_fronts scale stacks front)) front → ⊥
    first held =
        let found = in_flat (walk more scale stacks) (kept_fronts scale stacks front) front held in
        let long =
        next-length front found.0
        (of-all (λ (next : List (List ℕ)). next ≡ front ++ last_of next ∷ []) (kept_fronts scale stacks front)
        found.0 (kept-next scale stacks front all) found.1) in
        let begins =
        of-all (Begins found.0) (walk more scale stacks found.0) front (walk-begins more scale stacks all found.0)
        found.2 in
        let cut = length-take (length found.0) front in
        let count = ap (λ (xs : List (List ℕ)). length xs) begins in
        omega arith

    same : (x y g : List (List ℕ)) → Contains (kept_fronts scale stacks front) x
        → Contains (kept_fronts scale stacks front) y → Contains (walk more scale stacks x) g
        → Contains (walk more scale stacks y) g → x ≡ y
    same x y g held_x held_y in_x in_y =
        let long_x =
        next-length front x
        (of-all (λ (next : List (List ℕ)). next ≡ front ++ last_of next ∷ []) (kept_fronts scale stacks front) x
        (kept-next scale stacks front all) held_x) in
        let long_y =
        next-length front y
        (of-all (λ (next : List (List ℕ)). next ≡ front ++ last_of next ∷ []) (kept_fronts scale stacks front) y
        (kept-next scale stacks front all) held_y) in
        sym (of-all (Begins x) (walk more scale stacks x) g (walk-begins more scale stacks all x) in_x)
        ∙ ap (λ (n : ℕ). take n g) (long_x ∙ sym long_y)
        ∙ of-all (Begins y) (walk more scale stacks y) g (walk-begins more scale stacks all y) in_y

-- All of it.

no_line : FrontLine
no_line = record { level = 0; children = 0; cost = 0; shown = gathered 0 }

no_tree_line : TreeLine
no_tree_line = record { children = 0; bytes = 0; label = [] }

sums-of : (threshold more : ℕ) (scale : Scale) (stacks : List Costed) → scale.threshold ≡ 0 → AreShown stacks
    → AreTreeSums more stacks (file_lines threshold more scale stacks [])
sums-of threshold more scale stacks all texts = record {
  count =
      ap (λ (xs : List (List (List ℕ))). length xs) (are ∙ sym (lines-walk more scale stacks all []))
      ∙ length-map made front_in ∙ sym (length-map made (massif_line threshold));
  sum = λ n front line at beside.
      (let within = slice_get_within lines n line beside in
      let long = length-map made (massif_line threshold) in
      let inside : n < length made = omega arith in
      let line_is : massif_line threshold (get_or made n no_line) ≡ line =
      sym (get_or-map (massif_line threshold) made n no_line no_tree_line inside)
      ∙ get_or_from_slice_get lines n line no_tree_line beside in
      let front_is : front_in (get_or made n no_line) ≡ front =
      sym (get_or-map front_in made n no_line [] inside)
      ∙ ap (λ (xs : List (List (List ℕ))). get_or xs n []) (lines-walk more scale stacks all [] ∙ sym are)
      ∙ get_or_from_slice_get (line_fronts lines) n front [] at in
      sym (ap (λ (l : TreeLine). l.bytes) line_is) ∙ lines-sum more scale stacks all [] n no_line inside
      ∙ ap (λ (f : List (List ℕ)). inclusive f stacks) front_is);
  short =
      λ n front at. (let most = of-all (λ (g : List (List ℕ)). length g ≤ 0 + more) (walk more scale stacks []) front
      (walk-short more scale stacks all []) (walked n front at) in omega arith);
  more_than_0 =
      λ n front at some. elim
      (of-all (IsSome stacks []) (walk more scale stacks []) front (walk-some more scale stacks all [])
      (walked n front at)) [
        | inl root ↦ absurd (some root)
        | inr costs ↦ costs
      ];
  root = ap (λ (xs : List (List (List ℕ))). slice_get xs 0) are ∙ walk-first more scale stacks [];
  all = λ front short some.
      (let held = walk-held more scale stacks all [] front short some in (
        held.0,
        ap (λ (xs : List (List (List ℕ))). slice_get xs held.0) are
            ∙ slice_get-get_or (walk more scale stacks []) held.0 front held.1
            ∙ ap (λ (x : List (List ℕ)). Some x) held.2,
      ));
  once =
      λ m n front here there. once-at (walk more scale stacks []) m n front (walk-once more scale stacks all [])
      (at_walk m front here) (at_walk n front there);
}
  where
    lines : List TreeLine
    lines = file_lines threshold more scale stacks []

    made : List FrontLine
    made = front_lines more scale stacks []

    are : line_fronts (file_lines threshold more scale stacks []) ≡ walk more scale stacks []
    are = fronts-walk threshold more scale stacks all texts

    at_walk : (n : ℕ) (front : List (List ℕ))
        → slice_get (line_fronts (file_lines threshold more scale stacks [])) n ≡ Some front
        → slice_get (walk more scale stacks []) n ≡ Some front
    at_walk n front at = sym (ap (λ (xs : List (List (List ℕ))). slice_get xs n) are) ∙ at

    walked : (n : ℕ) (front : List (List ℕ))
        → slice_get (line_fronts (file_lines threshold more scale stacks [])) n ≡ Some front
        → Contains (walk more scale stacks []) front
    walked n front at = (
      n,
      slice_get_within (walk more scale stacks []) n front (at_walk n front at),
      get_or_from_slice_get (walk more scale stacks []) n front front (at_walk n front at),
    )

-- the tree of any options without a threshold
options-sums : (options : TreeOptions) (total : ℕ) (stacks : List Costed) → options.threshold ≡ 0 → AreShown stacks
    → AreTreeSums options.depth stacks (massif_tree options total stacks)
unfolding massif_tree cost_lines
options-sums options total stacks all texts =
    sums-of options.threshold options.depth (scale_of options total) stacks all texts

-- the whole tree of stacks whose texts are shown ones has the sums of its fronts
pub tree-sums : (total : ℕ) (stacks : List Costed)
    → All (λ (stack : Costed). All (λ (text : List ℕ). shown text ≡ text) stack.texts) stacks
    → AreTreeSums 200 stacks (massif_tree whole_tree total stacks)
tree-sums total stacks texts = options-sums whole_tree total stacks refl texts
