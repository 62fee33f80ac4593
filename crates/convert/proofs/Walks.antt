-- Lemmas on the items of a tree, as its lines are walked.
use Rattle.std.proofs.Common.{◌≡◌, ℕ, zero, suc, ◌+◌, ◌-◌, ◌<◌, ◌≤◌, List, [], ◌∷◌, ◌++◌, length, map, drop, take}
use Rattle.std.proofs.Common.{get_or, reverse, Some, refl, sym, ap, ◌∙◌, subst, arith, append_assoc}
use Rattle.std.specs.Prelude.{All, slice_get, sum, sum_by}
use Rattle.std.specs.Option.{option_map}
use Rattle.std.proofs.lemmas.Grind.{flat_map-append}
use Rattle.std.proofs.lemmas.List.{drop-map, length-map, map-append, reverse-append, reverse-reverse, take-append-drop}
use Rattle.std.proofs.lemmas.List.Elements.{All-cons, All-drop, All-head, All-map, All-nil, All-push, All-tail}
use Rattle.std.proofs.lemmas.List.Sums.{sum_by-cons}
use Rattle.std.proofs.lemmas.Option.{get_or_from_slice_get, none-some, same_Some, slice_get-get_or, slice_get-map}
use Rattle.cost_tree.specs.Costed.{Costed}
use Rattle.dhat_json.specs.Shown.{shown}
use Rattle.massif_file.specs.TreeLine.{TreeLine}
use Rattle.convert.specs.declared.path.Level.{Level}
use Rattle.convert.specs.Levels.{entered, if_open, items_left, left_in, level_at, one_less, path_of, under}
use Rattle.convert.specs.Levels.{without_done}
use Rattle.cost_tree.specs.Texts.{IsText, text_of, texts_of}
use Rattle.dhat_view.specs.Numbers.{AreNumbers}
use Rattle.convert.specs.TreeItems.{all_items, below, forest_items, left_bytes, tree_items, without_root}
use Rattle.convert.proofs.PointItems.{items-within}

-- items of trees, some and the others
all-parted : (n : ℕ) (trees : List (List Costed))
    → all_items trees ≡ all_items (take n trees) ++ all_items (drop n trees)
all-parted n trees =
    ap all_items (sym (take-append-drop n trees)) ∙ flat_map-append (λ items. items) (take n trees) (drop n trees)

-- there is an item for each line, with what its children leave
costs-below : (text : List ℕ) (items : List Costed)
    → map (λ (item : Costed). item.cost) (map (below text) items) ≡ map (λ (item : Costed). item.cost) items
costs-below text [] = refl
costs-below text (item ∷ items) = ap (λ (ns : List ℕ). item.cost ∷ ns) (costs-below text items)

costs-of-all : (lines : List TreeLine)
    → map (λ (item : Costed). item.cost) (all_items (forest_items lines)) ≡ left_in lines
unfolding forest_items left_in
costs-of-all [] = refl
costs-of-all (line ∷ lines) =
    let inside : List Costed = all_items (take line.children (forest_items lines)) in
    let beside : List Costed = all_items (drop line.children (forest_items lines)) in
    let cost : Costed → ℕ = λ item. item.cost in
    ap (λ (ns : List ℕ). left_bytes line lines ∷ ns) (
    map-append cost (map (below (shown line.label)) inside) beside
    ∙ ap (λ (ns : List ℕ). ns ++ map cost beside) (costs-below (shown line.label) inside)
    ∙ sym (map-append cost inside beside)
    ∙ ap (λ (items : List Costed). map cost items) (sym (all-parted line.children (forest_items lines)))
    ∙ costs-of-all lines)

costs-without_root : (items : List Costed)
    → map (λ (item : Costed). item.cost) (map without_root items) ≡ map (λ (item : Costed). item.cost) items
costs-without_root [] = refl
costs-without_root (item ∷ items) = ap (λ (ns : List ℕ). item.cost ∷ ns) (costs-without_root items)

pub costs-of-tree : (lines : List TreeLine) → map (λ (item : Costed). item.cost) (tree_items lines) ≡ left_in lines
unfolding tree_items
costs-of-tree lines = costs-without_root (all_items (forest_items lines)) ∙ costs-of-all lines

sum-of-costs : (items : List Costed)
    → sum_by (λ (item : Costed). item.cost) items ≡ sum (map (λ (item : Costed). item.cost) items)
sum-of-costs [] = refl
sum-of-costs (item ∷ items) =
    let here = sum_by-cons (λ (i : Costed). i.cost) item items in
    let there = sum_by-cons (λ (n : ℕ). n) item.cost (map (λ (i : Costed). i.cost) items) in
    let rest = sum-of-costs items in
    omega arith

pub tree-sum : (lines : List TreeLine) → sum_by (λ (item : Costed). item.cost) (tree_items lines) ≡ sum (left_in lines)
tree-sum lines = sum-of-costs (tree_items lines) ∙ ap sum (costs-of-tree lines)

pub left-count : (lines : List TreeLine) → length (left_in lines) ≡ length lines
unfolding left_in
left-count [] = refl
left-count (line ∷ lines) = let rest = left-count lines in omega arith

-- items below a path and a text are items below the longer path
under-below : (path : List (List ℕ)) (text : List ℕ) (items : List Costed)
    → map (under path) (map (below text) items) ≡ map (under (path ++ text ∷ [])) items
under-below path text [] = refl
under-below path text (item ∷ items) =
    ap (λ (texts : List (List ℕ)). record { texts = texts; cost = item.cost }
    ∷ map (under path) (map (below text) items)) (sym
    (append_assoc path (text ∷ []) item.texts))
    ∙ ap (λ (is : List Costed). under (path ++ text ∷ []) item ∷ is) (under-below path text items)

-- a level at which no line is to come has no items left
left-done : (names : List (List ℕ)) (levels : List Level) (trees : List (List Costed))
    → items_left names (without_done levels) trees ≡ items_left names levels trees
unfolding items_left
left-done names [] trees = refl
left-done names (level ∷ outer) trees = by (left-done names outer trees) level.to_come
  where
    by : items_left names (without_done outer) trees ≡ items_left names outer trees → (n : ℕ)
        → items_left names (if_open level.label n outer (without_done outer)) trees
        ≡ items_left names (level_at level.label n ∷ outer) trees
    by ended zero = ended
    by ended (suc n) = refl

-- one level more, by whether a line is to come at it
pub done-level : (level : Level) (outer : List Level) → level.to_come ≡ 0
    → without_done (level ∷ outer) ≡ without_done outer
done-level level outer none = ap (λ (n : ℕ). if_open level.label n outer (without_done outer)) none

pub open-level : (level : Level) (outer : List Level) → 0 < level.to_come → without_done (level ∷ outer) ≡ level ∷ outer
open-level level outer some = by level.to_come some
  where
    by : (n : ℕ) → 0 < n → if_open level.label n outer (without_done outer) ≡ level_at level.label n ∷ outer
    by zero none = absurd (omega arith)
    by (suc n) more = refl

-- after those are ended, a line is to come at the innermost level, or no level is left
data Open (levels : List Level) : Type 0 where
  no_level : levels ≡ [] → Open levels
  a_level : (label n : ℕ) (outer : List Level) → levels ≡ level_at label (suc n) ∷ outer → Open levels

open-after : (levels : List Level) → Open (without_done levels)
open-after [] = no_level refl
open-after (level ∷ outer) = by (open-after outer) level.to_come
  where
    by : Open (without_done outer) → (n : ℕ) → Open (if_open level.label n outer (without_done outer))
    by ended zero = ended
    by ended (suc n) = a_level level.label n outer refl

-- the text of the innermost level stands at the end of the path
path-more : (names : List (List ℕ)) (label n : ℕ) (levels : List Level)
    → path_of names (level_at label n ∷ levels) ≡ path_of names levels ++ text_of names label ∷ []
path-more names label n levels =
    let labels : List ℕ = map (λ (level : Level). level.label) levels in
    ap (λ (ns : List ℕ). map (text_of names) ns) (reverse-append (label ∷ []) labels)
    ∙ map-append (text_of names) (reverse labels) (label ∷ [])

-- the item of a line with this path
abbrev pub item_on : List (List ℕ) → List Level → TreeLine → List TreeLine → Costed
item_on names levels line lines = record { texts = path_of names levels; cost = left_bytes line lines }

-- a line is the first item that was left, and leaves those behind it
enter-none : (names : List (List ℕ)) (label : ℕ) (line : TreeLine) (lines : List TreeLine)
    → text_of names label ≡ shown line.label
    → items_left names [] (forest_items (line ∷ lines))
    ≡ item_on names (level_at label line.children ∷ []) line lines
    ∷ items_left names (level_at label line.children ∷ []) (forest_items lines)
unfolding items_left forest_items
enter-none names label line lines text =
    let inside : List Costed = all_items (take line.children (forest_items lines)) in
    let beside : List Costed = all_items (drop line.children (forest_items lines)) in
    ap (λ (t : List ℕ). record { texts = t ∷ []; cost = left_bytes line lines } ∷ (map (below t) inside ++ beside))
    (sym text)

enter-one : (names : List (List ℕ)) (label : ℕ) (line : TreeLine) (lines : List TreeLine) (above n : ℕ)
    (outer : List Level)
    → text_of names label ≡ shown line.label
    → items_left names (level_at above (suc n) ∷ outer) (forest_items (line ∷ lines))
    ≡ item_on names (level_at label line.children ∷ level_at above n ∷ outer) line lines
    ∷ items_left names (level_at label line.children ∷ level_at above n ∷ outer) (forest_items lines)
unfolding items_left forest_items
enter-one names label line lines above n outer text =
    let t : List ℕ = shown line.label in
    let P : List (List ℕ) = path_of names (level_at above n ∷ outer) in
    let F : List (List Costed) = forest_items lines in
    let inside : List Costed = all_items (take line.children F) in
    let next : List Costed = all_items (take n (drop line.children F)) in
    let rest : List Costed = items_left names outer (drop n (drop line.children F)) in
    let one : Costed = record { texts = t ∷ []; cost = left_bytes line lines } in
    let whole : P ++ t ∷ [] ≡ path_of names (level_at label line.children ∷ level_at above n ∷ outer) =
    ap (λ (u : List ℕ). P ++ u ∷ []) (sym text)
    ∙ sym (path-more names label line.children (level_at above n ∷ outer)) in
    ap (λ (items : List Costed). items ++ rest) (map-append (under P) (one ∷ map (below t) inside) next)
    ∙ append_assoc (under P one ∷ map (under P) (map (below t) inside)) (map (under P) next) rest
    ∙ ap (λ (items : List Costed). under P one ∷ (items ++ (map (under P) next ++ rest))) (under-below P t inside)
    ∙ ap (λ (path : List (List ℕ)). record { texts = path; cost = left_bytes line lines }
    ∷ (map (under path) inside ++ (map (under P) next ++ rest))) whole

pub enter-line : (names : List (List ℕ)) (levels : List Level) (label : ℕ) (line : TreeLine) (lines : List TreeLine)
    → text_of names label ≡ shown line.label
    → items_left names levels (forest_items (line ∷ lines))
    ≡ item_on names (entered label line.children levels) line lines
    ∷ items_left names (entered label line.children levels) (forest_items lines)
enter-line names levels label line lines text =
    sym (left-done names levels (forest_items (line ∷ lines))) ∙ by (without_done levels) (open-after levels)
  where
    by : (left : List Level) → Open left
        → items_left names left (forest_items (line ∷ lines))
        ≡ item_on names (level_at label line.children ∷ one_less left) line lines
        ∷ items_left names (level_at label line.children ∷ one_less left) (forest_items lines)
    by left (no_level none) =
        let P : List Level → Type 0 =
        λ ls. items_left names ls (forest_items (line ∷ lines))
        ≡ item_on names (level_at label line.children ∷ one_less ls) line lines
        ∷ items_left names (level_at label line.children ∷ one_less ls) (forest_items lines) in
        subst P (sym none) (enter-none names label line lines text)
    by left (a_level above n outer is) =
        let P : List Level → Type 0 =
        λ ls. items_left names ls (forest_items (line ∷ lines))
        ≡ item_on names (level_at label line.children ∷ one_less ls) line lines
        ∷ items_left names (level_at label line.children ∷ one_less ls) (forest_items lines) in
        let back : suc n - 1 ≡ n = omega arith in
        subst P (sym is) (
        enter-one names label line lines above n outer text
        ∙ ap (λ (k : ℕ). item_on names (level_at label line.children ∷ level_at above k ∷ outer) line lines
        ∷ items_left names (level_at label line.children ∷ level_at above k ∷ outer) (forest_items lines)) (sym
        back))

-- what is left of a list from a place on
drop-step : {X : Type 0} (xs : List X) (k : ℕ) (x : X) (ys : List X) → drop k xs ≡ x ∷ ys
    → (slice_get xs k ≡ Some x) × (drop (suc k) xs ≡ ys)
drop-step [] zero x ys is = let count = ap length is in absurd (omega arith)
drop-step [] (suc k) x ys is = let count = ap length is in absurd (omega arith)
drop-step (z ∷ zs) zero x ys is = (ap (λ ws. slice_get ws 0) is, ap (λ ws. drop 1 ws) is)
drop-step (z ∷ zs) (suc k) x ys is = drop-step zs k x ys is

-- levels that are entered have labels that were there, and the new one
levels-held : (P : Level → Type 0) (levels : List Level) → All P levels → All P (without_done levels)
levels-held P [] all = all
levels-held P (level ∷ outer) all = by (levels-held P outer (All-tail P level outer all)) level.to_come refl
  where
    by : All P (without_done outer) → (n : ℕ) → level.to_come ≡ n
        → All P (if_open level.label n outer (without_done outer))
    by ended zero is = ended
    by ended (suc n) is = subst (λ (k : ℕ). All P (level_at level.label k ∷ outer)) is all

pub entered-held : (names : List (List ℕ)) (label children : ℕ) (levels : List Level) → IsText names label
    → All (λ level. IsText names level.label) levels
    → All (λ level. IsText names level.label) (entered label children levels)
entered-held names label children levels is all =
    let P : Level → Type 0 = λ level. IsText names level.label in
    All-cons P (level_at label children) (one_less (without_done levels)) is
    (less (without_done levels) (levels-held P levels all))
  where
    less : (ls : List Level) → All (λ (level : Level). IsText names level.label) ls
        → All (λ (level : Level). IsText names level.label) (one_less ls)
    less [] held = held
    less (level ∷ outer) held =
        let P : Level → Type 0 = λ l. IsText names l.label in
        All-cons P (level_at level.label (level.to_come - 1)) outer (All-head P level outer held)
        (All-tail P level outer held)

-- a list the other way round
rev-map : {X Y : Type 0} (f : X → Y) (xs : List X) → reverse (map f xs) ≡ map f (reverse xs)
rev-map f [] = refl
rev-map f (x ∷ xs) =
    reverse-append (f x ∷ []) (map f xs) ∙ ap (λ ys. ys ++ f x ∷ []) (rev-map f xs)
    ∙ sym (map-append f (reverse xs) (x ∷ [])) ∙ ap (λ ys. map f ys) (sym (reverse-append (x ∷ []) xs))

all-reverse : {X : Type 0} (P : X → Type 0) (xs : List X) → All P xs → All P (reverse xs)
all-reverse P [] all = all
all-reverse P (x ∷ xs) all =
    subst (All P) (sym (reverse-append (x ∷ []) xs))
    (All-push P (reverse xs) x (all-reverse P xs (All-tail P x xs all)) (All-head P x xs all))

pub path-is : (names : List (List ℕ)) (levels : List Level)
    → path_of names (reverse levels) ≡ texts_of names (map (λ level. level.label) levels)
path-is names levels =
    let label : Level → ℕ = λ level. level.label in
    ap (λ (ns : List ℕ). texts_of names ns)
    (rev-map label (reverse levels) ∙ ap (λ (ls : List Level). map label ls) (reverse-reverse levels))

-- the labels below the root have numbers, and are the item's texts
pub labels-held : (names : List (List ℕ)) (levels : List Level)
    → All (λ level. IsText names level.label) (reverse levels)
    → All (IsText names) (drop 1 (map (λ level. level.label) levels))
labels-held names levels all =
    let P : Level → Type 0 = λ level. IsText names level.label in
    All-drop (IsText names) 1 (map (λ (level : Level). level.label) levels)
    (All-map (IsText names) (λ (level : Level). level.label) levels
    (subst (All P) (reverse-reverse levels) (all-reverse P (reverse levels) all)))

texts-below : (names : List (List ℕ)) (numbers : List ℕ)
    → texts_of names (drop 1 numbers) ≡ drop 1 (texts_of names numbers)
texts-below names numbers = sym (drop-map (text_of names) 1 numbers)

drop-here : {X : Type 0} (xs : List X) (k : ℕ) (x : X) → slice_get xs k ≡ Some x → drop k xs ≡ x ∷ drop (suc k) xs
drop-here [] k x at = absurd (none-some x at)
drop-here (y ∷ ys) zero x at = ap (λ z. z ∷ ys) (same_Some y x at)
drop-here (y ∷ ys) (suc k) x at = drop-here ys k x at

pub drop-at : {X : Type 0} (xs : List X) (k : ℕ) (x : X) → slice_get xs k ≡ Some x → drop k xs ≡ x ∷ drop (k + 1) xs
drop-at xs k x at = let next : suc k ≡ k + 1 = omega arith in drop-here xs k x at ∙ ap (λ (n : ℕ). x ∷ drop n xs) next

-- where a walk stands: the items of the levels that are open are those from a place on
pub record IsAt (names : List (List ℕ)) (lines : List TreeLine) (levels : List Level) (place : ℕ) : Type 0 where
  pub left : items_left names (reverse levels) (forest_items (drop place lines))
      ≡ drop place (all_items (forest_items lines))
  pub held : All (λ level. IsText names level.label) (reverse levels)

pub at-begin : (names : List (List ℕ)) (lines : List TreeLine) (levels : List Level) → levels ≡ []
    → IsAt names lines levels 0
unfolding items_left
at-begin names lines levels none =
    let P : List Level → Type 0 = λ ls. IsAt names lines ls 0 in
    subst P (sym none) (record { left = refl; held = All-nil (λ (level : Level). IsText names level.label) })

-- one line more
pub record IsNext (names : List (List ℕ)) (lines : List TreeLine) (levels : List Level) (place number : ℕ) : Type 0
  where
    pub at : IsAt names lines levels (place + 1)
    pub item : slice_get (tree_items lines) place
        ≡ Some (record { texts = texts_of names (drop 1 (map (λ (level : Level). level.label) levels)); cost = number })
    pub held : All (IsText names) (drop 1 (map (λ (level : Level). level.label) levels))

pub at-next : (names : List (List ℕ)) (lines : List TreeLine) (old new : List Level) (place label number : ℕ)
    (line : TreeLine)
    → IsAt names lines old place → slice_get lines place ≡ Some line
    → reverse new ≡ entered label line.children (reverse old) → IsText names label
    → text_of names label ≡ shown line.label → slice_get (left_in lines) place ≡ Some number
    → IsNext names lines new place number
unfolding tree_items
at-next names lines old new place label number line at line_is new_is is text number_is =
    let rest : List TreeLine = drop (place + 1) lines in
    let all : List Costed = all_items (forest_items lines) in
    let levels : List Level = entered label line.children (reverse old) in
    let item : Costed = item_on names levels line rest in
    let numbers : List ℕ = map (λ (level : Level). level.label) new in
    let cost : Costed → ℕ = λ i. i.cost in
    let step = drop-step all place item (items_left names levels (forest_items rest))
    (sym at.left
    ∙ ap (λ (ls : List TreeLine). items_left names (reverse old) (forest_items ls)) (drop-at lines place line line_is)
    ∙ enter-line names (reverse old) label line rest text) in
    let path : drop 1 item.texts ≡ texts_of names (drop 1 numbers) =
    ap (λ (ls : List Level). drop 1 (path_of names ls)) (sym new_is)
    ∙ ap (λ (ts : List (List ℕ)). drop 1 ts) (path-is names new) ∙ sym (texts-below names numbers) in
    let found : slice_get (map without_root all) place ≡ Some (without_root item) =
    slice_get-map without_root all place ∙ ap (option_map without_root) step.0 in
    let same : item.cost ≡ number = same_Some item.cost number (
    sym (slice_get-map cost (map without_root all) place ∙ ap (option_map cost) found)
    ∙ ap (λ (ns : List ℕ). slice_get ns place) (costs-of-tree lines) ∙ number_is) in
    let next : suc place ≡ place + 1 = omega arith in
    record {
      at = record {
        left =
            ap (λ (ls : List Level). items_left names ls (forest_items rest)) new_is ∙ sym step.1
            ∙ ap (λ (n : ℕ). drop n all) next;
        held =
            subst (All (λ (level : Level). IsText names level.label)) (sym new_is)
            (entered-held names label line.children (reverse old) is at.held);
      };
      item =
          found ∙ ap (λ (ts : List (List ℕ)). Some (record { texts = ts; cost = item.cost })) path
          ∙ ap (λ (n : ℕ). Some (record { texts = texts_of names (drop 1 numbers); cost = n })) same;
      held =
          labels-held names new
          (subst (All (λ (level : Level). IsText names level.label)) (sym new_is)
          (entered-held names label line.children (reverse old) is at.held));
    }

-- there is an item for each line
pub items-count : (lines : List TreeLine) → length (tree_items lines) ≡ length lines
items-count lines =
    sym (length-map (tree_items lines) (λ (item : Costed). item.cost)) ∙ ap length (costs-of-tree lines)
    ∙ left-count lines

-- the number at a place is that of the line's label
one-text : (names : List (List ℕ)) (numbers : List ℕ) (k : ℕ) → k < length numbers
    → text_of names (get_or numbers k 0) ≡ get_or (map (text_of names) numbers) k []
one-text names [] k within = absurd (omega arith)
one-text names (n ∷ ns) zero within = refl
one-text names (n ∷ ns) (suc k) within = one-text names ns k (omega arith)

pub label-text : (names : List (List ℕ)) (numbers : List ℕ) (lines : List TreeLine) (place : ℕ) (line : TreeLine)
    → AreNumbers names numbers (map (λ (l : TreeLine). shown l.label) lines) → place < length numbers
    → slice_get lines place ≡ Some line → text_of names (get_or numbers place 0) ≡ shown line.label
label-text names numbers lines place line are within at =
    let label : TreeLine → List ℕ = λ l. shown l.label in
    one-text names numbers place within
    ∙ ap (λ (ts : List (List ℕ)). get_or ts place []) are.texts_are
    ∙ get_or_from_slice_get (map label lines) place (label line) []
    (slice_get-map label lines place ∙ ap (option_map label) at)

-- the line that is entered, whose label and number stand at its place
pub next-line : (names : List (List ℕ)) (lines : List TreeLine) (numbers left : List ℕ) (old new : List Level)
    (place : ℕ) (line : TreeLine)
    → IsAt names lines old place → slice_get lines place ≡ Some line
    → reverse new ≡ entered (get_or numbers place 0) line.children (reverse old)
    → AreNumbers names numbers (map (λ (l : TreeLine). shown l.label) lines) → left ≡ left_in lines
    → place < length numbers → place < length left
    → IsNext names lines new place (get_or left place 0)
next-line names lines numbers left old new place line at line_is new_is are left_is in_numbers in_left =
    at-next names lines old new place (get_or numbers place 0) (get_or left place 0) line at line_is new_is
    (are.held place 0 in_numbers)
    (label-text names numbers lines place line are in_numbers line_is)
    (ap (λ (ns : List ℕ). slice_get ns place) (sym left_is) ∙ slice_get-get_or left place 0 in_left)

-- the items so far and one more
pub next-within : (names : List (List ℕ)) (lines : List TreeLine) (left : List ℕ) (levels : List Level)
    (place number most : ℕ)
    → IsNext names lines levels place number → left ≡ left_in lines → sum left ≤ most
    → sum_by (λ (item : Costed). item.cost) (take place (tree_items lines)) + number ≤ most
next-within names lines left levels place number most next left_is within =
    let total = tree-sum lines in
    let same = ap sum left_is in
    items-within (tree_items lines) place
    (record { texts = texts_of names (drop 1 (map (λ (level : Level). level.label) levels)); cost = number }) most
    next.item (omega arith)
