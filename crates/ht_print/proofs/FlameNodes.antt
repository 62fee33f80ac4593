-- Lemmas on the nodes that have a line, and on how long one is.
use Rattle.std.proofs.Common.{◌≡◌, ◌≢◌, ℕ, ◌+◌, ◌<◌, ◌≤◌, List, [], ◌∷◌, ◌++◌, length, take, get_or, map, Some, refl}
use Rattle.std.proofs.Common.{sym, ap, ◌∙◌, arith, append-nil, subst, length-take}
use Rattle.std.specs.Prelude.{All, slice_get}
use Rattle.std.specs.List.{flat_map}
use Rattle.std.specs.Option.{option_map_or}
use Rattle.std.proofs.lemmas.Grind.{flat_map-append}
use Rattle.std.proofs.lemmas.List.{get_or-map, get_or-take, length-append, map_push, take_more}
use Rattle.std.proofs.lemmas.List.Elements.{All-cons, All-nil}
use Rattle.cost_tree.specs.declared.node.CostNode.{CostNode}
use Rattle.cost_tree.specs.TreeState.{TreeState}
use Rattle.ht_print.specs.FlameLines.{line_at, line_bytes, own_at}
use Rattle.ht_print.specs.FlameText.{flame_line, flame_name, flame_rest}
use Rattle.ht_print.specs.FlameWalk.{IsRooted, front_at, last_text}
use Rattle.ht_print.proofs.FlameLemmas.{flame_line-none, flame_rest-none}
use Rattle.ht_print.proofs.FrontTexts.{length-name, rest-append, rest-one}

-- what a node costs of its own
pub own-is : (tree : TreeState) (n : ℕ) (node : CostNode) → slice_get tree.nodes n ≡ Some node
    → own_at tree n ≡ node.own
own-is tree n node held = ap (λ found. option_map_or (λ (node : CostNode). node.own) found 0) held

-- one node more
pub lines-push : (tree : TreeState) (nodes new : List ℕ) (n : ℕ) → new ≡ nodes ++ n ∷ []
    → flat_map (line_at tree) new ≡ flat_map (line_at tree) nodes ++ line_at tree n
lines-push tree nodes new n is =
    ap (λ (ns : List ℕ). flat_map (line_at tree) ns) is ∙ flat_map-append (line_at tree) nodes (n ∷ [])
    ∙ ap (λ (bytes : List ℕ). flat_map (line_at tree) nodes ++ bytes) (append-nil (line_at tree n))

-- the first front
first-of : (fronts : List (List (List ℕ))) → 0 < length fronts → get_or fronts 0 [] ≡ [] → take 1 fronts ≡ [] ∷ []
first-of [] some is = absurd (omega arith)
first-of (front ∷ fronts) some is = ap (λ (f : List (List ℕ)). f ∷ []) is

pub first-front : (tree : TreeState) → IsRooted tree → take 1 tree.fronts ≡ [] ∷ []
first-front tree rooted =
    let count = rooted.count in
    let some = rooted.some in
    first-of tree.fronts (omega (arith, count, some)) rooted.root

pub bytes-of-root : line_bytes [] ≡ 22
bytes-of-root = let none = ap (λ (bytes : List ℕ). length bytes) flame_rest-none in omega (arith, none)

-- one text more
pub bytes-longer : (tree : TreeState) (n : ℕ) (node : CostNode) (name : List ℕ) → IsRooted tree → 0 < n
    → slice_get tree.nodes n ≡ Some node → last_text tree n ≡ name
    → line_bytes (front_at tree n) ≡ line_bytes (front_at tree node.parent) + (length name + 1)
bytes-longer tree n node name rooted above held named =
    let front : List ℕ = flame_rest (front_at tree node.parent) in
    let whole : flame_rest (front_at tree n) ≡ front ++ 59 ∷ flame_name name =
    ap (λ (texts : List (List ℕ)). flame_rest texts) (rooted.longer n node above held)
    ∙ rest-append (front_at tree node.parent) (last_text tree n ∷ [])
    ∙ ap (λ (bytes : List ℕ). front ++ bytes)
    (rest-one (last_text tree n) ∙ ap (λ (bytes : List ℕ). 59 ∷ flame_name bytes) named) in
    let size = ap (λ (bytes : List ℕ). length bytes) whole ∙ length-append front (59 ∷ flame_name name) in
    let own_size = length-name name in
    omega (arith, size, own_size)

-- the lengths of so many fronts, and of one more
pub lengths-push : (fronts : List (List (List ℕ))) (lengths new : List ℕ) (n length_is : ℕ) → n < length fronts
    → lengths ≡ map line_bytes (take n fronts) → new ≡ lengths ++ length_is ∷ []
    → length_is ≡ line_bytes (get_or fronts n []) → new ≡ map line_bytes (take (n + 1) fronts)
lengths-push fronts lengths new n length_is within are pushed is =
    pushed ∙ ap (λ (ls : List ℕ). ls ++ length_is ∷ []) are
    ∙ ap (λ (l : ℕ). map line_bytes (take n fronts) ++ l ∷ []) is
    ∙ sym (ap (λ (fs : List (List (List ℕ))). map line_bytes fs) (take_more fronts n [] within)
    ∙ map_push line_bytes (take n fronts) (get_or fronts n []))

pub first-bounded : (tree : TreeState) → IsRooted tree → All (λ texts. line_bytes texts ≤ 22) (take 1 tree.fronts)
first-bounded tree rooted =
    let P : List (List ℕ) → Type 0 = λ texts. line_bytes texts ≤ 22 in
    let root = bytes-of-root in
    subst (λ (fronts : List (List (List ℕ))). All P fronts) (sym (first-front tree rooted))
    (All-cons P [] [] (omega (arith, root)) (All-nil P))

-- the length of an earlier one
pub length-at : (fronts : List (List (List ℕ))) (lengths : List ℕ) (n k d : ℕ) → k < n → n < length fronts
    → lengths ≡ map line_bytes (take n fronts) → get_or lengths k d ≡ line_bytes (get_or fronts k [])
length-at fronts lengths n k d lower within are =
    let size = length-take n fronts in
    ap (λ (ls : List ℕ). get_or ls k d) are ∙ get_or-map line_bytes (take n fronts) k [] d (omega (arith, size))
    ∙ ap line_bytes (get_or-take n fronts k [] lower)
