-- Lemmas on the text of a front.
use Rattle.std.proofs.Common.{◌≡◌, ℕ, ◌+◌, ◌-◌, ◌<◌, ◌≤◌, List, [], ◌∷◌, ◌++◌, length, take, drop, get_or, map, reverse}
use Rattle.std.proofs.Common.{Some, refl, sym, ap, subst, ◌∙◌, arith, append-nil}
use Rattle.std.specs.Prelude.{All, codes, slice_get, vec_capacity}
use Rattle.std.proofs.lemmas.List.{map-append, take-append-drop}
use Rattle.std.proofs.lemmas.List.Elements.{All-weaker}
use Rattle.std.proofs.lemmas.Option.{slice_get-get_or}
use Rattle.std.proofs.lemmas.Grind.{flat_map-append}
use Rattle.std.proofs.lemmas.List.{length-append, length-map, length-reverse}
use Rattle.std.proofs.Math.Seq.{take-append_seam}
use Rattle.cost_tree.specs.declared.node.CostNode.{CostNode}
use Rattle.cost_tree.specs.TreeState.{TreeState}
use Rattle.ht_print.specs.FlameText.{flame_byte, flame_name, flame_path, flame_rest}
use Rattle.ht_print.specs.FlameWalk.{IsRooted, front_at, last_text}
use Rattle.ht_print.specs.FrontText.{HasRoom, IsBetween, IsTextOf, KeepsRoom, LeadsTo}
use Rattle.ht_print.specs.declared.front_text.Between.{Between}
use Rattle.ht_print.proofs.FlameLemmas.{flame_rest-more}
use Rattle.ht_print.specs.declared.front_text.FrontText.{FrontText}

-- texts behind others
pub rest-append : (front more : List (List ℕ)) → flame_rest (front ++ more) ≡ flame_rest front ++ flame_rest more
unfolding flame_rest
rest-append front more = flat_map-append (λ text. codes ";" ++ flame_name text) front more

pub rest-one : (text : List ℕ) → flame_rest (text ∷ []) ≡ codes ";" ++ flame_name text
unfolding flame_rest
rest-one text = append-nil (codes ";" ++ flame_name text)

pub length-name : (text : List ℕ) → length (flame_name text) ≡ length text
unfolding flame_name
length-name text = length-map text flame_byte

-- the text of a front without the last of its texts
pub rest-cut : (tree : TreeState) (at : ℕ) (node : CostNode) (name text : List ℕ) → IsRooted tree → 0 < at
    → slice_get tree.nodes at ≡ Some node → last_text tree at ≡ name
    → text ≡ flame_rest (front_at tree at)
    → take (length text - (length name + 1)) text ≡ flame_rest (front_at tree node.parent)
rest-cut tree at node name text rooted above held named is =
    let front : List ℕ = flame_rest (front_at tree node.parent) in
    let own : List ℕ = codes ";" ++ flame_name name in
    let whole : text ≡ front ++ own =
    is ∙ ap (λ (texts : List (List ℕ)). flame_rest texts) (rooted.longer at node above held)
    ∙ rest-append (front_at tree node.parent) (last_text tree at ∷ [])
    ∙ ap (λ (bytes : List ℕ). front ++ bytes)
    (rest-one (last_text tree at) ∙ ap (λ (bytes : List ℕ). codes ";" ++ flame_name bytes) named) in
    let size = ap (λ (bytes : List ℕ). length bytes) whole ∙ length-append front own in
    let own_size = length-name name in
    let left : length text - (length name + 1) ≡ length front = omega (arith, size, own_size) in
    ap (λ (n : ℕ). take n text) left ∙ ap (λ (bytes : List ℕ). take (length front) bytes) whole
    ∙ take-append_seam front own

-- without the first semicolon it is the path
pub path-rest : (front : List (List ℕ)) (first : ℕ) (rest : List ℕ) → first ∷ rest ≡ flame_rest front
    → rest ≡ flame_path front
unfolding flame_rest flame_path
path-rest [] first rest is = absurd (let count = ap (λ (bytes : List ℕ). length bytes) is in omega (arith, count))
path-rest (text ∷ more) first rest is = ap (λ (bytes : List ℕ). tail bytes) is
  where
    tail : List ℕ → List ℕ
    tail [] = []
    tail (byte ∷ bytes) = bytes

pub path-none : (front : List (List ℕ)) → [] ≡ flame_rest front → [] ≡ flame_path front
unfolding flame_rest flame_path
path-none [] is = refl
path-none (text ∷ more) is = absurd (let count = ap (λ (bytes : List ℕ). length bytes) is in omega (arith, count))

-- no text is that of the empty front
pub text-of-root : (tree : TreeState) (front : FrontText) → IsRooted tree → front.node ≡ 0 → front.text.items ≡ []
    → IsTextOf tree front
unfolding flame_rest
text-of-root tree front rooted node text =
    let some = rooted.some in
    record {
      within = omega (arith, node, some);
      text =
          text
          ∙ sym
          (ap (λ (k : ℕ). flame_rest (front_at tree k)) node
          ∙ ap (λ (texts : List (List ℕ)). flame_rest texts) rooted.root);
    }

-- the texts up to one of them are no longer than all of them
pub rest-within : {X : Type 0} (f : X → List ℕ) (xs : List X) (k : ℕ) (d : X) → k < length xs
    → length (flame_rest (map f (take k xs))) + (length (f (get_or xs k d)) + 1) ≤ length (flame_rest (map f xs))
rest-within {X} f xs k d within =
    let name : List ℕ = flame_name (f (get_or xs k d)) in
    let front : List ℕ = flame_rest (map f (take k xs)) in
    let more =
    ap (λ (bytes : List ℕ). length bytes) (flame_rest-more f xs k d within) ∙ length-append front (59 ∷ name) in
    let split =
    ap (λ ys. flame_rest (map f ys)) (sym (take-append-drop (k + 1) xs))
    ∙ ap (λ (texts : List (List ℕ)). flame_rest texts) (map-append f (take (k + 1) xs) (drop (k + 1) xs))
    ∙ rest-append (map f (take (k + 1) xs)) (map f (drop (k + 1) xs)) in
    let whole =
    ap (λ (bytes : List ℕ). length bytes) split
    ∙ length-append (flame_rest (map f (take (k + 1) xs))) (flame_rest (map f (drop (k + 1) xs))) in
    let own = length-name (f (get_or xs k d)) in
    omega (arith, more, whole, own)

-- room that is kept is room
pub room-kept : (tree : TreeState) (old new : FrontText) → KeepsRoom old new → HasRoom tree old → HasRoom tree new
room-kept tree old new kept room = record {
  text = subst (λ (n : ℕ). All (λ texts. length (flame_rest texts) ≤ n) tree.fronts) (sym kept.text) room.text;
  path = subst (λ (n : ℕ). All (λ (texts : List (List ℕ)). length texts ≤ n) tree.fronts) (sym kept.path) room.path;
}

-- there is room for the texts on the way to a node
pub rest-fits : (tree : TreeState) (n : ℕ) (front : FrontText) → IsRooted tree → n < length tree.nodes
    → LeadsTo tree n front.text.items front.path.items → HasRoom tree front
    → length front.text.items + length (flame_rest (map (last_text tree) front.path.items)) ≤ vec_capacity front.text
rest-fits tree n front rooted within leads room =
    let rest : List (List ℕ) = map (last_text tree) front.path.items in
    let split =
    ap (λ (bytes : List ℕ). length bytes)
    (sym (ap (λ (texts : List (List ℕ)). flame_rest texts) leads.path_to) ∙ rest-append leads.front rest)
    ∙ length-append (flame_rest leads.front) (flame_rest rest) in
    let text = ap (λ (bytes : List ℕ). length bytes) leads.text_of in
    let count = rooted.count in
    let fits = room.text n [] (omega (arith, count, within)) in
    omega (arith, split, text, fits)

-- and for one node more on the way
pub path-room : (tree : TreeState) (n : ℕ) (front : FrontText) (between : Between) → IsRooted tree
    → n < length tree.nodes → IsBetween tree n front.text.items front.path.items between → HasRoom tree front
    → between.at < between.above → length front.path.items < vec_capacity front.path
path-room tree n front between rooted within is room lower =
    let path : List ℕ = front.path.items in
    let above : ℕ = between.above in
    let no_node : CostNode = record { parent = 0; cost = 0; own = 0; first = 0 } in
    let node : CostNode = get_or tree.nodes above no_node in
    let longer =
    ap (λ (texts : List (List ℕ)). length texts)
    (rooted.longer above node (omega arith) (slice_get-get_or tree.nodes above no_node is.above_held))
    ∙ length-append (front_at tree node.parent) (last_text tree above ∷ []) in
    let whole =
    ap (λ (texts : List (List ℕ)). length texts) (sym is.path_to)
    ∙ length-append (front_at tree above) (map (last_text tree) (reverse path)) in
    let count = length-map (reverse path) (last_text tree) in
    let turned = length-reverse path in
    let fronts = rooted.count in
    let fits = room.path n [] (omega (arith, fronts, within)) in
    omega (arith, longer, whole, count, turned, fits)
