-- Lemmas on what stands of each node side by side.
use Rattle.std.proofs.Common.{◌≡◌, ℕ, zero, suc, ◌+◌, ◌-◌, ◌<◌, List, [], ◌∷◌, ◌++◌, length, map, take, drop, set}
use Rattle.std.proofs.Common.{get_or, Some, refl, sym, ap, ◌∙◌, append_assoc, arith}
use Rattle.std.specs.Prelude.{slice_get, slice_index}
use Rattle.std.specs.List.{zip}
use Rattle.std.proofs.lemmas.List.{get_or-map, map-set, map_push, take_more}
use Rattle.std.proofs.Math.Seq.{map-set_same}
use Rattle.cost_tree.specs.declared.edge.Edge.{Edge}
use Rattle.cost_tree.specs.declared.links.Link.{Link}
use Rattle.cost_tree.specs.declared.node.CostNode.{CostNode}
use Rattle.cost_tree.specs.Growth.{AreBranches}
use Rattle.cost_tree.specs.NodeLinks.{AreBeside, costs_in, edge_in, edges_in, firsts_in, nexts_in, texts_in}

-- what stands for the front of a list, with what stands for its next element
pub one-more : {X Y : Type 0} (f : X → ℕ) (g : Y → ℕ) (front : List ℕ) (xs : List X) (ys new : List Y) (i : ℕ) (x : X)
    (y : Y)
    → map g ys ≡ front ++ map f (take i xs) → i < length xs → new ≡ ys ++ y ∷ [] → g y ≡ f (get_or xs i x)
    → map g new ≡ front ++ map f (take (i + 1) xs)
one-more {X} {Y} f g front xs ys new i x y before within new_is same =
    ap (λ (zs : List Y). map g zs) new_is
    ∙ map_push g ys y
    ∙ ap (λ (k : ℕ). map g ys ++ k ∷ []) same
    ∙ ap (λ (ks : List ℕ). ks ++ f (get_or xs i x) ∷ []) before
    ∙ append_assoc front (map f (take i xs)) (f (get_or xs i x) ∷ [])
    ∙ ap (λ (ks : List ℕ). front ++ ks)
    (sym (ap (λ (zs : List X). map f zs) (take_more xs i x within) ∙ map_push f (take i xs) (get_or xs i x)))

-- the links of a node, and of the node where it begins
abbrev pub linked : List Link → ℕ → ℕ → ℕ → Link → Link → List Link
linked links n parent child here there =
    set (set links n (record here { next_sibling = child })) parent (record there { first_child = n })

-- they change no cost and no text, and one link of each kind
pub record IsLinked (links : List Link) (n parent child : ℕ) (new : List Link) : Type 0 where
  pub costs : costs_in new ≡ costs_in links
  pub texts : texts_in new ≡ texts_in links
  pub firsts : firsts_in new ≡ set (firsts_in links) parent n
  pub nexts : nexts_in new ≡ set (nexts_in links) n child

pub linked-is :
    (links : List Link) (n parent child : ℕ) (here there : Link) → here ≡ get_or links n here
    → there ≡ get_or (set links n (record here { next_sibling = child })) parent there
    → IsLinked links n parent child (linked links n parent child here there)
linked-is links n parent child here there here_is there_is =
    let mid : List Link = set links n (record here { next_sibling = child }) in
    let one : Link = record here { next_sibling = child } in
    let two : Link = record there { first_child = n } in
    record {
      costs =
          map-set_same (λ (l : Link). l.cost) mid parent two there (ap (λ (l : Link). l.cost) there_is)
          ∙ map-set_same (λ (l : Link). l.cost) links n one here (ap (λ (l : Link). l.cost) here_is);
      texts =
          map-set_same (λ (l : Link). l.text) mid parent two there (ap (λ (l : Link). l.text) there_is)
          ∙ map-set_same (λ (l : Link). l.text) links n one here (ap (λ (l : Link). l.text) here_is);
      firsts = map-set (λ (l : Link). l.first_child) mid parent two
          ∙ ap (λ (ks : List ℕ). set ks parent n)
          (map-set_same (λ (l : Link). l.first_child) links n one here (ap (λ (l : Link). l.first_child) here_is));
      nexts =
          map-set_same (λ (l : Link). l.next_sibling) mid parent two there (ap (λ (l : Link). l.next_sibling) there_is)
          ∙ map-set (λ (l : Link). l.next_sibling) links n one;
    }

-- a first child, as it is read
pub first-read : (links : List Link) (n : ℕ) (link : Link) → n < length links → link ≡ get_or links n link
    → link.first_child ≡ get_or (firsts_in links) n link.first_child
first-read links n link within read =
    ap (λ (l : Link). l.first_child) read
    ∙ sym (get_or-map (λ (l : Link). l.first_child) links n link link.first_child within)

-- the number of a text, where the node has an edge
pub text-beside : (edges : List Edge) (nodes : List CostNode) (links : List Link) (n : ℕ) (edge : Edge)
    → AreBeside edges nodes links → 0 < n → n - 1 < length edges
    → slice_index (texts_in links) n ≡ (get_or edges (n - 1) edge).text
text-beside edges nodes links zero edge beside above within = absurd (omega arith)
text-beside edges nodes links (suc place) edge beside above within =
    ap (λ (ks : List ℕ). slice_index ks (suc place)) beside.texts
    ∙ get_or-map (λ (e : Edge). e.text) edges place edge 0 (omega arith)
    ∙ ap (λ (k : ℕ). (get_or edges k edge).text) {x = place} {y = suc place - 1} (omega arith)

-- nodes and links that say the parents and the texts of edges give these
zipped : (edges : List Edge) (nodes : List CostNode) (links : List Link) → length nodes ≡ length edges
    → ((place : ℕ) (edge : Edge) (node : CostNode) → slice_get edges place ≡ Some edge
    → slice_get nodes place ≡ Some node → node.parent ≡ edge.parent)
    → texts_in links ≡ map (λ edge. edge.text) edges → map (λ both. edge_in both.0 both.1) (zip nodes links) ≡ edges
zipped [] [] links count parents texts = refl
zipped [] (node ∷ nodes) links count parents texts = absurd (omega arith)
zipped (edge ∷ edges) [] links count parents texts = absurd (omega arith)
zipped (edge ∷ edges) (node ∷ nodes) [] count parents texts =
    let none = ap (λ (ks : List ℕ). length ks) texts in absurd (omega arith)
zipped (edge ∷ edges) (node ∷ nodes) (link ∷ links) count parents texts =
    ap (λ (k : ℕ). record { parent = k; text = link.text } ∷ map (λ both. edge_in both.0 both.1) (zip nodes links))
    (parents 0 edge node refl refl)
    ∙ ap (λ (k : ℕ). record { parent = edge.parent; text = k } ∷ map (λ both. edge_in both.0 both.1) (zip nodes links))
    (ap (λ (ks : List ℕ). get_or ks 0 0) texts)
    ∙ ap (λ (es : List Edge). edge ∷ es)
    (zipped edges nodes links (omega arith) (λ place. parents (suc place)) (ap (λ (ks : List ℕ). drop 1 ks) texts))

pub edges-beside : (names : List (List ℕ)) (edges : List Edge) (nodes : List CostNode) (fronts : List (List (List ℕ)))
    (links : List Link)
    → AreBranches names edges nodes fronts → AreBeside edges nodes links → edges_in nodes links ≡ edges
unfolding edges_in
edges-beside names edges [] fronts links are beside = let count = are.nodes_count in absurd (omega arith)
edges-beside names edges (node ∷ nodes) fronts [] are beside =
    let none = ap (λ (ks : List ℕ). length ks) beside.texts in absurd (omega arith)
edges-beside names edges (node ∷ nodes) fronts (link ∷ links) are beside =
    let count = are.nodes_count in
    zipped edges nodes links (omega arith)
    (λ place edge child at child_at. are.parent place edge child at
    (ap (λ (k : ℕ). slice_get (node ∷ nodes) k) {x = place + 1} {y = suc place} (omega arith) ∙ child_at))
    (ap (λ (ks : List ℕ). drop 1 ks) beside.texts)
