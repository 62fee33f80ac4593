-- Lemmas on a tree along a shape to which a whole list is added.
use Rattle.std.proofs.Common.{◌≡◌, ℕ, zero, suc, ◌+◌, ◌<◌, ◌≤◌, Bool, true, false, List, [], ◌∷◌, ◌++◌, length, map}
use Rattle.std.proofs.Common.{get_or, set, take, sum, Some, refl, sym, ap, ◌∙◌, subst, arith}
use Rattle.std.specs.Prelude.{slice_get, slice_index}
use Rattle.std.proofs.lemmas.List.{get_or-map, length-map, length-take-le, take_all, take_more}
use Rattle.std.proofs.lemmas.List.Sums.{sum_by_push}
use Rattle.std.proofs.lemmas.Option.{none-some, same_Some, slice_get_within, slice_get-get_or, slice_get_read}
use Rattle.std.proofs.lemmas.Option.{get_or_from_slice_get}
use Rattle.cost_tree.specs.declared.branches.Branches.{Branches}
use Rattle.cost_tree.specs.declared.edge.Edge.{Edge}
use Rattle.cost_tree.specs.declared.node.CostNode.{CostNode}
use Rattle.cost_tree.specs.Building.{GrowsBy, IsGrowth, IsNumbering, IsReached, with_stack}
use Rattle.cost_tree.specs.Costed.{Costed, costed}
use Rattle.cost_tree.specs.Growth.{AreBranches, HasGrown, IsGrown, counted, ended}
use Rattle.cost_tree.specs.Shapes.{list_at, lists_in}
use Rattle.cost_tree.specs.Texts.{AreNames, fronts_of, lists_of, texts_of}
use Rattle.cost_tree.proofs.Growing.{IsGrown-counted, IsGrown-ended, IsGrown-free}
use Rattle.cost_tree.proofs.Stages.{AreBranches-set}
use Rattle.cost_tree.proofs.Sums.{AddsAt, AddsAt-begin}

-- the parts of two trees are the same but for their nodes
pub record IsSameBut (tree new : Branches) (nodes : List CostNode) : Type 0 where
  pub edges : new.edges.items ≡ tree.edges.items
  pub nodes_are : new.nodes.items ≡ nodes
  pub levels : new.levels.items ≡ tree.levels.items
  pub numbered : new.numbered.items ≡ tree.numbered.items

-- a tree with other nodes
IsGrowth-set : (names : List (List ℕ)) (shape : List Edge) (tree new : Branches) (nodes : List CostNode)
    (stacks done : List Costed) (depth : ℕ)
    → IsSameBut tree new nodes
    → AreBranches names tree.edges.items nodes (fronts_of names tree.edges.items)
    → IsNumbering (fronts_of names shape) (fronts_of names tree.edges.items) tree.numbered.items
    → tree.levels.items ≡ map length (fronts_of names tree.edges.items)
    → IsGrown (fronts_of names tree.edges.items) nodes stacks done depth
    → IsGrowth names shape new stacks done depth
IsGrowth-set names shape tree new nodes stacks done depth same branches numbering levels grown = record {
  branches =
      subst (λ (es : List Edge). AreBranches names es new.nodes.items (fronts_of names es)) (sym same.edges)
      (subst (λ (ns : List CostNode). AreBranches names tree.edges.items ns (fronts_of names tree.edges.items))
      (sym same.nodes_are) branches);
  numbering =
      subst (λ (es : List Edge). IsNumbering (fronts_of names shape) (fronts_of names es) new.numbered.items)
      (sym same.edges)
      (subst (λ (ns : List ℕ). IsNumbering (fronts_of names shape) (fronts_of names tree.edges.items) ns)
      (sym same.numbered) numbering);
  levels = same.levels ∙ levels ∙ ap (λ (es : List Edge). map length (fronts_of names es)) (sym same.edges);
  grown =
      subst (λ (es : List Edge). IsGrown (fronts_of names es) new.nodes.items stacks done depth) (sym same.edges)
      (subst (λ (ns : List CostNode). IsGrown (fronts_of names tree.edges.items) ns stacks done depth)
      (sym same.nodes_are) grown);
}

-- a list is counted at node 0
IsGrowth-counted :
    (names : List (List ℕ)) (shape : List Edge) (tree new : Branches) (before : List Costed) (list cost depth : ℕ)
    (root : CostNode)
    → length before ≡ list → 0 < cost
    → IsGrowth names shape tree before before depth → root ≡ get_or tree.nodes.items 0 root
    → IsSameBut tree new (set tree.nodes.items 0 (counted root list cost))
    → IsGrowth names shape new (with_stack before [] cost) before depth
IsGrowth-counted names shape tree new before list cost depth root last above growth read same =
    let fronts : List (List (List ℕ)) = fronts_of names tree.edges.items in
    let at =
    slice_get_read tree.nodes.items (length tree.nodes.items) 0 root refl (omega (arith, growth.branches.nodes_count))
    read in
    let A : ℕ → Type 0 = λ k. AddsAt [] cost k before (with_stack before [] cost) in
    IsGrowth-set names shape tree new (set tree.nodes.items 0 (counted root list cost)) (with_stack before [] cost)
    before depth same
    (AreBranches-set names tree.edges.items tree.nodes.items fronts 0 root (counted root list cost) growth.branches at
    refl)
    growth.numbering growth.levels
    (IsGrown-counted names tree.edges.items tree.nodes.items fronts before (with_stack before [] cost) before depth root
    cost list growth.branches growth.grown (subst A last (AddsAt-begin before cost above)) above at)

-- and ends at the node that it reached
IsGrowth-ended :
    (names : List (List ℕ)) (shape : List Edge) (tree new : Branches) (before : List Costed) (texts : List (List ℕ))
    (cost depth n : ℕ) (is_whole : Bool) (node : CostNode)
    → IsReached names shape tree before texts cost depth n → (is_whole ≡ true → length tree.path.items ≡ 0)
    → (is_whole ≡ false → 0 < length tree.path.items)
    → node ≡ get_or tree.nodes.items n node → IsSameBut tree new (set tree.nodes.items n (ended n is_whole cost node))
    → IsGrowth names shape new (with_stack before texts cost) (with_stack before texts cost) depth
IsGrowth-ended names shape tree new before texts cost depth n is_whole node reached whole cut read same =
    let fronts : List (List (List ℕ)) = fronts_of names tree.edges.items in
    let growth = reached.stage.growth in
    let inside = slice_get_within fronts n (take reached.count texts) reached.stage.at in
    let at =
    slice_get_read tree.nodes.items (length tree.nodes.items) n node refl
    (omega (arith, growth.branches.nodes_count, growth.branches.steps.count)) read in
    let first : take reached.count texts ≡ take depth texts = cut_texts is_whole refl in
    let F : List (List ℕ) → Type 0 = λ xs. slice_get fronts n ≡ Some xs in
    let G : List (List ℕ) → Type 0 = λ xs. IsGrown fronts tree.nodes.items (with_stack before xs cost) before depth in
    IsGrowth-set names shape tree new (set tree.nodes.items n (ended n is_whole cost node))
    (with_stack before texts cost) (with_stack before texts cost) depth same
    (AreBranches-set names tree.edges.items tree.nodes.items fronts n node (ended n is_whole cost node) growth.branches
    at refl)
    growth.numbering growth.levels
    (IsGrown-ended names tree.edges.items tree.nodes.items fronts before depth n texts is_whole node cost
    growth.branches (subst G first growth.grown) (subst F first reached.stage.at) at
    (λ yes'. take_all depth texts (within yes'))
    (λ no'. (reached.cut (cut no')).1))
  where
    within : is_whole ≡ true → length texts ≤ depth
    within yes' =
        let all = reached.whole (whole yes') in
        let short = reached.stage.growth.grown.short n (take reached.count texts) reached.stage.at in
        let long = length-take-le reached.count texts (omega arith) in
        omega arith

    cut_texts : (b : Bool) → is_whole ≡ b → take reached.count texts ≡ take depth texts
    cut_texts true yes' =
        let all = reached.whole (whole yes') in
        let short = within yes' in
        take_all reached.count texts (omega arith) ∙ sym (take_all depth texts short)
    cut_texts false no' = ap (λ (k : ℕ). take k texts) (reached.cut (cut no')).0

-- a list is added
pub GrowsBy-is :
    (shape : List Edge) (end list cost depth : ℕ) (old begun reached new : Branches) (root node : CostNode) (n : ℕ)
    (is_whole : Bool)
    → 0 < cost
    → root ≡ get_or old.nodes.items 0 root → IsSameBut old begun (set old.nodes.items 0 (counted root list cost))
    → ((names : List (List ℕ)) (before : List Costed) (cost' : ℕ) → AreNames names shape → length before ≡ list
    → 0 < cost' → IsGrowth names shape begun (with_stack before [] cost') before depth
    → IsReached names shape reached before (texts_of names (list_at shape end)) cost' depth n)
    → (is_whole ≡ true → length reached.path.items ≡ 0) → (is_whole ≡ false → 0 < length reached.path.items)
    → node ≡ get_or reached.nodes.items n node
    → IsSameBut reached new (set reached.nodes.items n (ended n is_whole cost node))
    → GrowsBy shape end list cost depth old new
GrowsBy-is shape end list cost depth old begun reached new root node n is_whole above root_read root_same reaches whole
    cut read same names before named last growth =
    let counted_now =
    IsGrowth-counted names shape old begun before list cost depth root last above growth root_read root_same in
    let there = reaches names before cost named last above counted_now in
    IsGrowth-ended names shape reached new before (texts_of names (list_at shape end)) cost depth n is_whole node there
    whole cut read same

-- the stacks of the first lists
abbrev pub first_stacks : List (List ℕ) → List (List ℕ) → List ℕ → ℕ → List Costed
first_stacks names lists costs n = take n (costed (lists_of names lists) costs)

-- a stack of the lists and the costs
costed-get : (lists : List (List (List ℕ))) (costs : List ℕ) (k : ℕ) (texts : List (List ℕ))
    → slice_get lists k ≡ Some texts → k < length costs
    → slice_get (costed lists costs) k ≡ Some (record { texts = texts; cost = slice_index costs k })
unfolding costed
costed-get [] costs k texts at within = absurd (none-some texts at)
costed-get (first ∷ lists) [] k texts at within = absurd (omega arith)
costed-get (first ∷ lists) (cost ∷ costs) zero texts at within =
    ap (λ (xs : List (List ℕ)). Some (record { texts = xs; cost = cost })) (same_Some first texts at)
costed-get (first ∷ lists) (cost ∷ costs) (suc k) texts at within = costed-get lists costs k texts at (omega arith)

-- no more stacks than costs
length-costed : (lists : List (List (List ℕ))) (costs : List ℕ) → length (costed lists costs) ≤ length costs
unfolding costed
length-costed [] costs = omega arith
length-costed (texts ∷ lists) [] = omega arith
length-costed (texts ∷ lists) (cost ∷ costs) = let rest = length-costed lists costs in omega arith

-- a list that is next
record IsNext (names : List (List ℕ)) (shape : List Edge) (ends costs : List ℕ) (n : ℕ) : Type 0 where
  pub count : length (first_stacks names (lists_in shape ends) costs n) ≡ n
  pub more : first_stacks names (lists_in shape ends) costs (n + 1)
      ≡ with_stack (first_stacks names (lists_in shape ends) costs n) (texts_of names (list_at shape (get_or ends n 0)))
      (slice_index costs n)

IsNext-is : (names : List (List ℕ)) (shape : List Edge) (ends costs : List ℕ) (n : ℕ) → n < length ends
    → length costs ≡ length ends → IsNext names shape ends costs n
IsNext-is names shape ends costs n within as_many =
    let lists : List (List ℕ) = lists_in shape ends in
    let stacks : List Costed = costed (lists_of names lists) costs in
    let texts : List (List ℕ) = texts_of names (list_at shape (get_or ends n 0)) in
    let here : Costed = record { texts = texts; cost = slice_index costs n } in
    let listed = length-map ends (list_at shape) in
    let texted = length-map lists (texts_of names) in
    let is : get_or (lists_of names lists) n [] ≡ texts =
    get_or-map (texts_of names) lists n [] [] (omega arith)
    ∙ ap (λ (l : List ℕ). texts_of names l) (get_or-map (list_at shape) ends n 0 [] (omega arith)) in
    let at = slice_get-get_or (lists_of names lists) n [] (omega arith) ∙ ap (λ (ts : List (List ℕ)). Some ts) is in
    let found = costed-get (lists_of names lists) costs n texts at (omega arith) in
    let inside = slice_get_within stacks n here found in
    record {
      count = length-take-le n stacks (omega arith);
      more =
          take_more stacks n here inside
          ∙ ap (λ (s : Costed). take n stacks ++ s ∷ []) (get_or_from_slice_get stacks n here here found);
    }

-- the tree of the first lists, by any names
abbrev pub AreGrown : List Edge → List ℕ → List ℕ → ℕ → Branches → ℕ → Type 0
AreGrown shape ends costs depth tree n =
    (names : List (List ℕ)) → AreNames names shape
    → IsGrowth names shape tree (first_stacks names (lists_in shape ends) costs n)
    (first_stacks names (lists_in shape ends) costs n) depth

pub AreGrown-more : (shape : List Edge) (ends costs : List ℕ) (depth : ℕ) (tree new : Branches) (n : ℕ)
    → n < length ends → length costs ≡ length ends
    → GrowsBy shape (slice_index ends n) n (slice_index costs n) depth tree new → AreGrown shape ends costs depth tree n
    → AreGrown shape ends costs depth new (n + 1)
AreGrown-more shape ends costs depth tree new n within as_many grows grown names named =
    let next = IsNext-is names shape ends costs n within as_many in
    let added = grows names (first_stacks names (lists_in shape ends) costs n) named next.count (grown names named) in
    let P : List Costed → Type 0 = λ stacks. IsGrowth names shape new stacks stacks depth in
    subst P (sym next.more) added

pub AreGrown-free : (shape : List Edge) (ends costs : List ℕ) (depth : ℕ) (tree : Branches) (n : ℕ) → n < length ends
    → length costs ≡ length ends → slice_index costs n ≡ 0
    → AreGrown shape ends costs depth tree n → AreGrown shape ends costs depth tree (n + 1)
AreGrown-free shape ends costs depth tree n within as_many free grown names named =
    let next = IsNext-is names shape ends costs n within as_many in
    let growth = grown names named in
    let before : List Costed = first_stacks names (lists_in shape ends) costs n in
    let texts : List (List ℕ) = texts_of names (list_at shape (get_or ends n 0)) in
    let P : List Costed → Type 0 = λ stacks. IsGrowth names shape tree stacks stacks depth in
    subst P (ap (λ (k : ℕ). with_stack before texts k) (sym free) ∙ sym next.more) (record {
      branches = growth.branches;
      numbering = growth.numbering;
      levels = growth.levels;
      grown = IsGrown-free (fronts_of names tree.edges.items) tree.nodes.items before depth texts growth.grown;
    })

pub HasGrown-all : (names : List (List ℕ)) (shape : List Edge) (ends costs : List ℕ) (depth : ℕ) (tree : Branches)
    (n : ℕ)
    → length costs ≤ n → AreNames names shape → AreGrown shape ends costs depth tree n
    → HasGrown names tree.edges.items tree.nodes.items (costed (lists_of names (lists_in shape ends)) costs) depth
HasGrown-all names shape ends costs depth tree n all named grown =
    let stacks : List Costed = costed (lists_of names (lists_in shape ends)) costs in
    let growth = grown names named in
    let most = length-costed (lists_of names (lists_in shape ends)) costs in
    let P : List Costed → Type 0 = λ xs. IsGrown (fronts_of names tree.edges.items) tree.nodes.items xs xs depth in
    record {
      branches = growth.branches;
      grown = subst P (take_all n stacks (omega arith)) growth.grown;
    }

-- the costs of one list more
pub taken-more : (costs : List ℕ) (n : ℕ) → n < length costs
    → sum (take (n + 1) costs) ≡ sum (take n costs) + slice_index costs n
taken-more costs n within =
    ap (λ (ns : List ℕ). sum ns) (take_more costs n 0 within)
    ∙ sum_by_push (λ (k : ℕ). k) (take n costs) (get_or costs n 0)
