-- What stacks cost at a place, and the tree that is built of it at the end, when there may be more stacks.
use Rattle.std.proofs.Common.{◌≡◌, ℕ, zero, suc, ◌+◌, ◌-◌, ◌<◌, ◌≤◌, if◌then◌else◌, Bool, true, false, List, [], ◌∷◌}
use Rattle.std.proofs.Common.{length, map, sum, refl, ap, sym, ◌∙◌, arith}
use Rattle.std.specs.Prelude.{◌==◌, slice_get, slice_index, slice_index_or, Some, sum_by}
use Rattle.std.specs.List.{range_with_len}
use Rattle.std.proofs.lemmas.Bool.{eqb-true}
use Rattle.std.proofs.lemmas.List.{get_or_past}
use Rattle.std.proofs.lemmas.List.FromFn.{get_or-map-range_with_len, length-map-range_with_len}
use Rattle.std.proofs.lemmas.List.Sums.{sum-map, sum_by-cons}
use Rattle.std.proofs.lemmas.Option.{slice_get-get_or}
use Rattle.cost_history.specs.declared.change.Change.{Change}
use Rattle.cost_history.specs.Changes as history
use Rattle.cost_tree.specs.Costed.{Costed, costed}
use Rattle.cost_tree.specs.CostLines.{cost_lines, front_lines, gathered_lines, kept_fronts, small_fronts}
use Rattle.cost_tree.specs.NextFronts.{next_fronts}
use Rattle.ht_trace.specs.TableState.{TableState}
use Rattle.live_ledger.specs.declared.event.Event.{Event}
use Rattle.massif_tree.specs.FunctionLists.{trimmed_before, trimmed_lists, trimmed_texts}
use Rattle.massif_tree.specs.declared.options.TreeOptions.{TreeOptions}
use Rattle.massif_tree.specs.MassifTree.{massif_line, massif_tree, scale_of}
use Rattle.massif_tree.proofs.Laws.{AreIdle, range-parts, tree-idle}
use Rattle.massif_sample.specs.declared.options.MassifOptions.{MassifOptions}
use Rattle.massif_sample.specs.FunctionNames.{FunctionNames, ignores}
use Rattle.massif_sample.specs.Options.{tree_options}
use Rattle.massif_sample.specs.Padded.{padded, told}
use Rattle.massif_sample.specs.Places.{gross_at}
use Rattle.massif_sample.specs.Snapshots.{cost_at, costs_at, tree_at}
use Rattle.massif_sample.specs.StandsFor.{AreCostsAt}
use Rattle.massif_sample.proofs.Costs.{map-same}
use Rattle.massif_sample.proofs.Growing.{costed-idle, costed-parts}

-- a stack's cost, where the costs are a function of the stacks' numbers
cost-of : (cost : ℕ → ℕ) (count stack : ℕ) → stack < count
    → slice_index_or (map cost (range_with_len 0 count)) stack 0 ≡ cost stack
cost-of cost count stack below = get_or-map-range_with_len cost 0 count stack stack 0 below (omega arith)

-- there is one for each stack
pub padded-count : (count : ℕ) (costs : List ℕ) → length (padded count costs) ≡ count
unfolding padded
padded-count count costs = length-map-range_with_len (λ (stack : ℕ). slice_index_or costs stack 0) 0 count

pub padded-at : (count : ℕ) (costs : List ℕ) (stack : ℕ) → stack < count
    → slice_get (padded count costs) stack ≡ Some (slice_index_or costs stack 0)
unfolding padded
padded-at count costs stack below =
    slice_get-get_or (padded count costs) stack 0 (let long = padded-count count costs in omega arith)
    ∙ ap (λ (n : ℕ). Some n) (cost-of (λ (n : ℕ). slice_index_or costs n 0) count stack below)

-- of no costs, none is more than 0
abbrev nothing : List ℕ
nothing = []

zeros : (a b n : ℕ) → sum_by (λ (stack : ℕ). slice_index_or nothing (stack - a) 0) (range_with_len b n) ≡ 0
zeros a b zero = refl
zeros a b (suc n) =
    let whole = sum_by-cons (λ (stack : ℕ). slice_index_or nothing (stack - a) 0) b (range_with_len (b + 1) n) in
    let rest = zeros a (b + 1) n in
    let here = get_or_past nothing (b - a) 0 (omega arith) in
    omega arith

-- they sum to no more
rest-within : (costs : List ℕ) (a n : ℕ)
    → sum_by (λ (stack : ℕ). slice_index_or costs (stack - a) 0) (range_with_len a n) ≤ sum costs
rest-within [] a n = let none = zeros a a n in omega arith
rest-within (cost ∷ costs) a zero = omega arith
rest-within (cost ∷ costs) a (suc n) =
    let f : ℕ → ℕ = λ stack. slice_index_or (cost ∷ costs) (stack - a) 0 in
    let g : ℕ → ℕ = λ stack. slice_index_or costs (stack - (a + 1)) 0 in
    let whole = sum_by-cons f a (range_with_len (a + 1) n) in
    let first : f a ≡ cost =
    ap (λ (k : ℕ). slice_index_or (cost ∷ costs) k 0) (let none : a - a ≡ 0 = omega arith in none) in
    let one = sum-map f (range_with_len (a + 1) n) in
    let other = sum-map g (range_with_len (a + 1) n) in
    let same =
    ap sum (map-same f g (a + 1) n
    (λ k low high. ap (λ (j : ℕ). slice_index_or (cost ∷ costs) j 0)
    (let next : k - a ≡ suc (k - (a + 1)) = omega arith in next))) in
    let rest = rest-within costs (a + 1) n in
    let sums = sum_by-cons (λ (k : ℕ). k) cost costs in
    omega arith

pub padded-within : (count : ℕ) (costs : List ℕ) → sum (padded count costs) ≤ sum costs
unfolding padded
padded-within count costs =
    let f : ℕ → ℕ = λ stack. slice_index_or costs stack 0 in
    let g : ℕ → ℕ = λ stack. slice_index_or costs (stack - 0) 0 in
    let one = sum-map f (range_with_len 0 count) in
    let other = sum-map g (range_with_len 0 count) in
    let same =
    ap sum (map-same f g 0 count
    (λ k low high. ap (λ (j : ℕ). slice_index_or costs j 0) (let next : k ≡ k - 0 = omega arith in next))) in
    let rest = rest-within costs 0 count in
    omega arith

-- stacks cost nothing that cost nothing together
idle-costed : (lists : List (List (List ℕ))) (costs : List ℕ) → sum costs ≡ 0 → AreIdle (costed lists costs)
unfolding costed
idle-costed [] costs none = tt
idle-costed (texts ∷ lists) [] none = tt
idle-costed (texts ∷ lists) (cost ∷ costs) none =
    let whole = sum_by-cons (λ (k : ℕ). k) cost costs in (omega arith, idle-costed lists costs (omega arith))

-- the tree of no stacks has one line by any total
no-stacks : (options : TreeOptions) (a b : ℕ) → massif_tree options a [] ≡ massif_tree options b []
unfolding massif_tree cost_lines front_lines kept_fronts small_fronts gathered_lines next_fronts
no-stacks options a b = by_depth options.depth
  where
    by_depth : (depth : ℕ)
        → map (massif_line options.threshold) (front_lines depth (scale_of options a) [] [])
        ≡ map (massif_line options.threshold) (front_lines depth (scale_of options b) [] [])
    by_depth zero = refl
    by_depth (suc depth) = refl

-- so has that of stacks that cost nothing
tree-free : (options : TreeOptions) (a b : ℕ) (stacks : List Costed) → AreIdle stacks
    → massif_tree options a stacks ≡ massif_tree options b stacks
tree-free options a b stacks idle =
    tree-idle options a [] stacks idle ∙ no-stacks options a b ∙ sym (tree-idle options b [] stacks idle)

pub tree-shared : (options : TreeOptions) (total live count : ℕ) (lists : List (List (List ℕ))) (costs : List ℕ)
    → live ≡ sum costs
    → massif_tree options (if live == 0 then 1 else total) (costed lists (padded count costs))
    ≡ massif_tree options total (costed lists (padded count costs))
tree-shared options total live count lists costs is = by_test (live == 0) refl
  where
    by_test : (none : Bool) → (live == 0) ≡ none
        → massif_tree options (if none then 1 else total) (costed lists (padded count costs))
        ≡ massif_tree options total (costed lists (padded count costs))
    by_test true none =
        tree-free options 1 total (costed lists (padded count costs))
        (idle-costed lists (padded count costs)
        (let zero_live = eqb-true live 0 none in let within = padded-within count costs in omega arith))
    by_test false some = refl

-- costs that are those of a place
pub padded-told : (count : ℕ) (costs : List ℕ) (changes : List Change) (place : ℕ)
    → ((stack : ℕ) → slice_index costs stack ≡ history.cost_at changes place stack)
    → padded count costs ≡ told count changes place
unfolding padded told
padded-told count costs changes place are =
    map-same (λ (stack : ℕ). slice_index_or costs stack 0) (history.cost_at changes place) 0 count
    (λ stack low high. are stack)

-- the tree of the stacks whose texts are there is that of all: the others cost nothing
pub tree-told :
    (options : MassifOptions) (names : FunctionNames) (tables : TableState) (events : List Event)
    (place total count : ℕ) (changes : List Change)
    → count ≤ length tables.nodes + 1
    → ((stack : ℕ) → count ≤ stack → history.cost_at changes place stack ≡ 0)
    → total ≡ gross_at options (ignores tables names) events place
    → AreCostsAt names tables events place changes
    → massif_tree (tree_options options) total
    (costed (trimmed_before tables names.alloc_fns count) (told count changes place))
    ≡ tree_at options names tables events place
unfolding tree_at costs_at trimmed_before trimmed_lists told
tree-told options names tables events place total count changes held none total_is at =
    let all : ℕ = length tables.nodes + 1 in
    let extra : ℕ = all - count in
    let texts : ℕ → List (List ℕ) = trimmed_texts tables names.alloc_fns in
    let cost : ℕ → ℕ = cost_at (ignores tables names) events place in
    let asked = tree_options options in
    let gross : ℕ = gross_at options (ignores tables names) events place in
    let first : List Costed = costed (map texts (range_with_len 0 count)) (map cost (range_with_len 0 count)) in
    let idle : List Costed =
    costed (map texts (range_with_len (0 + count) extra)) (map cost (range_with_len (0 + count) extra)) in
    let parts : massif_tree asked gross (costed (map texts (range_with_len 0 all)) (map cost (range_with_len 0 all)))
    ≡ massif_tree asked gross first =
    ap (λ (n : ℕ). massif_tree asked gross (costed (map texts (range_with_len 0 n)) (map cost (range_with_len 0 n))))
    (let both : all ≡ count + extra = omega arith in both)
    ∙ ap (λ (ks : List ℕ). massif_tree asked gross (costed (map texts ks) (map cost ks))) (range-parts 0 count extra)
    ∙ ap (massif_tree asked gross) (costed-parts texts cost (range_with_len 0 count) (range_with_len (0 + count) extra))
    ∙ tree-idle asked gross first idle
    (costed-idle texts cost (0 + count) extra (λ stack low. at.each stack ∙ none stack (omega arith))) in
    ap (λ (t : ℕ). massif_tree asked t
    (costed (map texts (range_with_len 0 count)) (map (history.cost_at changes place) (range_with_len 0 count))))
    total_is
    ∙ ap (λ (cs : List ℕ). massif_tree asked gross (costed (map texts (range_with_len 0 count)) cs))
    (map-same (history.cost_at changes place) cost 0 count (λ n low high. sym (at.each n)))
    ∙ sym parts
