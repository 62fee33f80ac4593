-- Lemmas on the lines of a tree that may be written.
use Rattle.std.proofs.Common.{◌≡◌, ℕ, zero, suc, ◌+◌, ◌-◌, ◌^◌, ◌<◌, ◌≤◌, List, [], ◌∷◌, ◌++◌, length, map, filter}
use Rattle.std.proofs.Common.{get_or, Some, refl, sym, ap, ◌∙◌, arith, append-nil}
use Rattle.std.specs.Prelude.{All, slice_get, sum_by}
use Rattle.std.specs.List.{flat_map, range_with_len}
use Rattle.std.specs.Option.{option_map}
use Rattle.std.proofs.lemmas.List.Elements.{All-append, All-cons, All-head, All-map, All-nil, All-tail, All-take}
use Rattle.std.proofs.lemmas.List.Elements.{All-weaker}
use Rattle.cost_tree.specs.declared.scale.Scale.{Scale}
use Rattle.cost_tree.specs.Costed.{Costed}
use Rattle.cost_tree.specs.CostLines.{FrontLine, cost_lines, cost_of, front_line, front_lines, gathered_lines}
use Rattle.cost_tree.specs.CostLines.{kept_fronts, small_fronts}
use Rattle.cost_tree.specs.Inclusive.{inclusive}
use Rattle.cost_tree.specs.NextFronts.{longer_front, next_fronts, opens, texts_at}
use Rattle.cost_tree.proofs.Laws.{All-flat, kept-all, lines-few, small-within}
use Rattle.ht_trace.specs.declared.frame.FrameAt.{FrameAt}
use Rattle.ht_trace.specs.declared.frame.Style.TheVariants.{Addressed}
use Rattle.ht_trace.specs.FrameText.{frame_text}
use Rattle.ht_trace.specs.TableState.{TableState}
use Rattle.massif_file.specs.TreeLine.{TreeLine}
use Rattle.massif_file.specs.IsWritable.{IsLine, IsText, IsWritableLine}
use Rattle.massif_file.specs.Trees.{IsTree, no_tree}
use Rattle.massif_tree.specs.declared.options.TreeOptions.{TreeOptions}
use Rattle.massif_tree.specs.FunctionLists.{trimmed, trimmed_lists, trimmed_texts}
use Rattle.massif_tree.specs.MassifTree.{label_of, massif_line, massif_tree, scale_of}
use Rattle.massif_tree.proofs.Forests.{front-count, front-levels, front-lines, front_tree}
use Rattle.massif_tree.proofs.OneLine.{frame-text, gathered-text, root-text}

-- a tree to a depth of at most 256 may stand in a profile
pub right : (options : TreeOptions) (total : ℕ) (stacks : List Costed) → options.depth ≤ 256
    → IsTree (massif_tree options total stacks)
unfolding massif_tree cost_lines
right options total stacks shallow =
    let scale : Scale = scale_of options total in
    record {
      tree = front_tree options.depth scale stacks [] no_tree;
      one = front-count options.depth scale stacks [] no_tree;
      levels = front-levels options.depth 257 scale stacks [] no_tree (omega arith) (omega arith);
      same =
          sym (front-lines options.depth scale stacks [] no_tree
          ∙ append-nil (map (massif_line options.threshold) (front_lines options.depth scale stacks [])));
    }

-- the first line has the cost of the front
front-bytes : (more threshold : ℕ) (scale : Scale) (stacks : List Costed) (front : List (List ℕ))
    → option_map (λ (line : TreeLine). line.bytes)
    (slice_get (map (massif_line threshold) (front_lines more scale stacks front)) 0)
    ≡ Some (inclusive front stacks)
unfolding front_lines
front-bytes zero threshold scale stacks front = refl
front-bytes (suc more) threshold scale stacks front = refl

pub root-bytes : (options : TreeOptions) (total sum : ℕ) (stacks : List Costed) → inclusive [] stacks ≡ sum
    → option_map (λ (line : TreeLine). line.bytes) (slice_get (massif_tree options total stacks) 0) ≡ Some sum
unfolding massif_tree cost_lines
root-bytes options total sum stacks is =
    front-bytes options.depth options.threshold (scale_of options total) stacks [] ∙ ap (λ (n : ℕ). Some n) is

-- what holds of stacks whose tree may be written
pub record MayWrite (stacks : List Costed) : Type 0 where
  pub few : length stacks < 2 ^ 32
  pub within : (front : List (List ℕ)) → inclusive front stacks ≤ 2 ^ 62
  pub texts : All (λ (stack : Costed). All IsText stack.texts) stacks

-- a front of texts has a label that may be written
label-text : (front : List (List ℕ)) → All IsText front → IsText (label_of front)
label-text [] all = root-text
label-text (text ∷ more) all = all (length (text ∷ more) - 1) [] (omega arith)

-- a front that goes on from another is one of such texts
stack-texts : (stacks : List Costed) (n : ℕ) → All (λ (stack : Costed). All IsText stack.texts) stacks
    → All IsText (texts_at stacks n)
stack-texts [] n all = All-nil IsText
stack-texts (stack ∷ stacks) zero all = All-head (λ (s : Costed). All IsText s.texts) stack stacks all
stack-texts (stack ∷ stacks) (suc n) all =
    stack-texts stacks n (All-tail (λ (s : Costed). All IsText s.texts) stack stacks all)

next-texts : (front : List (List ℕ)) (stacks : List Costed) → All (λ (stack : Costed). All IsText stack.texts) stacks
    → All (All IsText) (next_fronts front stacks)
unfolding next_fronts
next-texts front stacks all =
    let places : List ℕ = filter (opens front stacks) (range_with_len 0 (length stacks)) in
    All-map (All IsText) (longer_front front stacks) places
    (λ k d within. All-take IsText (length front + 1) (texts_at stacks (get_or places k d))
    (stack-texts stacks (get_or places k d) all))

-- a line of a tree whose line of the file may be written
abbrev MayStand : ℕ → FrontLine → Type 0
MayStand threshold line = IsWritableLine (massif_line threshold line)

-- the line of places that are gathered
gathered-writable : (threshold : ℕ) (stacks : List Costed) (level : ℕ) (fronts : List (List (List ℕ)))
    → sum_by (cost_of stacks) fronts ≤ 2 ^ 62 → All (MayStand threshold) (gathered_lines stacks level fronts)
unfolding gathered_lines
gathered-writable threshold stacks level [] within = All-nil (MayStand threshold)
gathered-writable threshold stacks level (next ∷ more) within =
    All-cons (MayStand threshold) _ []
    (record { children = omega arith; bytes = within; label = gathered-text threshold (length (next ∷ more)) })
    (All-nil (MayStand threshold))

-- the lines of a front of such texts
front-writable : (more threshold : ℕ) (scale : Scale) (stacks : List Costed) (front : List (List ℕ)) → MayWrite stacks
    → All IsText front → All (MayStand threshold) (front_lines more scale stacks front)
unfolding front_lines
front-writable zero threshold scale stacks front may texts =
    All-cons (MayStand threshold) (front_line 0 stacks front) []
    (record { children = omega arith; bytes = may.within front; label = label-text front texts })
    (All-nil (MayStand threshold))
front-writable (suc more) threshold scale stacks front may texts =
    let kept : List (List (List ℕ)) = kept_fronts scale stacks front in
    let few : List FrontLine = gathered_lines stacks (length front + 1) (small_fronts scale stacks front) in
    let children = lines-few scale stacks front (length front + 1) in
    let count = may.few in
    let small = small-within scale stacks front in
    let within = may.within front in
    All-cons (MayStand threshold) (front_line (length kept + length few) stacks front)
    (flat_map (front_lines more scale stacks) kept ++ few)
    (record { children = omega arith; bytes = may.within front; label = label-text front texts })
    (All-append (MayStand threshold) (flat_map (front_lines more scale stacks) kept) few
    (All-flat (MayStand threshold) (front_lines more scale stacks) kept
    (All-weaker (All IsText) (λ next. All (MayStand threshold) (front_lines more scale stacks next))
    (λ next all. front-writable more threshold scale stacks next may all) kept
    (kept-all (All IsText) scale stacks front (next-texts front stacks may.texts))))
    (gathered-writable threshold stacks (length front + 1) (small_fronts scale stacks front) (omega arith)))

pub writable : (options : TreeOptions) (total : ℕ) (stacks : List Costed) → MayWrite stacks
    → All IsWritableLine (massif_tree options total stacks)
unfolding massif_tree cost_lines
writable options total stacks may =
    All-map IsWritableLine (massif_line options.threshold)
    (front_lines options.depth (scale_of options total) stacks [])
    (front-writable options.depth options.threshold (scale_of options total) stacks [] may (All-nil IsText))

-- the texts of trimmed stacks
pub texts-writable : (tables : TableState) (alloc_fns : List (List ℕ)) → All IsLine tables.strings
    → All (All IsText) (trimmed_lists tables alloc_fns)
unfolding trimmed_lists
texts-writable tables alloc_fns lines =
    let stacks : List ℕ = range_with_len 0 (length tables.nodes + 1) in
    All-map (All IsText) (trimmed_texts tables alloc_fns) stacks
    (λ k d within.
    let frames : List FrameAt = trimmed tables alloc_fns (get_or stacks k d) in
    All-map IsText (frame_text Addressed tables) frames (λ j e inside. frame-text tables (get_or frames j e) lines))
