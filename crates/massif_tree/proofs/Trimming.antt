-- Lemmas on the trimmed lists of stacks, and on what a tree needs of them.
use Rattle.std.proofs.Common.{◌≡◌, ◌≢◌, ℕ, zero, suc, ◌+◌, ◌-◌, ◌<◌, ◌==◌, if◌then◌else◌, eqb, inl, inr, Bool, true}
use Rattle.std.proofs.Common.{false, List, [], ◌∷◌, ◌++◌, length, map, take, drop, drop_of_length-le, get_or, Option}
use Rattle.std.proofs.Common.{None, Some, refl, sym, ap, subst, ◌∙◌, append-nil, arith}
use Rattle.std.specs.Prelude.{slice_get}
use Rattle.std.specs.List.{prefix_len, range_with_len}
use Rattle.std.proofs.Math.Seq.{drop-append-add}
use Rattle.std.proofs.lemmas.Bool.{cases_lt, cond-false}
use Rattle.std.proofs.lemmas.Bool.Decides.{nat_tests}
use Rattle.std.proofs.lemmas.List.{drop-append-le, length_push, map-append, take-take, take_all}
use Rattle.std.proofs.lemmas.List.Folds.{prefix_len-append}
use Rattle.std.proofs.lemmas.List.FromFn.{get_or-map-range_with_len}
use Rattle.std.proofs.lemmas.Option.{none-some, same_Some, slice_get_within}
use Rattle.cost_tree.specs.Costed.{costed}
use Rattle.cost_tree.specs.CostLines.{FrontLine, cost_lines}
use Rattle.cost_tree.specs.Following.{following}
use Rattle.cost_tree.proofs.Laws.{lines-first, listed-more, take-both}
use Rattle.hp_num.proofs.Laws.{slice_get-end, slice_get-front}
use Rattle.ht_trace.specs.declared.frame.FrameAt.{FrameAt}
use Rattle.ht_trace.specs.declared.frame.Style.TheVariants.{Addressed}
use Rattle.ht_trace.specs.FrameText.{frame_text}
use Rattle.ht_trace.specs.StackFrames.{outer_frames, stack_frames}
use Rattle.ht_trace.specs.TableState.{TableState}
use Rattle.massif_tree.specs.declared.options.TreeOptions.{TreeOptions}
use Rattle.massif_tree.specs.FirstLists.{first_lists, first_texts}
use Rattle.massif_tree.specs.FunctionLists.{is_listed, trimmed, trimmed_before, trimmed_texts, without_listed}
use Rattle.massif_tree.specs.MassifTree.{massif_line, massif_tree, scale_of}
use Rattle.massif_tree.specs.Whole.{AreWhole, IsWhole}

-- how many listed ones come first of the frames in front and the others, by whether all in front are listed
listed-first : (listed : FrameAt → Bool) (own outer : List FrameAt) (all : Bool)
    → eqb (prefix_len listed own) (length own) ≡ all
    → prefix_len listed (own ++ outer)
    ≡ (if all then length own + prefix_len listed outer else prefix_len listed own)
listed-first listed own outer all is =
    prefix_len-append listed own outer
    ∙ ap (λ (b : Bool). if b then length own + prefix_len listed outer else prefix_len listed own) is

-- where all are, those that are left are those that are left of the others
without-all : (listed : FrameAt → Bool) (own outer : List FrameAt) → prefix_len listed own ≡ length own
    → drop (prefix_len listed (own ++ outer)) (own ++ outer) ≡ drop (prefix_len listed outer) outer
without-all listed own outer all =
    ap (λ (k : ℕ). drop k (own ++ outer)) (listed-first listed own outer true (grind (arith, nat_tests)))
    ∙ drop-append-add own outer (prefix_len listed outer)

-- and else they are those that are left of the ones in front, and all others
without-some : (listed : FrameAt → Bool) (own outer : List FrameAt) → prefix_len listed own < length own
    → drop (prefix_len listed (own ++ outer)) (own ++ outer) ≡ drop (prefix_len listed own) own ++ outer
without-some listed own outer some =
    ap (λ (k : ℕ). drop k (own ++ outer)) (listed-first listed own outer false (grind (arith, nat_tests)))
    ∙ drop-append-le (prefix_len listed own) own outer (omega arith)

-- the frames of a stack that another is called from
pub outer-is : (tables : TableState) (caller : ℕ) → caller ≢ 0
    → outer_frames tables.instructions tables.nodes caller ≡ stack_frames tables.instructions tables.nodes caller
outer-is tables caller some =
    cond-false (eqb caller 0) [] (stack_frames tables.instructions tables.nodes caller) (grind (arith, nat_tests))

-- the list of an earlier stack
list-of : (tables : TableState) (names : List (List ℕ)) (most count caller : ℕ) (lists : List (List (List ℕ)))
    → lists ≡ first_lists tables names most count → caller < count
    → get_or lists caller [] ≡ first_texts tables names most caller
unfolding first_lists
list-of tables names most count caller lists are within =
    ap (λ (ls : List (List (List ℕ))). get_or ls caller []) are
    ∙ get_or-map-range_with_len (first_texts tables names most) 0 count caller caller [] within (omega arith)

-- what follows the list of a stack that is called from another: the other's texts, where it is trimmed to these frames
pub followed : (tables : TableState) (names : List (List ℕ)) (most stack caller : ℕ) (next : Option ℕ)
    (behind : List FrameAt) (lists : List (List (List ℕ)))
    → lists ≡ first_lists tables names most stack → (caller ≢ 0 → caller < stack)
    → next ≡ (if caller == 0 then None else Some caller) → (caller ≡ 0 → behind ≡ [])
    → (caller ≢ 0 → behind ≡ trimmed tables names caller)
    → following lists next ≡ take most (map (frame_text Addressed tables) behind)
followed tables names most stack zero next behind lists are lower next_is none some =
    ap (λ (n : Option ℕ). following lists n) next_is
    ∙ sym (take_all most [] (omega arith))
    ∙ ap (λ (fs : List FrameAt). take most (map (frame_text Addressed tables) fs)) (sym (none refl))
followed tables names most stack (suc k) next behind lists are lower next_is none some =
    let held : suc k ≢ 0 = λ zero. absurd (omega arith) in
    ap (λ (n : Option ℕ). following lists n)
    (next_is ∙ cond-false (eqb (suc k) 0) None (Some (suc k)) (grind (arith, nat_tests)))
    ∙ list-of tables names most stack (suc k) lists are (lower held)
    ∙ ap (λ (fs : List FrameAt). take most (map (frame_text Addressed tables) fs)) (sym (some held))

-- a stack's list is the texts of some of its frames, and then those of the others
pub listed-on : (tables : TableState) (names : List (List ℕ)) (most stack : ℕ) (rest behind : List FrameAt)
    (after : List (List ℕ)) (lists new : List (List (List ℕ)))
    → trimmed tables names stack ≡ rest ++ behind → after ≡ take most (map (frame_text Addressed tables) behind)
    → new ≡ lists ++ take most (map (frame_text Addressed tables) rest ++ after) ∷ []
    → new ≡ lists ++ first_texts tables names most stack ∷ []
listed-on tables names most stack rest behind after lists new split after_is is =
    let text : FrameAt → List ℕ = frame_text Addressed tables in
    is
    ∙ ap (λ (texts : List (List ℕ)). lists ++ texts ∷ [])
    (ap (λ (texts : List (List ℕ)). take most (map text rest ++ texts)) after_is
    ∙ take-both most (map text rest) (take most (map text behind))
    ∙ ap (λ (texts : List (List ℕ)). take most (map text rest) ++ texts)
    (take-take (most - length (map text rest)) most (map text behind) (omega arith))
    ∙ sym (take-both most (map text rest) (map text behind))
    ∙ ap (λ (texts : List (List ℕ)). take most texts) (sym (map-append text rest behind))
    ∙ ap (λ (fs : List FrameAt). take most (map text fs)) (sym split))

-- where all of a stack's own frames are listed, it is trimmed to what the stack is that it is called from
pub trimmed-all : (tables : TableState) (names : List (List ℕ)) (stack caller n : ℕ) (own : List FrameAt)
    → stack_frames tables.instructions tables.nodes stack ≡ own ++ outer_frames tables.instructions tables.nodes caller
    → n ≡ prefix_len (is_listed tables names) own → n ≡ length own
    → trimmed tables names stack
    ≡ drop n own ++ without_listed tables names (outer_frames tables.instructions tables.nodes caller)
unfolding without_listed
trimmed-all tables names stack caller n own frames front all =
    let listed : FrameAt → Bool = is_listed tables names in
    let outer : List FrameAt = outer_frames tables.instructions tables.nodes caller in
    ap (λ (fs : List FrameAt). drop (prefix_len listed fs) fs) frames
    ∙ without-all listed own outer (sym front ∙ all)
    ∙ ap (λ (fs : List FrameAt). fs ++ drop (prefix_len listed outer) outer) (sym (drop_of_length-le own (omega arith)))

-- which is nothing where it's called from none
pub outer-none : (tables : TableState) (caller : ℕ) → caller ≡ 0
    → outer_frames tables.instructions tables.nodes caller ≡ []
outer-none tables zero none = refl
outer-none tables (suc k) none = absurd (omega arith)

pub trimmed-nothing : (tables : TableState) (names : List (List ℕ)) → without_listed tables names [] ≡ []
unfolding without_listed
trimmed-nothing tables names = refl

-- and else to those of its own that are left, and all others
pub trimmed-some : (tables : TableState) (names : List (List ℕ)) (stack n : ℕ) (own outer : List FrameAt)
    → stack_frames tables.instructions tables.nodes stack ≡ own ++ outer
    → n ≡ prefix_len (is_listed tables names) own → n < length own → trimmed tables names stack ≡ drop n own ++ outer
unfolding without_listed
trimmed-some tables names stack n own outer frames front some =
    let listed : FrameAt → Bool = is_listed tables names in
    ap (λ (fs : List FrameAt). drop (prefix_len listed fs) fs) frames
    ∙ without-some listed own outer (omega arith)
    ∙ ap (λ (k : ℕ). drop k own ++ outer) (sym front)

-- which are those of all its frames that are left
pub trimmed-whole : (tables : TableState) (names : List (List ℕ)) (stack n : ℕ) (own outer frames : List FrameAt)
    → stack_frames tables.instructions tables.nodes stack ≡ own ++ outer
    → n ≡ prefix_len (is_listed tables names) own → n < length own
    → frames ≡ stack_frames tables.instructions tables.nodes stack → trimmed tables names stack ≡ drop n frames ++ []
trimmed-whole tables names stack n own outer frames split front some are =
    trimmed-some tables names stack n own outer split front some
    ∙ sym (drop-append-le n own outer (omega arith))
    ∙ ap (λ (fs : List FrameAt). drop n fs) (sym split ∙ sym are)
    ∙ sym (append-nil (drop n frames))

-- it isn't trimmed where the first of its own isn't listed
pub trimmed-not : (tables : TableState) (names : List (List ℕ)) (stack n : ℕ) (own outer : List FrameAt)
    → stack_frames tables.instructions tables.nodes stack ≡ own ++ outer
    → n ≡ prefix_len (is_listed tables names) own → n < length own → n ≡ 0 → IsWhole tables names stack
trimmed-not tables names stack n own outer frames front some none =
    trimmed-some tables names stack n own outer frames front some
    ∙ ap (λ (k : ℕ). drop k own ++ outer) none
    ∙ sym frames

-- what is known of stacks with one more
pub whole-more : (tables : TableState) (names : List (List ℕ)) (next : ℕ) (old new : List Bool) (flag : Bool)
    → new ≡ old ++ flag ∷ [] → AreWhole tables names next old → (flag ≡ true → IsWhole tables names next)
    → AreWhole tables names (next + 1) new
whole-more tables names next old new flag is are last = λ place n at found.
    let count = ap (λ (flags : List Bool). length flags) is in
    let more = length_push old flag in
    let here : slice_get (old ++ flag ∷ []) place ≡ Some true =
    ap (λ (flags : List Bool). slice_get flags place) (sym is) ∙ found in
    elim (cases_lt place (length old)) [
      | inl before ↦ are place n (omega arith) (sym (slice_get-front old (flag ∷ []) place before) ∙ here)
      | inr behind ↦
          let within = slice_get_within (old ++ flag ∷ []) place true here in
          let end : place ≡ length old = omega arith in
          let same : n ≡ next = omega arith in
          subst (λ (k : ℕ). IsWhole tables names k) (sym same)
          (last (same_Some flag true (sym (slice_get-end old flag place end) ∙ here)))
    ]

-- a stack isn't trimmed where its innermost frame isn't listed
pub trimmed-none : (tables : TableState) (names : List (List ℕ)) (stack : ℕ) (innermost : FrameAt)
    → slice_get (stack_frames tables.instructions tables.nodes stack) 0 ≡ Some innermost
    → is_listed tables names innermost ≡ false
    → IsWhole tables names stack
unfolding without_listed
trimmed-none tables names stack innermost at unlisted =
    let frames : List FrameAt = stack_frames tables.instructions tables.nodes stack in
    ap (λ (k : ℕ). drop k frames) (none frames at)
  where
    none : (frames : List FrameAt) → slice_get frames 0 ≡ Some innermost
        → prefix_len (is_listed tables names) frames ≡ 0
    none [] at = absurd (none-some innermost at)
    none (first ∷ frames) at =
        let same : first ≡ innermost = same_Some first innermost at in
        cond-false (is_listed tables names first) (1 + prefix_len (is_listed tables names) frames) 0
        (ap (is_listed tables names) same ∙ unlisted)

-- the tree of the first texts of stacks is that of all their texts
pub tree-first : (options : TreeOptions) (total : ℕ) (tables : TableState) (names : List (List ℕ)) (count : ℕ)
    (costs : List ℕ) (lists : List (List (List ℕ))) → lists ≡ first_lists tables names (options.depth + 1) count
    → massif_tree options total (costed lists costs)
    ≡ massif_tree options total (costed (trimmed_before tables names count) costs)
unfolding massif_tree first_lists trimmed_before
tree-first options total tables names count costs lists are =
    ap (λ (lines : List FrontLine). map (massif_line options.threshold) lines)
    (ap (λ (lists : List (List (List ℕ))). cost_lines options.depth (scale_of options total) (costed lists costs)) are
    ∙ lines-first options.depth (scale_of options total) (trimmed_texts tables names) (range_with_len 0 count) costs)

-- one stack more
pub first-more : (tables : TableState) (names : List (List ℕ)) (most count : ℕ) (lists next : List (List (List ℕ)))
    → lists ≡ first_lists tables names most count → next ≡ lists ++ first_texts tables names most count ∷ []
    → next ≡ first_lists tables names most (count + 1)
unfolding first_lists
first-more tables names most count lists next are is =
    listed-more (first_texts tables names most) count lists next are is
