use Rattle.std.proofs.Common.{◌≡◌, ℕ, ◌<◌, inl, inr, List, length, map, refl, sym, ap, subst, ◌∙◌}
use Rattle.std.specs.Global.{Vec}
use Rattle.std.specs.Prelude.{slice_get}
use Rattle.std.proofs.lemmas.List.{length-map}
use Rattle.cost_tree.specs.CutShapes.{AreCutAlike, equal_cost, left, raised_counts}
use Rattle.cost_tree.specs.Cuts.{cut_lists}
use Rattle.cost_tree.proofs.Lengthening.{cut-count, raised-alike, raised-count, raised-enough, raised-from, raised-left}
use Rattle.cost_tree.proofs.Lengthening.{raised-some}
use Rattle.cost_tree.proofs.cut.Cut.lengthen_some.Goals as goal
use Rattle.cost_tree.proofs.cut.Cut.lengthen_some.Goals.{In_ok-ended_costs_into}

-- as many costs as there are lists
as-many : (whole shape : List (List ℕ)) (counts costs : List ℕ) → length counts ≡ length whole
    → shape ≡ cut_lists counts whole → length (map (equal_cost shape costs) shape) ≡ length counts
as-many whole shape counts costs same is =
    length-map shape (equal_cost shape costs) ∙ ap (λ (ls : List (List ℕ)). length ls) is ∙ cut-count counts whole same
    ∙ sym same

pub ended_costs_into-requires-clause-as_many : goal.ended_costs_into-requires-clause-as_many
ended_costs_into-requires-clause-as_many c =
    c.requires.as_many ∙ sym (cut-count c.args.self.now.counts.items c.args.whole.now c.requires.cut.count)
    ∙ sym (ap (λ (ls : List (List ℕ)). length ls) c.requires.cut.lists)

pub is_some_raised-requires-clause-shared : goal.is_some_raised-requires-clause-shared
is_some_raised-requires-clause-shared c =
    let old = c.args.self.now in
    ap (λ (ns : List ℕ). length ns) (c.deref-3.ensures.value ∙ c.in_ok-ended_costs_into.ensures.shared)
    ∙ as-many c.args.whole.now old.shape old.counts.items c.args.costs.now c.requires.cut.count c.requires.cut.lists
    ∙ sym (ap (λ (ns : List ℕ). length ns) c.deref.ensures.value)

pub raised_counts_into-requires-clause-shared : goal.raised_counts_into-requires-clause-shared
raised_counts_into-requires-clause-shared c =
    let old = c.args.self.now in
    ap (λ (ns : List ℕ). length ns) (c.deref-6.ensures.value ∙ c.in_ok-ended_costs_into.ensures.shared)
    ∙ as-many c.args.whole.now old.shape old.counts.items c.args.costs.now c.requires.cut.count c.requires.cut.lists
    ∙ sym (ap (λ (ns : List ℕ). length ns) c.deref-4.ensures.value)

-- what the lists cost with those that end as they do
abbrev shared_costs : In_ok-ended_costs_into → List ℕ
shared_costs c =
    let lists = cut_lists c.args.self.now.counts.items c.args.whole.now in
    map (equal_cost lists c.args.costs.now) lists

-- there are as many of these as counts
shared-count : (c : In_ok-ended_costs_into) → length (shared_costs c) ≡ length c.args.self.now.counts.items
shared-count c =
    let counts = c.args.self.now.counts.items in
    let whole = c.args.whole.now in
    as-many whole (cut_lists counts whole) counts c.args.costs.now c.requires.cut.count refl

-- and as many lengths
lengths-count : (c : In_ok-ended_costs_into)
    → length (map length c.args.whole.now) ≡ length c.args.self.now.counts.items
lengths-count c = length-map c.args.whole.now length ∙ sym c.requires.cut.count

-- there are as many raised counts as lists
raised-whole : (c : In_ok-ended_costs_into)
    → length (raised_counts c.args.scale c.args.self.now.counts.items (map length c.args.whole.now) (shared_costs c))
    ≡ length c.args.whole.now
raised-whole c =
    raised-count c.args.scale c.args.self.now.counts.items (map length c.args.whole.now) (shared_costs c)
    (lengths-count c) (shared-count c)
    ∙ c.requires.cut.count

-- they are made of slices with these values
raised-of : (c : In_ok-ended_costs_into) (counts lengths shared more : List ℕ) → counts ≡ c.args.self.now.counts.items
    → lengths ≡ c.args.self.now.lengths.items → shared ≡ c.ended_costs_into.new.ended.of_lists.items
    → more ≡ raised_counts c.args.scale counts lengths shared
    → more
    ≡ raised_counts c.args.scale c.args.self.now.counts.items (map length c.args.whole.now) (shared_costs c)
raised-of c counts lengths shared more =
    let old = c.args.self.now in
    raised-from c.args.scale c.args.whole.now old.shape old.counts.items old.lengths.items
    c.ended_costs_into.new.ended.of_lists.items c.args.costs.now counts lengths shared more c.requires.cut.lengths
    c.requires.cut.lists c.in_ok-ended_costs_into.ensures.shared

pub returns-then-not-is_some_raised-clause-enough : goal.returns-then-not-is_some_raised-clause-enough
returns-then-not-is_some_raised-clause-enough c = λ none names depth distinct named.
    let old = c.args.self.now in
    let cut = c.requires.cut in
    let is =
    raised-of (goal.at.returns-then-not-is_some_raised-clause-enough c).In_ok-ended_costs_into _ _ _ c.deref.result.now
    c.deref.ensures.value c.deref-2.ensures.value c.deref-3.ensures.value
    (sym (c.is_some_raised.ensures.none c.if-not-is_some_raised.true)) in
    raised-enough c.args.scale names c.args.whole.now old.counts.items c.args.costs.now cut.some cut.alike cut.count
    (sym is ∙ c.deref.ensures.value) distinct named depth

pub cut_shape-requires : goal.cut_shape-requires
cut_shape-requires c =
    let shared = (goal.at.cut_shape-requires c).In_ok-ended_costs_into in
    let is =
    raised-of shared _ _ _ c.raised_counts_into.new.more.items c.deref-4.ensures.value c.deref-5.ensures.value
    c.deref-6.ensures.value c.in_ok-raised_counts_into.ensures.raised in
    record { as_many = ap (λ (ns : List ℕ). length ns) (c.deref-7.ensures.value ∙ is) ∙ raised-whole shared }

pub returns-clause-cut : goal.returns-clause-cut
returns-clause-cut c =
    let shared = (goal.at.returns-clause-cut c).In_ok-ended_costs_into in
    let cut = c.requires.cut in
    let counts = c.args.self.now.counts.items in
    let whole = c.args.whole.now in
    let swapped : c.swap.new.x.items ≡ c.raised_counts_into.new.more.items =
    ap (λ (v : Vec ℕ). v.items) c.swap.ensures.x_after in
    let is =
    raised-of shared _ _ _ c.swap.new.x.items c.deref-4.ensures.value c.deref-5.ensures.value c.deref-6.ensures.value
    (swapped ∙ c.in_ok-raised_counts_into.ensures.raised) in
    record {
      count = ap (λ (ns : List ℕ). length ns) is ∙ raised-whole shared;
      lengths = cut.lengths;
      lists =
          c.in_ok-shape.ensures.lists ∙ ap (λ (ks : List ℕ). cut_lists ks whole)
          (c.deref-7.ensures.value ∙ sym swapped);
      some =
          λ k count at. raised-some c.args.scale counts (map length whole) (shared_costs shared) cut.some k count
          (ap (λ (ks : List ℕ). slice_get ks k) (sym is) ∙ at);
      alike =
          subst (AreCutAlike whole) (sym is)
          (raised-alike c.args.scale whole counts c.args.costs.now cut.some cut.alike);
    }

pub returns-clause-less : goal.returns-clause-less
returns-clause-less c = λ some.
    let shared = (goal.at.returns-clause-less c).In_ok-ended_costs_into in
    let cut = c.requires.cut in
    let counts = c.args.self.now.counts.items in
    let is =
    raised-of shared _ _ _ c.swap.new.x.items c.deref-4.ensures.value c.deref-5.ensures.value c.deref-6.ensures.value
    (ap (λ (v : Vec ℕ). v.items) c.swap.ensures.x_after ∙ c.in_ok-raised_counts_into.ensures.raised) in
    let asked =
    raised-of shared _ _ _ (raised_counts c.args.scale c.deref.result.now c.deref-2.result.now c.deref-3.result.now)
    c.deref.ensures.value c.deref-2.ensures.value c.deref-3.ensures.value refl in
    let other = c.is_some_raised.ensures.some c.if-not-is_some_raised.false in
    elim (raised-left c.args.scale counts (map length c.args.whole.now) (shared_costs shared) cut.some
    (lengths-count shared) (shared-count shared)) [
      | inl same ↦ absurd (other (asked ∙ same ∙ sym c.deref.ensures.value))
      | inr less ↦ subst (λ (ls : List ℕ). left c.swap.new.x.items ls < left counts ls) (sym cut.lengths)
          (subst (λ (ks : List ℕ). left ks (map length c.args.whole.now) < left counts (map length c.args.whole.now))
          (sym is) less)
    ]
