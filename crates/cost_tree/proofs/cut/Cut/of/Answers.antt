use Rattle.std.proofs.Common.{◌≡◌, ℕ, List, length, replicate, sym, ap, subst, ◌∙◌, rules}
use Rattle.std.specs.Prelude.{slice_get}
use Rattle.std.proofs.lemmas.List.{length-map, length-replicate}
use Rattle.cost_tree.specs.CutShapes.{AreCutAlike}
use Rattle.cost_tree.specs.Cuts.{cut_lists}
use Rattle.cost_tree.proofs.Lengthening.{ones-alike, ones-some}
use Rattle.cost_tree.proofs.cut.Cut.of.Goals as goal

pub cut_shape-requires : goal.cut_shape-requires
cut_shape-requires c =
    let whole = c.args.whole.now in
    let ones : c.in_ok-counts.counts.items ≡ replicate c.len.result 1 =
    c.in_ok-counts.ensures.items_if_clones_equal (λ y same. same) in
    let count : c.len.result ≡ length c.in_ok-lengths.lengths.items = search rules in
    record {
      as_many = ap (λ (ns : List ℕ). length ns) (c.deref.ensures.value ∙ ones) ∙ length-replicate c.len.result 1 ∙ count
          ∙ ap (λ (ns : List ℕ). length ns) c.in_ok-lengths.ensures.lengths ∙ length-map whole length;
    }

pub returns : goal.returns
returns c =
    let whole = c.args.whole.now in
    let n : ℕ = c.len.result in
    let as_many : n ≡ length c.in_ok-lengths.lengths.items = search rules in
    let ones : c.in_ok-counts.counts.items ≡ replicate n 1 =
    c.in_ok-counts.ensures.items_if_clones_equal (λ y same. same) in
    record {
      cut = record {
        count =
            ap (λ (ns : List ℕ). length ns) ones ∙ length-replicate n 1 ∙ as_many
            ∙ ap (λ (ns : List ℕ). length ns) c.in_ok-lengths.ensures.lengths ∙ length-map whole length;
        lengths = c.in_ok-lengths.ensures.lengths;
        lists = c.in_ok-shape.ensures.lists ∙ ap (λ (ns : List ℕ). cut_lists ns whole) c.deref.ensures.value;
        some = λ k count at. ones-some n k count (ap (λ (ns : List ℕ). slice_get ns k) (sym ones) ∙ at);
        alike = subst (AreCutAlike whole) (sym ones) (ones-alike whole n);
      };
    }
