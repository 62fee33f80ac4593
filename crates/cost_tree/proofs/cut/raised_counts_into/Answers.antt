use Rattle.std.proofs.Common.{ℕ, List, ◌++◌, [], ◌∷◌, take, sym, ap, ◌∙◌, arith}
use Rattle.std.proofs.lemmas.List.{take_all}
use Rattle.cost_tree.specs.CutShapes.{raised_counts}
use Rattle.cost_tree.proofs.Lengthening.{raised-more, raised-start}
use Rattle.cost_tree.proofs.cut.raised_counts_into.Goals as goal

pub each_list-init : goal.each_list-init
each_list-init c = c.reserve.ensures.items ∙ c.clear.ensures.items ∙ sym (raised-start c.args.scale)

pub each_list-preserved : goal.each_list-preserved
each_list-preserved c =
    c.in_ok-push.ensures.items
    ∙ ap (λ (n : ℕ). c.each_list.more.items ++ n ∷ []) c.raised.ensures
    ∙ raised-more c.args.scale c.args.counts.now c.args.lengths.now c.args.shared.now c.each_list.list
    c.each_list.more.items c.requires.lengths c.requires.shared c.each_list-test.true c.each_list.invariant

pub returns : goal.returns
returns c =
    let i = c.each_list.list in
    let same = c.requires.lengths in
    let as_many = c.requires.shared in
    record {
      raised = c.each_list.invariant
          ∙ ap (λ (ks : List ℕ). raised_counts c.args.scale ks (take i c.args.lengths.now) (take i c.args.shared.now))
          (take_all i c.args.counts.now (omega arith))
          ∙ ap (λ (ls : List ℕ). raised_counts c.args.scale c.args.counts.now ls (take i c.args.shared.now))
          (take_all i c.args.lengths.now (omega arith))
          ∙ ap (λ (cs : List ℕ). raised_counts c.args.scale c.args.counts.now c.args.lengths.now cs)
          (take_all i c.args.shared.now (omega arith));
    }
