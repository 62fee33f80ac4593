use Rattle.std.proofs.Common.{ℕ, ◌++◌, [], ◌∷◌, take, sym, ap, ◌∙◌}
use Rattle.std.proofs.lemmas.List.{take_more}
use Rattle.cost_tree.proofs.Lengthening.{raised-more, raised-none, raised-start}
use Rattle.cost_tree.proofs.cut.is_some_raised.Goals as goal

pub each_list-init : goal.each_list-init
each_list-init c = raised-start c.args.scale

pub each_list-preserved : goal.each_list-preserved
each_list-preserved c =
    let i = c.each_list.list in
    let counts = c.args.counts.now in
    sym (raised-more c.args.scale counts c.args.lengths.now c.args.shared.now i (take i counts) c.requires.lengths
    c.requires.shared c.each_list-test.true (sym c.each_list.invariant))
    ∙ ap (λ (n : ℕ). take i counts ++ n ∷ []) (sym c.raised.ensures ∙ c.if-raised-counts.false)
    ∙ sym (take_more counts i 0 c.each_list-test.true)

pub returns-then-raised-counts-clause-some : goal.returns-then-raised-counts-clause-some
returns-then-raised-counts-clause-some c = λ is none.
    c.if-raised-counts.true
    (c.raised.ensures
    ∙ raised-none c.args.scale c.args.counts.now c.args.lengths.now c.args.shared.now c.each_list.list
    c.requires.lengths c.requires.shared c.each_list-test.true none)
