use Rattle.std.proofs.Common.{ℕ, List, length, sym, ap, ◌∙◌, subst}
use Rattle.std.specs.Prelude.{All}
use Rattle.std.specs.List.{flat_map}
use Rattle.std.proofs.lemmas.List.{length-map}
use Rattle.std.proofs.lemmas.Result.{IfOk-weaker}
use Rattle.cost_tree.specs.Costed.{Costed, costed}
use Rattle.cost_tree.specs.CostLines.{FrontLine, cost_lines}
use Rattle.cost_tree.specs.Cuts.{cut_lists}
use Rattle.cost_tree.specs.IsShownAs.{IsLevelled}
use Rattle.cost_tree.specs.Texts.{AreTexts, lists_of, texts_of}
use Rattle.cost_tree.specs.TreeLines.{HasLines}
use Rattle.cost_tree.specs.TreeTails.{tailed_at}
use Rattle.cost_tree.proofs.Lengthening.{cut-count, cut-named, cut-texts}
use Rattle.cost_tree.proofs.Levels.{lines-levelled}
use Rattle.cost_tree.proofs.Tailing.{AreForked, tree-tailed}
use Rattle.cost_tree.proofs.front_lines.take_costed.Goals as goal

pub of_shape-requires-clause-texts : goal.of_shape-requires-clause-texts
of_shape-requires-clause-texts g c =
    let inside = c.fronts.inside in
    subst (AreTexts inside.names) (sym c.fronts.invariant.cut_of.lists)
    (cut-named inside.names inside.cut.counts.items inside.whole c.fronts.invariant.texts)

pub of_shape-requires-clause-as_many : goal.of_shape-requires-clause-as_many
of_shape-requires-clause-as_many g c =
    let inside = c.fronts.inside in
    let is = c.fronts.invariant.cut_of in
    c.requires.as_many
    ∙ sym (ap (λ (ls : List (List (List ℕ))). length ls) c.fronts.view_is)
    ∙ length-map inside.whole (texts_of inside.names)
    ∙ sym (cut-count inside.cut.counts.items inside.whole is.count)
    ∙ sym (ap (λ (ls : List (List ℕ)). length ls) is.lists)

pub returns : goal.returns
returns g c =
    let inside = c.fronts.inside in
    let names = inside.names in
    let counts = inside.cut.counts.items in
    let costs = c.args.costs.now in
    let depth = c.args.depth in
    let scale = c.args.scale in
    let tree = c.in_ok-tree.tree in
    let is = c.fronts.invariant.cut_of in
    let lists : List (List (List ℕ)) = lists_of names inside.whole in
    let cuts : List Costed = costed (cut_lists counts lists) costs in
    let forked : AreForked lists counts costs = record {
      count = is.count ∙ sym (length-map inside.whole (texts_of names));
      costs_count = c.requires.as_many ∙ sym (ap (λ (ls : List (List (List ℕ))). length ls) c.fronts.view_is);
      some = is.some;
      alone = c.fronts.invariant.alone;
    } in
    let has : HasLines tree cuts depth =
    subst (λ (ls : List (List (List ℕ))). HasLines tree (costed ls costs) depth)
    (ap (λ (ls : List (List ℕ)). lists_of names ls) is.lists ∙ cut-texts names counts inside.whole)
    c.in_ok-tree.ensures.lines in
    record {
      taken = IfOk-weaker c.take_tailed-taken.result _ _
          (λ after taken. (
            names,
            (let levelled = subst (λ (ls : List FrontLine). All IsLevelled ls) (sym (taken.1.all cuts depth has))
                (lines-levelled depth scale cuts) in
                subst (λ (ls : List FrontLine). g.T.FrontLineTaker.takes names c.args.taker ls after)
                (ap (λ (ks : List ℕ). flat_map (tailed_at depth lists ks tree) taken.0) c.deref.ensures.value
                ∙ tree-tailed tree depth scale lists counts costs taken.0 forked has taken.1
                ∙ ap (λ (ls : List (List (List ℕ))). cost_lines depth scale (costed ls costs)) c.fronts.view_is)
                (taken.2 c.args.taker c.in_ok-tree.ensures.names c.in_ok-take_texts.ensures.taken levelled)),
          ))
          c.take_tailed-taken.ensures.taken;
    }
