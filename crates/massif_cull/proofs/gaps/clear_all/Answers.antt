use Rattle.std.proofs.Common.{◌<◌, ◌∙◌, ap, get_or, length, set, arith}
use Rattle.std.proofs.lemmas.List.{get_or_default}
use Rattle.std.proofs.lemmas.List.Edits.{map_over_more}
use Rattle.massif_cull.specs.Keys.{no_key}
use Rattle.massif_cull.proofs.gaps.clear_all.Goals as goal

pub nodes-preserved : goal.nodes-preserved
nodes-preserved c =
    let items = c.nodes.node-items in
    let at = c.nodes.node-index in
    let inside : at < length c.args.nodes.now.items = omega (arith, ap length c.deref_mut-node-items.ensures.value) in
    let within : at < length items = omega arith in
    ap (set items at) c.no_key.ensures
    ∙ map_over_more (λ _. no_key) _ items at (get_or items at no_key) inside c.nodes.invariant
    (get_or_default items at no_key (get_or items at no_key) within)
