use Rattle.std.proofs.Common.{sym, subst, ◌∙◌, arith}
use Rattle.std.proofs.lemmas.List.{get_or_default}
use Rattle.massif_cull.specs.declared.gaps.Key.{Key}
use Rattle.massif_cull.specs.Keys.{no_key, IsFirst}
use Rattle.massif_cull.specs.Tournament.{gaps_of}
use Rattle.massif_cull.proofs.Tournament.{top-first, some-nodes}
use Rattle.massif_cull.proofs.gaps.Gaps.first.Goals as goal

pub index-requires : goal.index-requires
index-requires c =
    let some = rw (← c.self.view_is) at c.requires.some in
    omega (arith, some-nodes c.self.inside c.self.invariant some, c.self.inside.nodes.ok.0)

pub returns : goal.returns
returns c =
    let some = rw (← c.self.view_is) at c.requires.some in
    let ready = rw (← c.self.view_is) at c.requires.ready in
    let top =
    get_or_default c.self.inside.nodes.items 1 no_key c.index.result.now
    (some-nodes c.self.inside c.self.invariant some) in
    rw (← c.self.view_is)
    (subst (λ (key : Key). IsFirst (gaps_of c.self.inside).keys key) (top ∙ sym c.index.ensures)
    (top-first c.self.inside c.self.invariant ready some))
