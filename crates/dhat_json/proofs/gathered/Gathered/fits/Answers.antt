use Rattle.std.proofs.Common.{◌≡◌, sym, ◌∙◌, subst, All, List, ◌<◌, rules}
use Rattle.dhat_json.specs.declared.profile.Point.{Point}
use Rattle.dhat_json.proofs.GatheredLemmas.{fits, is_none}
use Rattle.dhat_json.proofs.gathered.Gathered.fits.Goals as goal

pub returns : goal.returns
returns c all values h =
    let g = c.args.self.now in
    let shape = c.args.shape in
    let none = is_none g.fault (sym c.is_some.ensures ∙ c.if-is_some.false) in
    let bklt : g.shape.bklt ≡ shape.bklt = search rules in
    let bkacc : g.shape.bkacc ≡ shape.bkacc = search rules in
    let below =
    subst (λ (points : List Point). All (λ point. All (λ frame. frame < shape.frames) point.fs) points)
    c.as_slice.ensures.content (c.are_in_table.ensures all) in
    fits g shape values none bklt bkacc below h
