use Rattle.std.proofs.Common.{ap, length, ◌∙◌}
use Rattle.std.proofs.lemmas.List.{length-map}
use Rattle.massif_cull.proofs.Tournament.{keys-cleared, keys-same}
use Rattle.massif_cull.proofs.gaps.Gaps.clear.Goals as goal

pub returns-clause-length : goal.returns-clause-length
returns-clause-length c =
    rw (← c.self.view_is) (keys-same _ _ c.self.inside.max (ap length c.clear_all.ensures ∙ length-map _ _))

pub returns-clause-keys : goal.returns-clause-keys
returns-clause-keys c = λ place. keys-cleared _ _ _ place c.clear_all.ensures
