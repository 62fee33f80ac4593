use Rattle.std.proofs.Common.{◌∙◌}
use Rattle.massif_sample.proofs.Making.{profile-is}
use Rattle.massif_sample.proofs.Trees.{both_if_ok}
use Rattle.massif_sample.proofs.sampler.Sampler.finish.Goals as goal

pub returns-clause-profile : goal.returns-clause-profile
returns-clause-profile g c =
    both_if_ok c.into_profile.result _ _
    (λ profile none is names tables events stands.
    is tables names.alloc_fns stands.sampling.fronts.are
    ∙ profile-is _ _ names tables events c.args.cmd.now c.into_profile.ensures.sound c.into_profile.ensures.array none
    stands)
    c.into_profile.ensures.none c.into_profile.ensures.profile
