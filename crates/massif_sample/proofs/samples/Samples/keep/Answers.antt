use Rattle.std.proofs.Common.{◌≡◌, ◌∙◌, length, ap, arith}
use Rattle.massif_sample.specs.SamplesState.{SamplesState}
use Rattle.massif_sample.specs.View.{state_of}
use Rattle.massif_sample.proofs.Sampling.{sampling-kept}
use Rattle.massif_sample.proofs.samples.Samples.keep.Goals as goal

pub returns-clause-kept : goal.returns-clause-kept
returns-clause-kept g c =
    let inside = c.self.inside in
    let same : length inside.fronts ≡ length c.args.self.now.fronts =
    ap (λ (s : SamplesState). length s.fronts) (c.self.view_is ∙ c.thin.ensures.samples) in
    λ names tables events made said was.
    sampling-kept (state_of inside.options inside.running inside.array inside.failed inside.fronts inside.history)
    c.keep.new.self.history c.args.stacks _ names tables events made
    c.in_ok-keep.ensures.before c.in_ok-keep.ensures.here c.in_ok-keep.ensures.last c.in_ok-keep.ensures.stacks
    (let fronts = c.requires.fronts in omega arith) said
    (rw (← c.self.view_is) at (c.thin.ensures.sampling names tables events made was))
