use Rattle.std.proofs.Common.{◌≡◌, ◌≢◌, ◌∙◌, ◌++◌, ◌∷◌, ◌+◌, [], length, ap, subst, inl, inr, rules}
use Rattle.massif_cull.specs.declared.snapshot.Offer.{Offer}
use Rattle.massif_cull.specs.declared.snapshot.Taken.TheVariants.{Normal}
use Rattle.massif_cull.specs.KeptOf.{kept_of}
use Rattle.live_ledger.specs.Events.{event_count}
use Rattle.massif_sample.specs.Due.{IsTakenAs, with_tree}
use Rattle.massif_sample.specs.declared.running.Running.{Running}
use Rattle.massif_sample.specs.FunctionNames.{ignores}
use Rattle.massif_sample.specs.Options.{settings_of}
use Rattle.massif_sample.specs.SamplesState.{SamplesState}
use Rattle.massif_sample.specs.Snapshots.{cost_at}
use Rattle.massif_sample.specs.StandsFor.{IsSampling}
use Rattle.massif_sample.specs.View.{offer_of}
use Rattle.massif_sample.proofs.Costs.{said-as}
use Rattle.massif_sample.proofs.Offers.{offer-now, offered-now}
use Rattle.massif_sample.proofs.Trees.{at_err, taken-with_tree}
use Rattle.massif_sample.proofs.offering.take_due.Goals as goal

pub returns-then-taken-eq1-clause-sampling : goal.returns-then-taken-eq1-clause-sampling
returns-then-taken-eq1-clause-sampling g c =
    let normal : c.args.taken ≡ Normal = search rules in
    λ names events made texts said was.
    offered-now (λ (o : Offer). IsSampling c.take.new.self names c.args.stacks.now.tables.now events (made ++ o ∷ []))
    c.args.as_peak was (c.take.ensures.sampling names c.args.stacks.now.tables.now events made (inl normal) was)

pub returns-in_err-add_fronts-clause-offered : goal.returns-in_err-add_fronts-clause-offered
returns-in_err-add_fronts-clause-offered g c =
    let no_normal : c.args.taken ≢ Normal = search rules in
    record {
      options = search rules;
      running = search rules;
      failed = search rules;
      fronts = search rules;
      some = search rules;
      due = at_err c.from_residual.result
          (λ names events made was.
          offered-now (λ (o : Offer). IsTakenAs c.args.samples.now.options made o (with_tree c.args.as_peak))
          c.args.as_peak was (record {
            taken_is =
                taken-with_tree (settings_of c.args.samples.now.options)
                (kept_of (settings_of c.args.samples.now.options) made)
                (offer_of c.args.samples.now.running c.args.as_peak) c.args.taken
                (c.requires.due.judged.of_sampling names c.args.stacks.now.tables.now events made was)
                c.requires.due.some no_normal;
          }));
    }

pub returns-in_err-keep-clause-offered : goal.returns-in_err-keep-clause-offered
returns-in_err-keep-clause-offered g c =
    let no_normal : c.args.taken ≢ Normal = search rules in
    record {
      options = search rules;
      running = search rules;
      failed = search rules;
      fronts = search rules;
      some = search rules;
      due = at_err c.from_residual-in_err-keep.result
          (λ names events made was.
          offered-now (λ (o : Offer). IsTakenAs c.args.samples.now.options made o (with_tree c.args.as_peak))
          c.args.as_peak was (record {
            taken_is =
                taken-with_tree (settings_of c.args.samples.now.options)
                (kept_of (settings_of c.args.samples.now.options) made)
                (offer_of c.args.samples.now.running c.args.as_peak) c.args.taken
                (c.requires.due.judged.of_sampling names c.args.stacks.now.tables.now events made was)
                c.requires.due.some no_normal;
          }));
    }

pub returns-clause-sampling : goal.returns-clause-sampling
returns-clause-sampling g c =
    let same : c.keep.new.self.running ≡ c.args.samples.now.running =
    ap (λ (s : SamplesState). s.running) c.keep.ensures.samples
    ∙ ap (λ (s : SamplesState). s.running) c.add_fronts.ensures.samples in
    λ names events made texts said was.
    let offer_is =
    ap (λ (r : Running). offer_of r c.args.as_peak) same
    ∙ offer-now c.args.samples.now.options (ignores c.args.stacks.now.tables.now names) events
    c.args.samples.now.running
    c.args.as_peak was.figures in
    let known = c.in_ok-add_fronts.ensures.sampling names events made texts was in
    let here =
    said-as c.stacks.result (length c.args.stacks.now.tables.now.nodes + 1)
    (cost_at (ignores c.args.stacks.now.tables.now names) events (event_count events)) c.stacks.ensures.count said in
    let kept = c.in_ok-keep.ensures.kept names c.args.stacks.now.tables.now events made here known in
    subst (λ (o : Offer). IsSampling c.take-2.new.self names c.args.stacks.now.tables.now events (made ++ o ∷ []))
    offer_is
    (c.take-2.ensures.sampling names c.args.stacks.now.tables.now events made
    (inr kept.costs) kept.sampling)
