use Rattle.std.proofs.Common.{◌≡◌, ◌∙◌, ◌-◌, ◌++◌, ◌∷◌, [], ap, subst, sym, refl, arith}
use Rattle.massif_cull.specs.declared.snapshot.Offer.{Offer}
use Rattle.massif_cull.specs.Kept.{Settings}
use Rattle.massif_cull.specs.TakenAs.{taken_as}
use Rattle.massif_sample.specs.Options.{settings_of}
use Rattle.massif_sample.specs.StandsFor.{IsSampling}
use Rattle.massif_sample.specs.View.{offer_of, state_of}
use Rattle.massif_sample.proofs.Sampling.{sampling-offered}
use Rattle.massif_sample.proofs.samples.Samples.take.Goals as goal

pub take-requires-clause-judged : goal.take-requires-clause-judged
take-requires-clause-judged c =
    let inside = c.self.inside in
    let offer_is : c.offer-offer.result ≡ offer_of inside.running c.args.as_peak =
    rw (← c.self.view_is) at c.offer-offer.ensures.exact in
    let judged = rw (← c.self.view_is) at c.requires.judged in
    judged
    ∙ sym (ap (λ (s : Settings). taken_as s inside.array.kept c.offer-offer.result) c.self.invariant.settings
    ∙ ap (λ (o : Offer). taken_as (settings_of inside.options) inside.array.kept o) offer_is)

pub returns-clause-sampling : goal.returns-clause-sampling
returns-clause-sampling c =
    let within = c.self.invariant.running.heap_within in
    let inside = c.self.inside in
    let old = state_of inside.options inside.running inside.array inside.failed inside.fronts inside.history in
    let offer = c.offer-offer.result in
    let offer_is : offer ≡ offer_of inside.running c.args.as_peak =
    rw (← c.self.view_is) at c.offer-offer.ensures.exact in
    rw (← c.self.view_is)
    (λ names tables events made tree was.
    subst (λ (o : Offer). IsSampling (record old { array = c.take.new.self }) names tables events (made ++ o ∷ []))
    offer_is
    (sampling-offered old c.take.new.self names tables events made offer
    (record { heap = inside.running.heap; extra = inside.running.gross - inside.running.heap }) c.args.taken
    (record {
      place = ap (λ (o : Offer). o.place) offer_is;
      time = ap (λ (o : Offer). o.time) offer_is;
      total = ap (λ (o : Offer). o.total) offer_is;
      heap = refl;
      extra = omega arith;
      stands = c.take.ensures.takes.stands;
      origins = c.take.ensures.takes.origins;
    })
    tree
    was))
