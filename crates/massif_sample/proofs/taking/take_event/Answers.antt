use Rattle.std.proofs.Common.{◌≡◌, ℕ, ◌++◌, ◌∷◌, [], List, Bool, true, false, sym, subst, ◌∙◌, inl, rules}
use Rattle.live_ledger.specs.declared.event.Event.{Event}
use Rattle.live_ledger.specs.Events.{event_count}
use Rattle.massif_cull.specs.declared.snapshot.Offer.{Offer}
use Rattle.massif_cull.specs.declared.snapshot.Taken.TheVariants.{Detailed}
use Rattle.massif_sample.specs.declared.options.MassifOptions.{MassifOptions}
use Rattle.massif_sample.specs.Due.{IsTakenAs}
use Rattle.massif_sample.specs.FunctionNames.{ignores}
use Rattle.massif_sample.specs.Offers.{offer_at, offers, peak_before}
use Rattle.massif_sample.specs.Running.{AreFigures, passes_most, with_event}
use Rattle.massif_sample.specs.SamplesState.{SamplesState}
use Rattle.massif_sample.specs.StandsFor.{IsSampling, StandsFor}
use Rattle.massif_sample.proofs.Standing.{counted-event, counted-is, due-detailed, fault-counted, fault-passed}
use Rattle.massif_sample.proofs.Standing.{figures-behind, of-taken, stands-counted, stands-passed, tells-counted}
use Rattle.massif_sample.proofs.Trees.{both_ok, of_err}
use Rattle.massif_sample.proofs.taking.take_event.Goals as goal

pub returns-in_default-clause-stands : goal.returns-in_default-clause-stands
returns-in_default-clause-stands g c =
    let of_stack =
    of-taken c.args.stacks.now c.args.samples.now c.args.ledger.now c.args.event c.requires.event
    c.in_ok-check.ensures.sound in
    λ names events texts stands ledger.
    let uncounted =
    counted-is names c.args.stacks.now.tables.now c.args.stacks.now.judged.now c.args.event c.requires.event.judged
    stands.judged of_stack
    ∙ c.in_default.ensures.none in
    subst (λ (s : SamplesState). StandsFor c.args.stacks.now.judged.now s names c.args.stacks.now.tables.now
    (events ++ c.args.event ∷ []))
    (sym c.pass.ensures.samples)
    (stands-passed c.args.stacks.now.judged.now c.args.samples.now names c.args.stacks.now.tables.now events
    c.args.event uncounted of_stack stands)

pub returns-in_default-clause-fault : goal.returns-in_default-clause-fault
returns-in_default-clause-fault g c =
    let of_stack =
    of-taken c.args.stacks.now c.args.samples.now c.args.ledger.now c.args.event c.requires.event
    c.in_ok-check.ensures.sound in
    λ names events stands ledger.
    let uncounted =
    counted-is names c.args.stacks.now.tables.now c.args.stacks.now.judged.now c.args.event c.requires.event.judged
    stands.judged of_stack
    ∙ c.in_default.ensures.none in
    fault-passed c.args.samples.now.options (ignores c.args.stacks.now.tables.now names) events c.args.event
    (sym (c.in_ok-check.ensures.fault events ledger)) uncounted

pub behind-requires-clause-within : goal.behind-requires-clause-within
behind-requires-clause-within g c =
    let both = c.requires.event.stands in
    let known =
    counted-event c.args.stacks.now c.args.samples.now c.args.ledger.now both.0 both.1 c.args.event c.requires.event
    c.in_ok-check.ensures.sound c.in-Some.ensures.counted c.in_ok-check.ensures.by_figures
    (λ weight. c.possible_weights.ensures (both.1 ++ c.args.event ∷ []) weight
    (c.in_ok-check.ensures.possible both.1 both.3))
    both.2 in
    known.can

pub returns-in_default-behind-clause-fault : goal.returns-in_default-behind-clause-fault
returns-in_default-behind-clause-fault g c =
    let passes : passes_most (with_event c.args.samples.now.options c.args.samples.now.running c.args.event)
    ≡ true = search rules in
    λ names events stands ledger.
    let known =
    counted-event c.args.stacks.now c.args.samples.now c.args.ledger.now names events c.args.event c.requires.event
    c.in_ok-check.ensures.sound c.in-Some.ensures.counted c.in_ok-check.ensures.by_figures
    (λ weight. c.possible_weights.ensures (events ++ c.args.event ∷ []) weight
    (c.in_ok-check.ensures.possible events ledger))
    stands in
    fault-counted c.args.samples.now.options (ignores c.args.stacks.now.tables.now names) events c.args.event _ true
    (sym (c.in_ok-check.ensures.fault events ledger)) known.counted known.figures passes

pub returns-in_err-sample_before-clause-fault : goal.returns-in_err-sample_before-clause-fault
returns-in_err-sample_before-clause-fault g c = λ names events stands ledger.
    let known =
    counted-event c.args.stacks.now c.args.samples.now c.args.ledger.now names events c.args.event c.requires.event
    c.in_ok-check.ensures.sound c.in-Some.ensures.counted c.in_ok-check.ensures.by_figures
    (λ weight. c.possible_weights.ensures (events ++ c.args.event ∷ []) weight
    (c.in_ok-check.ensures.possible events ledger))
    stands in
    tells-counted c.args.samples.now (ignores c.args.stacks.now.tables.now names) events c.args.event
    c.in-Some-behind.next c.from_residual-in_err-sample_before.result c.in-Some-behind.ensures.next known
    (c.in_ok-check.ensures.fault events ledger) (search rules)

pub returns-in_err-sample_before-clause-due : goal.returns-in_err-sample_before-clause-due
returns-in_err-sample_before-clause-due g c = λ err names events texts stands ledger.
    let known =
    counted-event c.args.stacks.now c.args.samples.now c.args.ledger.now names events c.args.event c.requires.event
    c.in_ok-check.ensures.sound c.in-Some.ensures.counted c.in_ok-check.ensures.by_figures
    (λ weight. c.possible_weights.ensures (events ++ c.args.event ∷ []) weight
    (c.in_ok-check.ensures.possible events ledger))
    stands in
    inl (record {
      counted = known.counted;
      free = c.in_err-sample_before.ensures.free;
      taken =
          c.in_err-sample_before.ensures.offered.due names events
          (offers c.args.samples.now.options (ignores c.args.stacks.now.tables.now names) events) stands.sampling;
    })

pub returns-clause-stands : goal.returns-clause-stands
returns-clause-stands g c =
    let of_stack =
    of-taken c.args.stacks.now c.args.samples.now c.args.ledger.now c.args.event c.requires.event
    c.in_ok-check.ensures.sound in
    both_ok c.advance.result
    (λ sampled some names events texts stands ledger.
    let ignored : ℕ → Bool = ignores c.args.stacks.now.tables.now names in
    let after : List Event = events ++ c.args.event ∷ [] in
    let known =
    counted-event c.args.stacks.now c.args.samples.now c.args.ledger.now names events c.args.event c.requires.event
    c.in_ok-check.ensures.sound c.in-Some.ensures.counted c.in_ok-check.ensures.by_figures
    (λ weight. c.possible_weights.ensures (events ++ c.args.event ∷ []) weight
    (c.in_ok-check.ensures.possible events ledger))
    stands in
    let before : List Offer =
    offers c.args.samples.now.options ignored events
    ++ peak_before c.args.samples.now.options ignored events c.args.event (event_count events) in
    let peak =
    c.in_ok-sample_before.ensures.sampling names events (offers c.args.samples.now.options ignored events) texts
    stands.judged ledger stands.sampling in
    let same = c.sample_before.ensures.offered.options in
    let here =
    subst (λ (o : MassifOptions). AreFigures o ignored after c.in-Some-behind.next) (sym same)
    (figures-behind c.args.samples.now ignored events c.args.event c.in-Some-behind.next c.in-Some-behind.ensures.next
    known) in
    stands-counted c.args.stacks.now.judged.now c.args.samples.now c.advance.new.samples names
    c.args.stacks.now.tables.now events c.args.event known.counted stands (c.advance.ensures.advanced.options ∙ same)
    (subst (λ (o : MassifOptions). IsSampling c.advance.new.samples names c.args.stacks.now.tables.now after
    (before ++ offer_at o ignored after false (event_count after) ∷ [])) same
    (sampled names events before texts stands.judged ledger peak of_stack here))
    some)
    c.advance.ensures.sampling c.advance.ensures.advanced.some

pub returns-clause-fault : goal.returns-clause-fault
returns-clause-fault g c = λ names events stands ledger.
    let known =
    counted-event c.args.stacks.now c.args.samples.now c.args.ledger.now names events c.args.event c.requires.event
    c.in_ok-check.ensures.sound c.in-Some.ensures.counted c.in_ok-check.ensures.by_figures
    (λ weight. c.possible_weights.ensures (events ++ c.args.event ∷ []) weight
    (c.in_ok-check.ensures.possible events ledger))
    stands in
    tells-counted c.args.samples.now (ignores c.args.stacks.now.tables.now names) events c.args.event
    c.in-Some-behind.next c.advance.result c.in-Some-behind.ensures.next known
    (c.in_ok-check.ensures.fault events ledger) c.advance.ensures.advanced.only

pub returns-clause-due : goal.returns-clause-due
returns-clause-due g c =
    let of_stack =
    of-taken c.args.stacks.now c.args.samples.now c.args.ledger.now c.args.event c.requires.event
    c.in_ok-check.ensures.sound in
    λ err names events texts stands ledger.
    let ignored : ℕ → Bool = ignores c.args.stacks.now.tables.now names in
    let after : List Event = events ++ c.args.event ∷ [] in
    let known =
    counted-event c.args.stacks.now c.args.samples.now c.args.ledger.now names events c.args.event c.requires.event
    c.in_ok-check.ensures.sound c.in-Some.ensures.counted c.in_ok-check.ensures.by_figures
    (λ weight. c.possible_weights.ensures (events ++ c.args.event ∷ []) weight
    (c.in_ok-check.ensures.possible events ledger))
    stands in
    let before : List Offer =
    offers c.args.samples.now.options ignored events
    ++ peak_before c.args.samples.now.options ignored events c.args.event (event_count events) in
    let peak =
    c.in_ok-sample_before.ensures.sampling names events (offers c.args.samples.now.options ignored events) texts
    stands.judged ledger stands.sampling in
    let same = c.sample_before.ensures.offered.options in
    let here =
    subst (λ (o : MassifOptions). AreFigures o ignored after c.in-Some-behind.next) (sym same)
    (figures-behind c.args.samples.now ignored events c.args.event c.in-Some-behind.next c.in-Some-behind.ensures.next
    known) in
    due-detailed c.args.samples.now.options ignored events c.args.event known.counted
    (subst (λ (o : MassifOptions). IsTakenAs o before (offer_at o ignored after false (event_count after)) Detailed)
    same
    (of_err c.advance.result _ err c.advance.ensures.advanced.due names events before peak of_stack here))
