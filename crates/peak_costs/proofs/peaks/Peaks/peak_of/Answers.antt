use Rattle.std.proofs.Common.{◌≡◌, ◌∙◌, refl, sym}
use Rattle.std.specs.Prelude.{slice_index}
use Rattle.live_ledger.specs.declared.figures.Figures.{Figures}
use Rattle.peak_costs.specs.PeakState.{IsSound}
use Rattle.peak_costs.proofs.Keeping.{share-live_at, share-saved_at, share-within, sound-of}
use Rattle.peak_costs.proofs.peaks.Peaks.peak_of.Goals as goal

pub returns-then-at-self : goal.returns-then-at-self
returns-then-at-self c =
    let held = rw (← c.self.view_is) at c.requires in
    let value : c.at-then-at-self.result ≡ slice_index c.args.self.now.shares c.args.stack =
    rw (← c.self.view_is)
    (c.at-then-at-self.ensures.value
    ∙ sym (share-saved_at (λ (f : Figures). f.live) c.self.inside.ledger _ _ _ _ held
    (sym c.at.ensures.value ∙ c.if-at-self.true))) in
    let is_sound : IsSound c.args.self.now = rw (← c.self.view_is) (sound-of _ _ _ _ _ c.self.invariant.kept) in
    record {
      value = value;
      share = λ events stands. value ∙ stands.shares c.args.stack;
      within = share-within c.args.self.now c.args.stack _ is_sound c.requires value;
    }

pub returns-else-at-self : goal.returns-else-at-self
returns-else-at-self c =
    let held = rw (← c.self.view_is) at c.requires in
    let value : c.stack.result.live ≡ slice_index c.args.self.now.shares c.args.stack =
    rw (← c.self.view_is, c.stack.ensures.value)
    (sym (share-live_at (λ (f : Figures). f.live) c.self.inside.ledger _ _ _ _ refl held
    (λ is. c.if-at-self.false (c.at.ensures.value ∙ is)))) in
    let is_sound : IsSound c.args.self.now = rw (← c.self.view_is) (sound-of _ _ _ _ _ c.self.invariant.kept) in
    record {
      value = value;
      share = λ events stands. value ∙ stands.shares c.args.stack;
      within = share-within c.args.self.now c.args.stack _ is_sound c.requires value;
    }
