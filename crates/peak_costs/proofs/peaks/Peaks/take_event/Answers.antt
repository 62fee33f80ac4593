use Rattle.std.proofs.Common.{sym, rules, ◌∙◌}
use Rattle.peak_costs.proofs.Keeping.{freed-within, marked-moved, sound-of}
use Rattle.peak_costs.proofs.PeakLemmas.{stands-event}
use Rattle.peak_costs.proofs.peaks.Peaks.take_event.Goals as goal

pub returns-in_err-apply-clause-sound : goal.returns-in_err-apply-clause-sound
returns-in_err-apply-clause-sound g c = rw c.in_err-apply.ensures.unchanged (sound-of _ _ _ _ _ c.self.invariant.kept)

pub returns-in_err-apply-2-clause-sound : goal.returns-in_err-apply-2-clause-sound
returns-in_err-apply-2-clause-sound g c =
    rw c.in_err-apply-2.ensures.unchanged (sound-of _ _ _ _ _ c.self.invariant.kept)

pub follow-requires-clause-freed : goal.follow-requires-clause-freed
follow-requires-clause-freed g c =
    freed-within _ _ c.args.event _ c.in_ok-apply.ensures.taken.changes c.self.invariant.live_within

pub invariant_of-self-then-has : goal.invariant_of-self-then-has
invariant_of-self-then-has g c =
    let held = rw (← c.self.view_is) at c.requires.held in
    let is = sym c.has.ensures ∙ c.if-has.true in
    let moved =
    marked-moved _ _ _ _ _ _ c.args.event c.args.stack c.self.invariant.kept c.in_ok-apply.ensures.sound
    c.in_ok-apply.ensures.taken.changes c.requires.own held in
    rw c.follow.ensures (rw is at moved)

pub returns-then-has-clause-takes : goal.returns-then-has-clause-takes
returns-then-has-clause-takes g c =
    let held = rw (← c.self.view_is) at c.requires.held in
    let is = sym c.has.ensures ∙ c.if-has.true in
    record {
      by_figures = search rules;
      fault = search rules;
      stands =
          rw (← c.self.view_is, c.follow.ensures)
          (λ events stands. rw is at
          (stands-event _ _ _ _ _ _ c.args.stack events c.args.event c.self.invariant.kept c.in_ok-apply.ensures.sound
          c.in_ok-apply.ensures.taken.changes c.requires.own held stands
          (c.in_ok-apply.ensures.taken.stands events stands.ledger)));
      changes = search rules;
      ledger = record { at_most_one_more = search rules; stacks = search rules; infos = search rules };
      unchanged = search rules;
    }

pub returns-then-has-clause-sound : goal.returns-then-has-clause-sound
returns-then-has-clause-sound g c =
    let held = rw (← c.self.view_is) at c.requires.held in
    let is = sym c.has.ensures ∙ c.if-has.true in
    let moved =
    sound-of _ _ _ _ _
    (marked-moved _ _ _ _ _ _ c.args.event c.args.stack c.self.invariant.kept c.in_ok-apply.ensures.sound
    c.in_ok-apply.ensures.taken.changes c.requires.own held).kept in
    rw c.follow.ensures (rw is at moved)

pub follow-requires-2-clause-freed : goal.follow-requires-2-clause-freed
follow-requires-2-clause-freed g c =
    freed-within _ _ c.args.event _ c.in_ok-apply-2.ensures.taken.changes c.self.invariant.live_within

pub invariant_of-self-2 : goal.invariant_of-self-2
invariant_of-self-2 g c =
    let held = rw (← c.self.view_is) at c.requires.held in
    let is = sym c.has.ensures ∙ c.if-has.false in
    let moved =
    marked-moved _ _ _ _ _ _ c.args.event c.args.stack c.self.invariant.kept c.in_ok-apply-2.ensures.sound
    c.in_ok-apply-2.ensures.taken.changes c.requires.own held in
    rw (
      c.save.ensures.saved,
      c.save.ensures.blocks,
      c.save.ensures.stamps,
      c.follow-2.ensures,
      c.stack-before.ensures.value,
    ) (rw is at moved)

pub returns-clause-takes : goal.returns-clause-takes
returns-clause-takes g c =
    let held = rw (← c.self.view_is) at c.requires.held in
    let is = sym c.has.ensures ∙ c.if-has.false in
    record {
      by_figures = search rules;
      fault = search rules;
      stands =
          rw (
            ← c.self.view_is,
            c.save.ensures.saved,
            c.save.ensures.blocks,
            c.save.ensures.stamps,
            c.follow-2.ensures,
            c.stack-before.ensures.value,
          )
          (λ events stands.
          rw is at (stands-event _ _ _ _ _ _ c.args.stack events c.args.event c.self.invariant.kept
          c.in_ok-apply-2.ensures.sound c.in_ok-apply-2.ensures.taken.changes c.requires.own held stands
          (c.in_ok-apply-2.ensures.taken.stands events stands.ledger)));
      changes = search rules;
      ledger = record { at_most_one_more = search rules; stacks = search rules; infos = search rules };
      unchanged = search rules;
    }

pub returns-clause-sound : goal.returns-clause-sound
returns-clause-sound g c =
    let held = rw (← c.self.view_is) at c.requires.held in
    let is = sym c.has.ensures ∙ c.if-has.false in
    let moved =
    sound-of _ _ _ _ _
    (marked-moved _ _ _ _ _ _ c.args.event c.args.stack c.self.invariant.kept c.in_ok-apply-2.ensures.sound
    c.in_ok-apply-2.ensures.taken.changes c.requires.own held).kept in
    rw (
      c.save.ensures.saved,
      c.save.ensures.blocks,
      c.save.ensures.stamps,
      c.follow-2.ensures,
      c.stack-before.ensures.value,
    ) (rw is at moved)
