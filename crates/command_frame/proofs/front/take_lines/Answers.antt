use Rattle.std.proofs.Common.{◌≡◌, ◌+◌, ◌-◌, ℕ, List, length, drop, refl, sym, subst, ◌∙◌, arith}
use Rattle.command_frame.specs.Batch.{HasGivenFront, HasGivenLine}
use Rattle.command_frame.specs.Report.{Report}
use Rattle.command_frame.proofs.BatchLemmas.{nothing_taken}
use Rattle.command_frame.proofs.FrontLoop.{all_left, front_kept, line_more, line_some, line_within, passes_more}
use Rattle.command_frame.proofs.front.take_lines.Goals as goal

pub lines-init : goal.lines-init
lines-init g c =
    let none : 0 ≡ length c.args.ready.now - length c.args.ready.now = omega arith in
    let report = g.T.LineTaker.report c.args.taker.now in
    let has = g.T.LineTaker.has_taken c.args.taker.now in
    let output = c.args.output.now.items in
    record {
      left = all_left c.args.ready.now;
      few = omega arith;
      sound = c.requires.sound;
      measure = omega arith;
      report = refl;
      front =
          subst (λ (bytes : ℕ). HasGivenFront report has has c.args.ready.now bytes 0 output output) none
          (nothing_taken report has c.args.ready.now);
    }

pub lines-preserved : goal.lines-preserved
lines-preserved g c =
    let held = c.lines.invariant in
    let report = g.T.LineTaker.report c.args.taker.now in
    let old = g.T.LineTaker.has_taken c.lines.taker in
    let new = g.T.LineTaker.has_taken c.front.new.self in
    let before = c.lines.output.items in
    let after = c.front.new.output.items in
    let bytes : ℕ = length c.args.ready.now - length c.lines.rest.now in
    let more = c.in-Some.bytes in
    let one : HasGivenLine report old new (drop bytes c.args.ready.now) more before after =
    subst (λ (part : List ℕ). HasGivenLine report old new part more before after) held.left.is
    (subst (λ (r : Report). HasGivenLine r old new c.lines.rest.now more before after) held.report
    c.in-Some.ensures.taken) in
    let within = line_within _ _ _ c.lines.rest.now more c.in-Some.ensures.taken in
    let some = line_some _ _ _ c.lines.rest.now more c.in-Some.ensures.taken in
    let next = passes_more c.args.ready.now c.lines.rest.now more held.left within in
    record {
      left = next.is_left;
      few = omega (arith, some, held.few, next.size);
      sound = c.front.ensures.sound;
      measure = omega (arith, c.in-Some.ensures.measure, held.measure, next.size);
      report = c.front.ensures.report ∙ held.report;
      front =
          subst (λ (n : ℕ). HasGivenFront report (g.T.LineTaker.has_taken c.args.taker.now) new c.args.ready.now n
          (c.lines.lines + 1) c.args.output.now.items after) (sym
          next.size)
          (line_more report (g.T.LineTaker.has_taken c.args.taker.now) old new c.args.ready.now bytes c.lines.lines more
          held.front one);
    }

pub returns-in_default : goal.returns-in_default
returns-in_default g c =
    let held = c.lines.invariant in
    record {
      front =
          front_kept (g.T.LineTaker.report c.args.taker.now) (g.T.LineTaker.has_taken c.args.taker.now)
          (g.T.LineTaker.has_taken c.lines.taker) (g.T.LineTaker.has_taken c.front.new.self) c.args.ready.now
          (length c.args.ready.now - length c.lines.rest.now) c.lines.lines held.front c.in_default.ensures.taken;
      held = omega arith;
      few = held.few;
      sound = c.front.ensures.sound;
      measure = omega (arith, c.in_default.ensures.measure, held.measure);
      report = c.front.ensures.report ∙ held.report;
    }
