use Rattle.std.proofs.Common.{◌+◌, ◌-◌, ◌≤◌, ◌≡◌, ◌∙◌, ℕ, List, ap, length, length-drop, drop, subst, arith}
use Rattle.command_frame.specs.Batch.{HasGivenFront}
use Rattle.command_frame.specs.Report.{Report}
use Rattle.command_frame.proofs.BatchLemmas.{nothing_taken}
use Rattle.command_frame.proofs.FrontLoop.{front_kept, line_first, line_some, line_within}
use Rattle.command_frame.proofs.front.take_batch.Goals as goal

pub returns-in_default : goal.returns-in_default
returns-in_default g c =
    let report = g.T.LineTaker.report c.args.taker.now in
    let old = g.T.LineTaker.has_taken c.args.taker.now in
    record {
      front =
          front_kept report old old (g.T.LineTaker.has_taken c.front.new.self) c.args.ready.now 0 0
          (nothing_taken report old c.args.ready.now) c.in_default.ensures.taken;
      held = omega arith;
      few = omega arith;
      sound = c.front.ensures.sound;
      measure = c.in_default.ensures.measure;
      report = c.front.ensures.report;
    }

pub split_at-requires : goal.split_at-requires
split_at-requires g c = line_within _ _ _ c.args.ready.now c.in-Some.bytes c.in-Some.ensures.taken

pub take_lines-more-requires-clause-room : goal.take_lines-more-requires-clause-room
take_lines-more-requires-clause-room g c =
    let size : length c.split_at.result.1.now ≡ length c.args.ready.now - c.in-Some.bytes =
    ap length c.split_at.ensures.back ∙ length-drop c.in-Some.bytes c.args.ready.now in
    let within = line_within _ _ _ c.args.ready.now c.in-Some.bytes c.in-Some.ensures.taken in
    omega (arith, size, within, c.in-Some.ensures.measure, c.requires.room)

pub returns : goal.returns
returns g c =
    let report = g.T.LineTaker.report c.args.taker.now in
    let old = g.T.LineTaker.has_taken c.args.taker.now in
    let mid = g.T.LineTaker.has_taken c.front.new.self in
    let new = g.T.LineTaker.has_taken c.take_lines-more.new.taker in
    let before = c.front.new.output.items in
    let after = c.take_lines-more.new.output.items in
    let bytes = c.in-Some.bytes in
    let batch = c.take_lines-more.result in
    let more = c.take_lines-more.ensures in
    let size : length c.split_at.result.1.now ≡ length c.args.ready.now - bytes =
    ap length c.split_at.ensures.back ∙ length-drop bytes c.args.ready.now in
    let within = line_within _ _ _ c.args.ready.now bytes c.in-Some.ensures.taken in
    let some = line_some _ _ _ c.args.ready.now bytes c.in-Some.ensures.taken in
    record {
      front = line_first report old mid new c.args.ready.now bytes batch.bytes batch.lines c.in-Some.ensures.taken
          (subst (λ (part : List ℕ). HasGivenFront report mid new part batch.bytes batch.lines before after)
          c.split_at.ensures.back
          (subst (λ (r : Report). HasGivenFront r mid new c.split_at.result.1.now batch.bytes batch.lines before after)
          c.front.ensures.report more.front));
      held = omega (arith, size, within, more.held);
      few = omega (arith, some, more.few);
      sound = more.sound;
      measure = omega (arith, more.measure, c.in-Some.ensures.measure);
      report = more.report ∙ c.front.ensures.report;
    }
