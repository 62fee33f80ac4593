use Rattle.std.proofs.Common.{List, ◌∙◌, subst, arith, take}
use Rattle.std.proofs.lemmas.List.{take_all}
use Rattle.dhat_json.specs.declared.profile.Point.{Point}
use Rattle.dhat_json.specs.Begun.{with_points}
use Rattle.dhat_json.specs.PointWriter.{HasWritten}
use Rattle.dhat_trace.specs.declared.points.CalledStack.{CalledStack}
use Rattle.dhat_trace.specs.Points.{points_in}
use Rattle.dhat_trace.proofs.BacktraceLemmas.{next_points}
use Rattle.dhat_trace.proofs.profile.put_points.Goals as goal

pub each_stack-preserved : goal.each_stack-preserved
each_stack-preserved c = λ head begun.
    let stacks = c.args.stacks.now in
    let told = c.args.backtraces.now in
    let at = c.each_stack.called-index in
    subst (λ (points : List Point). HasWritten c.put_point.new.writer (with_points head points))
    (next_points stacks told at _ c.deref.result.now (omega arith)
    (c.deref.ensures.value ∙ c.in_ok-places_into.ensures.places))
    (c.in_ok-put_point.ensures (with_points head (points_in (take at stacks) told)) (c.each_stack.invariant head begun))

pub returns : goal.returns
returns c = λ head begun.
    let stacks = c.args.stacks.now in
    let told = c.args.backtraces.now in
    let at = c.each_stack.called-index in
    subst (λ (items : List CalledStack). HasWritten c.each_stack.writer (with_points head (points_in items told)))
    (take_all at stacks (omega arith)) (c.each_stack.invariant head begun)
