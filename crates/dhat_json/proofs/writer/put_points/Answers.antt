use Rattle.std.proofs.Common.{List, ◌++◌, arith, sym, subst, append-nil}
use Rattle.std.proofs.lemmas.List.{take_all}
use Rattle.dhat_json.specs.declared.profile.Point.{Point}
use Rattle.dhat_json.specs.Begun.{HasBegun, with_points}
use Rattle.dhat_json.proofs.BegunTexts.{begun_next}
use Rattle.dhat_json.proofs.writer.put_points.Goals as goal

pub loop-point-init : goal.loop-point-init
loop-point-init c =
    λ dhat begun. subst (λ (ps : List Point). HasBegun c.args.out.now (with_points dhat ps)) (sym (append-nil dhat.pps))
    begun

pub loop-point-preserved : goal.loop-point-preserved
loop-point-preserved c = λ dhat begun.
    begun_next c.loop-point.out c.put_point.new.out dhat c.args.points.now c.loop-point.point-index c.point-item.result
    (omega arith) (sym c.point-item.is)
    (c.loop-point.invariant dhat begun) c.in_ok-put_point.ensures

pub returns : goal.returns
returns c = λ dhat begun.
    let points = c.args.points.now in
    subst (λ (ps : List Point). HasBegun c.loop-point.out (with_points dhat (dhat.pps ++ ps)))
    (take_all c.loop-point.point-index points (omega arith)) (c.loop-point.invariant dhat begun)
