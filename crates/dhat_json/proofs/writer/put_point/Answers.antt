use Rattle.dhat_json.specs.Groups.{count_members, first_members, last_members, peak_members}
use Rattle.dhat_json.proofs.Added.{adds_then, object_added}
use Rattle.dhat_json.proofs.writer.put_point.Goals as goal

pub returns : goal.returns
returns c =
    let point = c.args.point.now in
    object_added c.args.out.now c.begin_object.new.self c.put_last.new.out c.end_object.new.self
    (λ rest. first_members point (peak_members point (count_members point (last_members point rest))))
    c.in_ok-begin_object.ensures.room.0 c.in_ok-begin_object.ensures.ok
    (adds_then _ _ _ _ _ c.in_ok-put_first.ensures
    (adds_then _ _ _ _ _ c.in_ok-put_peaks.ensures
    (adds_then _ _ _ _ _ c.in_ok-put_counts.ensures c.in_ok-put_last.ensures)))
    c.in_ok-end_object.ensures.room.0 c.in_ok-end_object.ensures.ok
