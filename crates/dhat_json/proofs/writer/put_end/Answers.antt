use Rattle.dhat_json.proofs.BegunTexts.{begun_ended}
use Rattle.dhat_json.proofs.writer.put_end.Goals as goal

pub returns-clause-whole : goal.returns-clause-whole
returns-clause-whole c = λ whole begun times.
    begun_ended c.args.out.now c.end_array.new.self c.put_times.new.out c.end_object.new.self whole c.args.dhat.now
    begun times
    c.in_ok-end_array.ensures.room.0 c.in_ok-end_array.ensures.ok c.in_ok-put_times.ensures
    c.in_ok-end_object.ensures.room.0 c.in_ok-end_object.ensures.ok
