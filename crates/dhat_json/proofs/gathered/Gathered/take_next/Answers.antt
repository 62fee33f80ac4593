use Rattle.dhat_json.specs.DataOf.{data_of}
use Rattle.dhat_json.proofs.gathered.Gathered.take_next.Goals as goal

pub returns-clause-taken : goal.returns-clause-taken
returns-clause-taken c =
    record { item = data_of c.in_ok-item.item; is = c.in_ok-item.ensures.read; taken = c.take.ensures.taken }
