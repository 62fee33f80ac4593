use Rattle.std.proofs.Common.{◌≡◌, true, false, refl, rules}
use Rattle.json.specs.Value.{value_view}
use Rattle.dhat_json.specs.DataOf.{has_data}
use Rattle.dhat_json.proofs.AheadLemmas.{ahead_is}
use Rattle.dhat_json.proofs.value.next_value.Goals as goal

pub returns-then-not-has_data-clause-fault : goal.returns-then-not-has_data-clause-fault
returns-then-not-has_data-clause-fault c =
    let j = value_view c.in-Ok.value in
    let has : has_data j ≡ false = search rules in
    (refl, ahead_is c.args.depth c.args.reader.now c.read.new.reader j false c.in-Ok.ensures.ok has)

pub returns-clause-read : goal.returns-clause-read
returns-clause-read c =
    let j = value_view c.in-Ok.value in
    let has : has_data j ≡ true = search rules in
    ahead_is c.args.depth c.args.reader.now c.read.new.reader j true c.in-Ok.ensures.ok has
