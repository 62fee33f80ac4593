use Rattle.std.proofs.Common.{◌∙◌}
use Rattle.std.proofs.lemmas.Result.{IfOk-weaker}
use Rattle.dhat_view.proofs.Laws.{sound-texts}
use Rattle.convert.proofs.point_lists.point_lists.Goals as goal

pub new-requires : goal.new-requires
new-requires c =
    let table = c.in_ok-table.table in
    let is =
    sound-texts c.args.dhat.now table.names table.numbers.items c.deref.result.now c.in_ok-chains.chains
    c.requires.sound c.in_ok-table.ensures.numbers c.deref.ensures.value c.in_ok-chains.ensures.numbers in
    record { texts = is.0 }

pub returns : goal.returns
returns c =
    let table = c.in_ok-table.table in
    let is =
    sound-texts c.args.dhat.now table.names table.numbers.items c.deref.result.now c.in_ok-chains.chains
    c.requires.sound c.in_ok-table.ensures.numbers c.deref.ensures.value c.in_ok-chains.ensures.numbers in
    record { lists = IfOk-weaker c.new.result _ _ (λ lists same. same ∙ is.1) c.new.ensures.lists }
