use Rattle.std.proofs.Common.{◌∙◌, arith}
use Rattle.std.proofs.lemmas.List.{length-map}
use Rattle.ht_print.specs.PlaceTable.{names_of}
use Rattle.ht_print.specs.ReportGroups.{place_of}
use Rattle.ht_print.proofs.PlaceLemmas.{tell-places}
use Rattle.ht_print.proofs.places.Places.of.Goals as goal

pub returns : goal.returns
returns c =
    let tables = c.args.tables.now in
    let table = c.each_stack.table in
    let count = c.stacks-stack-end.ensures.count in
    let all = c.stacks.ensures.count in
    let names = length-map table.stacks.items (place_of tables) in
    tell-places tables (names_of tables table) _ c.each_stack.invariant.table.distinct
    (let so-far = c.each_stack.invariant.count in omega arith) (c.len.ensures ∙ omega arith)
    (λ stack within. c.each_stack.invariant.told stack (omega arith))
