use Rattle.std.proofs.Common.{[], ◌∷◌}
use Rattle.std.proofs.lemmas.Result.{IfOk-weaker}
use Rattle.ht_print.specs.PlaceTable.{names_of}
use Rattle.ht_print.specs.ReportGroups.{place_of}
use Rattle.ht_print.proofs.BucketLemmas.{names-more, names-stay}
use Rattle.ht_print.proofs.place_table.PlaceTable.number_of_text.Goals as goal

pub returns-clause-names_stay : goal.returns-clause-names_stay
returns-clause-names_stay c =
    let tables = c.args.tables.now in
    let old = c.args.self.now in
    let new = c.add.new.self in
    IfOk-weaker c.add.result _ _
    (λ number added. names-stay (names_of tables old) (names_of tables new) (place_of tables c.args.stack ∷ [])
    (names-more tables old new c.args.stack added.stacks))
    c.add.ensures.added
