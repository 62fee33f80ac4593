use Rattle.std.proofs.Common.{◌≡◌, ℕ, suc, ◌-◌, List, Some, sym, ap, ◌∙◌, arith}
use Rattle.std.specs.Prelude.{slice_get}
use Rattle.std.proofs.lemmas.Option.{slice_get-get_or}
use Rattle.ht_print.specs.PlaceTable.{instruction_place, names_of}
use Rattle.ht_print.proofs.PlaceLemmas.{known-more, place-by}
use Rattle.ht_print.proofs.place_table.PlaceTable.number_of.Goals as goal

pub returns-then-known-gt0-clause-place : goal.returns-then-known-gt0-clause-place
returns-then-known-gt0-clause-place c =
    let known : List ℕ = c.args.self.now.known.items in
    let are = c.requires.can.is.known in
    let count = are.count in
    let held = c.in-Some.ensures.instruction in
    let at : slice_get known c.in-Some.instruction ≡ Some (suc (c.index-known.result.now - 1)) =
    slice_get-get_or known c.in-Some.instruction c.index-known.result.now (omega arith)
    ∙ ap (λ (n : ℕ). Some n) (sym c.index-known.ensures ∙ omega arith) in
    are.told c.in-Some.instruction (c.index-known.result.now - 1) at
    ∙ ap (λ (text : List ℕ). Some text)
    (sym (place-by c.args.tables.now c.args.stack c.in-Some.instruction _ c.in-Some.ensures.frames
    c.in-Some.ensures.some_frame))

pub returns-clause-table : goal.returns-clause-table
returns-clause-table c =
    let tables = c.args.tables.now in
    let told = c.in_ok-number.ensures in
    let own : slice_get (names_of tables c.number_of_text-2.new.self) c.in_ok-number.number
    ≡ Some (instruction_place tables c.in-Some.instruction) =
    told.place
    ∙ ap (λ (text : List ℕ). Some text)
    (place-by tables c.args.stack c.in-Some.instruction _ c.in-Some.ensures.frames c.in-Some.ensures.some_frame) in
    record {
      held = told.table.held;
      distinct = told.table.distinct;
      bucketed = told.table.bucketed;
      known =
          known-more tables (names_of tables c.number_of_text-2.new.self) c.number_of_text-2.new.self.known.items
          c.in-Some.instruction c.in_ok-number.number own told.table.known;
    }
