use Rattle.std.proofs.Common.{◌≡◌, ◌+◌, ◌++◌, ◌∷◌, [], ℕ, List, length, set, refl, ap, ◌∙◌, arith}
use Rattle.std.specs.Prelude.{slice_index}
use Rattle.std.specs.Vec.{with_item}
use Rattle.std.proofs.lemmas.List.{get_or_default}
use Rattle.ht_print.specs.declared.place_table.PlaceTable.{PlaceTable}
use Rattle.ht_print.proofs.BucketLemmas.{table-more}
use Rattle.ht_print.proofs.place_table.PlaceTable.add.Goals as goal

pub index-requires : goal.index-requires
index-requires c =
    let bucketed =
    c.requires.can.is.bucketed in let count = bucketed.last_length in let inside = c.requires.bucket.inside in omega
    arith

pub index_mut-requires : goal.index_mut-requires
index_mut-requires c =
    let bucketed =
    c.requires.can.is.bucketed in let count = bucketed.last_length in let inside = c.requires.bucket.inside in omega
    arith

pub returns-clause-table : goal.returns-clause-table
returns-clause-table c =
    let old = c.args.self.now in
    let last : List ℕ = old.last.items in
    let bucketed = c.requires.can.is.bucketed in
    let count = bucketed.last_length in
    let inside = c.requires.bucket.inside in
    let link : c.index.result.now ≡ slice_index last c.args.bucket =
    c.index.ensures ∙ get_or_default last c.args.bucket c.index.result.now 0 (omega arith) in
    let count_is : c.len-number.result ≡ length old.stacks.items = omega arith in
    let new : PlaceTable =
    record {
      stacks = c.push-2.new.self;
      last = with_item old.last c.args.bucket (c.len-number.result + 1);
      before = c.push.new.self;
      known = old.known;
    } in
    table-more c.args.tables.now old new c.args.stack c.args.bucket c.requires.can.held c.requires.bucket.is inside
    c.requires.new
    c.in_ok-push-2.ensures.items (ap (λ (n : ℕ). set last c.args.bucket (n + 1)) count_is)
    (c.in_ok-push.ensures.items ∙ ap (λ (n : ℕ). old.before.items ++ n ∷ []) link) refl c.requires.can.is
