use Rattle.std.proofs.Common.{◌≡◌, ◌≢◌, ◌-◌, ◌+◌, ℕ, List, length, Some, sym, ap, ◌∙◌, subst, arith}
use Rattle.std.specs.Prelude.{slice_get, slice_index}
use Rattle.std.proofs.lemmas.Bool.{false≢true}
use Rattle.std.proofs.lemmas.List.{get_or_default, length-map}
use Rattle.std.proofs.lemmas.Slice.Eq.{bytes_eq-Decides}
use Rattle.ht_print.specs.PlaceTable.{IsLastIn, buckets_of, names_of}
use Rattle.ht_print.specs.ReportGroups.{place_of}
use Rattle.ht_print.proofs.BucketLemmas.{Passed, bucket-link, name-is, passed-more, passed-none}
use Rattle.ht_print.proofs.place_table.PlaceTable.find.Goals as goal

pub index-at-requires : goal.index-at-requires
index-at-requires c =
    let bucketed =
    c.requires.table.bucketed in let count = bucketed.last_length in let inside = c.requires.bucket.inside in omega
    arith

pub backwards-init : goal.backwards-init
backwards-init c =
    let tables = c.args.tables.now in
    let table = c.args.self.now in
    let names : List (List ℕ) = names_of tables table in
    let bucketed = c.requires.table.bucketed in
    let count = bucketed.last_length in
    let inside = c.requires.bucket.inside in
    let at : c.index-at.result.now ≡ slice_index table.last.items c.args.bucket =
    c.index-at.ensures ∙ get_or_default table.last.items c.args.bucket c.index-at.result.now 0 (omega arith) in
    passed-none (buckets_of tables) names c.args.text.now c.index-at.result.now
    (subst (λ (n : ℕ). IsLastIn (buckets_of tables) names n (length names) c.index-at.result.now) c.requires.bucket.is
    (subst (λ (n : ℕ). IsLastIn (buckets_of tables) names c.args.bucket (length names) n) (sym at)
    (bucketed.ends c.args.bucket inside)))

pub returns-then-eq-clause-found : goal.returns-then-eq-clause-found
returns-then-eq-clause-found c =
    let left = c.backwards.invariant.within in
    let count = length-map c.args.self.now.stacks.items (place_of c.args.tables.now) in
    let same : place_of c.args.tables.now c.index.result.now ≡ c.args.text.now =
    sym (c.as_slice.ensures.value ∙ c.in_ok-read_place.ensures.text)
    ∙ (bytes_eq-Decides c.as_slice.result.now c.args.text.now).0 (sym c.if-eq.ensures) in
    name-is c.args.tables.now c.args.self.now (c.backwards.at - 1) c.index.result.now (omega arith) c.index.ensures
    ∙ ap (λ (text : List ℕ). Some text) same

pub backwards-smaller : goal.backwards-smaller
backwards-smaller c =
    let left = c.backwards.invariant.within in
    let count = length-map c.args.self.now.stacks.items (place_of c.args.tables.now) in
    let got =
    name-is c.args.tables.now c.args.self.now (c.backwards.at - 1) c.index.result.now (omega arith) c.index.ensures in
    let link =
    bucket-link c.args.tables.now c.args.self.now (c.backwards.at - 1) c.index-at-in-backwards.result.now
    (place_of c.args.tables.now c.index.result.now) c.requires.table got c.index-at-in-backwards.ensures in
    let below = link.within in
    omega arith

pub backwards-preserved : goal.backwards-preserved
backwards-preserved c =
    let tables = c.args.tables.now in
    let table = c.args.self.now in
    let k : ℕ = c.backwards.at - 1 in
    let name : List ℕ = place_of tables c.index.result.now in
    let left = c.backwards.invariant.within in
    let count = length-map table.stacks.items (place_of tables) in
    let some : c.backwards.at ≡ k + 1 = omega arith in
    let got : slice_get (names_of tables table) k ≡ Some name =
    name-is tables table k c.index.result.now (omega arith) c.index.ensures in
    let link =
    bucket-link tables table k c.index-at-in-backwards.result.now name c.requires.table got
    c.index-at-in-backwards.ensures in
    let read : c.as_slice.result.now ≡ name = c.as_slice.ensures.value ∙ c.in_ok-read_place.ensures.text in
    let other : name ≢ c.args.text.now =
    λ same. false≢true (c.if-eq.ensures ∙ (bytes_eq-Decides c.as_slice.result.now c.args.text.now).1 (read ∙ same)) in
    passed-more (buckets_of tables) (names_of tables table) c.args.text.now k c.index-at-in-backwards.result.now name
    got other
    (subst (λ (n : ℕ). Passed (buckets_of tables) (names_of tables table) c.args.text.now n) some c.backwards.invariant)
    link
