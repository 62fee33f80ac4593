-- Lemmas on texts in buckets, as they come one after another and as a bucket is read.
use Rattle.std.proofs.Common.{◌≡◌, ◌≢◌, ℕ, zero, suc, ◌+◌, ◌*◌, ◌%◌, ◌<◌, ◌≤◌, inl, inr, eqb, Bool, true, false, List}
use Rattle.std.proofs.Common.{[], ◌∷◌, ◌++◌, length, map, set, get_or, take, Some, refl, sym, ap, ◌∙◌, subst, arith}
use Rattle.std.specs.Prelude.{All, slice_get, slice_index}
use Rattle.std.proofs.lemmas.Bool.{cases_lt}
use Rattle.std.proofs.lemmas.Bool.Decides.{nat_tests}
use Rattle.std.proofs.lemmas.Grind.{get_or-set_at}
use Rattle.std.proofs.lemmas.List.{get_or_append_left, get_or_default, get_or-set_other, length-map, length-set}
use Rattle.std.proofs.lemmas.List.{length_push, map_push, take_more}
use Rattle.std.proofs.lemmas.List.Elements.{All-push}
use Rattle.std.proofs.lemmas.List.Quantifiers.{all_pairs_push}
use Rattle.std.proofs.lemmas.Option.{same_Some, slice_get-get_or, slice_get_within}
use Rattle.std.proofs.Math.Seq.{get_or-append_seam}
use Rattle.hp_num.proofs.Laws.{slice_get-end, slice_get-front}
use Rattle.intern_tables.specs.Distinct.{AreDistinct}
use Rattle.ht_trace.specs.TableState.{TableState}
use Rattle.ht_print.specs.declared.place_table.PlaceTable.{PlaceTable}
use Rattle.ht_print.specs.PlaceTable.{AreBucketed, AreKnown, IsLastIn, IsTable, bucket_of, buckets_of, hash_from}
use Rattle.ht_print.specs.PlaceTable.{names_of}
use Rattle.ht_print.specs.ReportGroups.{place_of}
use Rattle.ht_print.proofs.PlaceLemmas.{known-stays, none-known}

-- a number of a text with one byte more
hash-push : (hash : ℕ) (text : List ℕ) (byte : ℕ)
    → hash_from hash (text ++ byte ∷ []) ≡ (hash_from hash text * 16777619 + byte) % 4294967296
hash-push hash [] byte = refl
hash-push hash (first ∷ more) byte = hash-push ((hash * 16777619 + first) % 4294967296) more byte

pub hash-more : (text : List ℕ) (k hash d : ℕ) → k < length text → hash ≡ hash_from 0 (take k text)
    → (hash * 16777619 + get_or text k d) % 4294967296 ≡ hash_from 0 (take (k + 1) text)
hash-more text k hash d within is =
    ap (λ (h : ℕ). (h * 16777619 + get_or text k d) % 4294967296) is
    ∙ sym (ap (hash_from 0) (take_more text k d within) ∙ hash-push 0 (take k text) (get_or text k d))

-- an element of a list with one more, where it is one of those before or the new one
was-held : (names : List (List ℕ)) (name other : List ℕ) (k : ℕ) → k < length names
    → slice_get (names ++ name ∷ []) k ≡ Some other → slice_get names k ≡ Some other
was-held names name other k within got = sym (slice_get-front names (name ∷ []) k within) ∙ got

is-new : (names : List (List ℕ)) (name other : List ℕ) (k : ℕ) → k ≡ length names
    → slice_get (names ++ name ∷ []) k ≡ Some other → other ≡ name
is-new names name other k last got = same_Some other name (sym got ∙ slice_get-end names name k last)

-- the last one of a bucket stays so as a text comes behind
last-lift : (buckets : ℕ) (names : List (List ℕ)) (name : List ℕ) (bucket upto at : ℕ) → upto ≤ length names
    → IsLastIn buckets names bucket upto at → IsLastIn buckets (names ++ name ∷ []) bucket upto at
last-lift buckets names name bucket upto at below was = record {
  within = was.within;
  has =
      λ k other there got. was.has k other there
      (was-held names name other k (let most = was.within in omega (arith, most, there, below)) got);
  none =
      λ k other over under got. was.none k other over under
      (was-held names name other k (omega (arith, under, below)) got);
}

-- no text
pub bucketed-none : (buckets : ℕ) (last : List ℕ) → length last ≡ buckets → All (λ n. n ≡ 0) last
    → AreBucketed buckets [] last []
bucketed-none buckets last count all = record {
  last_length = count;
  before_length = refl;
  ends = λ bucket within. none bucket (all bucket 0 (omega arith));
  links = λ k name got. absurd (let within = slice_get_within {A = List ℕ} [] k name got in omega arith);
}
  where
    none : (bucket : ℕ) → slice_index last bucket ≡ 0 → IsLastIn buckets [] bucket 0 (slice_index last bucket)
    none bucket is = record {
      within = omega arith;
      has = λ k name at got. absurd (omega (arith, at, is));
      none = λ k name over under got. absurd (omega arith);
    }

-- one text more, which is the last one of its bucket
last-new : (buckets : ℕ) (names : List (List ℕ)) (name : List ℕ) (at : ℕ) → at ≡ length names + 1
    → IsLastIn buckets (names ++ name ∷ []) (bucket_of buckets name) (length names + 1) at
last-new buckets names name at is = record {
  within = omega arith;
  has = λ k other there got. ap (bucket_of buckets) (is-new names name other k (omega (arith, there, is)) got);
  none = λ k other over under got. absurd (omega arith);
}

-- another bucket
last-other : (buckets : ℕ) (names : List (List ℕ)) (name : List ℕ) (bucket at : ℕ) → bucket_of buckets name ≢ bucket
    → IsLastIn buckets names bucket (length names) at
    → IsLastIn buckets (names ++ name ∷ []) bucket (length names + 1) at
last-other buckets names name bucket at apart was = record {
  within = let most = was.within in omega arith;
  has =
      λ k other there got. was.has k other there
      (was-held names name other k (let most = was.within in omega (arith, most, there)) got);
  none = λ k other over under got. elim (cases_lt k (length names)) [
    | inl less ↦ was.none k other over less (was-held names name other k less got)
    | inr past ↦ λ same. apart (ap (bucket_of buckets) (sym (is-new names name other k (omega arith) got)) ∙ same)
  ];
}

pub bucketed-more : (buckets : ℕ) (names : List (List ℕ)) (last before : List ℕ) (name : List ℕ)
    → bucket_of buckets name < buckets → AreBucketed buckets names last before
    → AreBucketed buckets (names ++ name ∷ []) (set last (bucket_of buckets name) (length names + 1))
    (before ++ slice_index last (bucket_of buckets name) ∷ [])
bucketed-more buckets names last before name inside were = record {
  last_length = length-set last here (length names + 1) ∙ were.last_length;
  before_length =
      let one =
      length_push before (slice_index last here) in let more =
      length_push names name in let count = were.before_length in omega arith;
  ends =
      λ bucket within. subst
      (λ (n : ℕ). IsLastIn buckets (names ++ name ∷ []) bucket n
      (slice_index (set last here (length names + 1)) bucket))
      (sym (length_push names name)) (end bucket within (eqb bucket here) refl);
  links = λ k other got. elim (cases_lt k (length names)) [
    | inl less ↦ subst (λ (n : ℕ). IsLastIn buckets (names ++ name ∷ []) (bucket_of buckets other) k n)
        (sym (get_or_append_left before (slice_index last here ∷ []) 0 k
        (let count = were.before_length in omega arith)))
        (last-lift buckets names name (bucket_of buckets other) k (slice_index before k) (omega arith)
        (were.links k other (was-held names name other k less got)))
    | inr past ↦ link k other
        (let within = slice_get_within (names ++ name ∷ []) k other got in let more = length_push names name in omega
        (arith, within, more, past))
        got
  ];
}
  where
    here : ℕ
    here = bucket_of buckets name

    end : (bucket : ℕ) → bucket < buckets → (b : Bool) → eqb bucket here ≡ b
        → IsLastIn buckets (names ++ name ∷ []) bucket (length names + 1)
        (slice_index (set last here (length names + 1)) bucket)
    end bucket within true test =
        let same : bucket ≡ here = grind (arith, nat_tests) in
        let count = were.last_length in
        let at : slice_index (set last here (length names + 1)) bucket ≡ length names + 1 =
        get_or-set_at last here bucket (length names + 1) 0 same (omega arith) in
        subst (λ (n : ℕ). IsLastIn buckets (names ++ name ∷ []) n (length names + 1)
        (slice_index (set last here (length names + 1)) bucket)) (sym
        same)
        (last-new buckets names name (slice_index (set last here (length names + 1)) bucket) at)
    end bucket within false test =
        let apart : bucket ≢ here = grind (arith, nat_tests) in
        subst (λ (n : ℕ). IsLastIn buckets (names ++ name ∷ []) bucket (length names + 1) n)
        (sym (get_or-set_other last here bucket (length names + 1) 0 apart))
        (last-other buckets names name bucket (slice_index last bucket) (λ same. apart (sym same))
        (were.ends bucket within))

    link : (k : ℕ) (other : List ℕ) → k ≡ length names → slice_get (names ++ name ∷ []) k ≡ Some other
        → IsLastIn buckets (names ++ name ∷ []) (bucket_of buckets other) k
        (slice_index (before ++ slice_index last here ∷ []) k)
    link k other is got =
        let at : slice_index (before ++ slice_index last here ∷ []) k ≡ slice_index last here =
        ap (λ (n : ℕ). slice_index (before ++ slice_index last here ∷ []) n) (is ∙ sym were.before_length)
        ∙ get_or-append_seam before (slice_index last here) [] 0 in
        subst (λ (text : List ℕ). IsLastIn buckets (names ++ name ∷ []) (bucket_of buckets text) k
        (slice_index (before ++ slice_index last here ∷ []) k)) (sym
        (is-new names name other k is got))
        (subst (λ (n : ℕ). IsLastIn buckets (names ++ name ∷ []) here k n) (sym at)
        (last-lift buckets names name here k (slice_index last here) (omega arith)
        (subst (λ (n : ℕ). IsLastIn buckets names here n (slice_index last here)) (sym is) (were.ends here inside))))

-- the table of no texts
pub table-none : (tables : TableState) (table : PlaceTable) → table.stacks.items ≡ [] → table.before.items ≡ []
    → length table.last.items ≡ buckets_of tables → All (λ n. n ≡ 0) table.last.items
    → length table.known.items ≡ buckets_of tables → All (λ n. n ≡ 0) table.known.items → IsTable tables table
table-none tables table stacks before count zeros known none =
    let names : names_of tables table ≡ [] = ap (map (place_of tables)) stacks in
    record {
      held =
          subst (λ (ns : List ℕ). All (λ stack. stack ≤ length tables.nodes) ns) (sym stacks)
          (λ k d within. absurd (omega arith));
      distinct = subst AreDistinct (sym names) (λ i j d less within. absurd (omega arith));
      bucketed =
          subst (λ (ns : List (List ℕ)). AreBucketed (buckets_of tables) ns table.last.items table.before.items)
          (sym names)
          (subst (λ (links : List ℕ). AreBucketed (buckets_of tables) [] table.last.items links) (sym before)
          (bucketed-none (buckets_of tables) table.last.items count zeros));
      known = none-known tables (names_of tables table) table.known.items known none;
    }

-- and of one more, which it lacked
pub names-more : (tables : TableState) (old new : PlaceTable) (stack : ℕ)
    → new.stacks.items ≡ old.stacks.items ++ stack ∷ []
    → names_of tables new ≡ names_of tables old ++ place_of tables stack ∷ []
names-more tables old new stack stacks =
    ap (map (place_of tables)) stacks ∙ map_push (place_of tables) old.stacks.items stack

pub names-stay : (names new more : List (List ℕ)) → new ≡ names ++ more → (n : ℕ) (name : List ℕ)
    → slice_get names n ≡ Some name → slice_get new n ≡ Some name
names-stay names new more is n name got =
    ap (λ (ns : List (List ℕ)). slice_get ns n) is ∙ slice_get-front names more n (slice_get_within names n name got)
    ∙ got

pub table-more : (tables : TableState) (old new : PlaceTable) (stack bucket : ℕ) → stack ≤ length tables.nodes
    → bucket ≡ bucket_of (buckets_of tables) (place_of tables stack) → bucket < buckets_of tables
    → ((n : ℕ) (name : List ℕ) → slice_get (names_of tables old) n ≡ Some name → name ≢ place_of tables stack)
    → new.stacks.items ≡ old.stacks.items ++ stack ∷ []
    → new.last.items ≡ set old.last.items bucket (length old.stacks.items + 1)
    → new.before.items ≡ old.before.items ++ slice_index old.last.items bucket ∷ []
    → new.known.items ≡ old.known.items → IsTable tables old → IsTable tables new
table-more tables old new stack bucket held bucket_is inside lacks stacks last before known were =
    let name : List ℕ = place_of tables stack in
    let names : names_of tables new ≡ names_of tables old ++ name ∷ [] = names-more tables old new stack stacks in
    let count : length (names_of tables old) ≡ length old.stacks.items =
    length-map old.stacks.items (place_of tables) in
    let more =
    bucketed-more (buckets_of tables) (names_of tables old) old.last.items old.before.items name
    (subst (λ (n : ℕ). n < buckets_of tables) bucket_is inside) were.bucketed in
    let last_is : new.last.items
    ≡ set old.last.items (bucket_of (buckets_of tables) name) (length (names_of tables old) + 1) =
    last ∙ ap (λ (n : ℕ). set old.last.items n (length old.stacks.items + 1)) bucket_is
    ∙ ap (λ (n : ℕ). set old.last.items (bucket_of (buckets_of tables) name) (n + 1)) (sym count) in
    let before_is : new.before.items
    ≡ old.before.items ++ slice_index old.last.items (bucket_of (buckets_of tables) name) ∷ [] =
    before ∙ ap (λ (n : ℕ). old.before.items ++ slice_index old.last.items n ∷ []) bucket_is in
    record {
      held =
          subst (λ (ns : List ℕ). All (λ n. n ≤ length tables.nodes) ns) (sym stacks)
          (All-push (λ n. n ≤ length tables.nodes) old.stacks.items stack were.held held);
      distinct = subst AreDistinct (sym names)
          (all_pairs_push (λ (earlier later : List ℕ). earlier ≢ later) (names_of tables old) name were.distinct
          (λ k d within. lacks k (get_or (names_of tables old) k d)
          (slice_get-get_or (names_of tables old) k d within)));
      bucketed =
          subst (λ (ns : List (List ℕ)). AreBucketed (buckets_of tables) ns new.last.items new.before.items) (sym names)
          (subst
          (λ (ls : List ℕ). AreBucketed (buckets_of tables) (names_of tables old ++ name ∷ []) ls new.before.items)
          (sym last_is)
          (subst
          (λ (ls : List ℕ). AreBucketed (buckets_of tables) (names_of tables old ++ name ∷ [])
          (set old.last.items (bucket_of (buckets_of tables) name) (length (names_of tables old) + 1)) ls)
          (sym before_is) more));
      known = subst (λ (ns : List ℕ). AreKnown tables (names_of tables new) ns) (sym known)
          (known-stays tables (names_of tables old) (names_of tables new) old.known.items
          (names-stay (names_of tables old) (names_of tables new) (name ∷ []) names) were.known);
    }

-- a bucket as it is read backwards: none of the texts from here on is the one that is looked for
pub record Passed (buckets : ℕ) (names : List (List ℕ)) (text : List ℕ) (at : ℕ) : Type 0 where
  pub within : at ≤ length names
  pub has : (k : ℕ) (name : List ℕ) → at ≡ k + 1 → slice_get names k ≡ Some name
      → bucket_of buckets name ≡ bucket_of buckets text
  pub none : (k : ℕ) (name : List ℕ) → at ≤ k → slice_get names k ≡ Some name → name ≢ text

pub passed-none : (buckets : ℕ) (names : List (List ℕ)) (text : List ℕ) (at : ℕ)
    → IsLastIn buckets names (bucket_of buckets text) (length names) at → Passed buckets names text at
passed-none buckets names text at is = record {
  within = is.within;
  has = is.has;
  none =
      λ k name over got same. is.none k name over (slice_get_within names k name got) got (ap (bucket_of buckets) same);
}

pub passed-more : (buckets : ℕ) (names : List (List ℕ)) (text : List ℕ) (k at : ℕ) (name : List ℕ)
    → slice_get names k ≡ Some name → name ≢ text → Passed buckets names text (k + 1)
    → IsLastIn buckets names (bucket_of buckets name) k at → Passed buckets names text at
passed-more buckets names text k at name got other were link =
    let same : bucket_of buckets name ≡ bucket_of buckets text = were.has k name refl got in
    let next : IsLastIn buckets names (bucket_of buckets text) k at =
    subst (λ (n : ℕ). IsLastIn buckets names n k at) same link in
    record {
      within = let most = next.within in let all = were.within in omega arith;
      has = next.has;
      none = λ j found over there. elim (cases_lt j k) [
        | inl less ↦ λ is. next.none j found over less there (ap (bucket_of buckets) is)
        | inr past ↦ elim (cases_lt k j) [
          | inl beyond ↦ were.none j found (omega arith) there
          | inr here ↦
              λ is. other (same_Some name found (sym got ∙ ap (λ (n : ℕ). slice_get names n) (omega arith) ∙ there)
              ∙ is)
        ]
      ];
    }

-- the text of a place, and its link, as they are read
pub name-is : (tables : TableState) (table : PlaceTable) (k stack : ℕ) → k < length table.stacks.items
    → stack ≡ get_or table.stacks.items k stack → slice_get (names_of tables table) k ≡ Some (place_of tables stack)
name-is tables table k stack within is =
    slice_get-map (place_of tables) table.stacks.items k stack
    (slice_get-get_or table.stacks.items k stack within ∙ ap (λ (n : ℕ). Some n) (sym is))
  where
    slice_get-map : (f : ℕ → List ℕ) (xs : List ℕ) (i x : ℕ) → slice_get xs i ≡ Some x
        → slice_get (map f xs) i ≡ Some (f x)
    slice_get-map f [] i x got = absurd (let inside = slice_get_within {A = ℕ} [] i x got in omega arith)
    slice_get-map f (y ∷ ys) zero x got = ap (λ (n : ℕ). Some (f n)) (same_Some y x got)
    slice_get-map f (y ∷ ys) (suc i) x got = slice_get-map f ys i x got

pub bucket-link : (tables : TableState) (table : PlaceTable) (k link : ℕ) (name : List ℕ) → IsTable tables table
    → slice_get (names_of tables table) k ≡ Some name → link ≡ get_or table.before.items k link
    → IsLastIn (buckets_of tables) (names_of tables table) (bucket_of (buckets_of tables) name) k link
bucket-link tables table k link name is got read =
    let count = is.bucketed.before_length in
    let within = slice_get_within (names_of tables table) k name got in
    subst (λ (n : ℕ). IsLastIn (buckets_of tables) (names_of tables table) (bucket_of (buckets_of tables) name) k n)
    (sym (read ∙ get_or_default table.before.items k link 0 (omega arith))) (is.bucketed.links k name got)
