-- Lemmas on the groups of stacks: their bounds, and their lines.
use Rattle.std.proofs.Common.{◌≡◌, ℕ, zero, suc, ◌<◌, ◌≤◌, inl, inr, cond, not, Bool, true, false, List, [], ◌∷◌}
use Rattle.std.proofs.Common.{filter, length, map, take_all, get_or, refl, sym, ap, ◌∙◌, subst, arith}
use Rattle.std.specs.Prelude.{All, min, sum_by}
use Rattle.std.specs.Str.{bytes_eq}
use Rattle.std.proofs.lemmas.Bool.{cases_lt}
use Rattle.std.proofs.lemmas.List.Elements.{All-cons, All-filter, All-head, All-map, All-nil, All-tail}
use Rattle.std.proofs.lemmas.Slice.Eq.{bytes_eq-Decides}
use Rattle.intern_tables.specs.WithoutRepeats.{without_repeats}
use Rattle.ht_trace.specs.TableState.{TableState}
use Rattle.ht_print.specs.declared.entry.Entry.{Entry}
use Rattle.ht_print.specs.declared.scale.Scale.{Scale}
use Rattle.ht_print.specs.IsEntry.{IsEntry}
use Rattle.ht_print.specs.PlacedStacks.{groups_lines, groups_up_to}
use Rattle.ht_print.specs.ReportGroups.{joined, least_from, least_stack, ordered_groups, place_of, places, stacks_at}
use Rattle.ht_print.specs.ReportLines.{merged_lines}
use Rattle.ht_print.specs.ReportOrder.{in_order}
use Rattle.ht_print.proofs.EntryLists.{in_order-all}
use Rattle.ht_print.proofs.EntryOrder.{part-sum}

-- the least of some numbers is one of them
least_from-holds : (P : ℕ → Type 0) (n : ℕ) (stacks : List Entry) → P n → All (λ (e : Entry). P e.stack) stacks
    → P (least_from n stacks)
least_from-holds P n [] first more = first
least_from-holds P n (e ∷ es) first more =
    let here : P e.stack = All-head (λ (x : Entry). P x.stack) e es more in
    let lesser : P (min n e.stack) = elim (cases_lt n e.stack) [
      | inl less ↦ subst P (omega arith) first
      | inr over ↦ subst P (omega arith) here
    ] in
    least_from-holds P (min n e.stack) es lesser (All-tail (λ (x : Entry). P x.stack) e es more)

least-holds : (P : ℕ → Type 0) (stacks : List Entry) → 0 < length stacks → All (λ (e : Entry). P e.stack) stacks
    → P (least_stack stacks)
least-holds P [] some all = absurd (omega arith)
least-holds P (e ∷ es) some all =
    least_from-holds P e.stack es (All-head (λ (x : Entry). P x.stack) e es all)
    (All-tail (λ (x : Entry). P x.stack) e es all)

-- the stacks of a place have no greater sum than all
pub place-sum : (tables : TableState) (stacks : List Entry) (place : List ℕ)
    → sum_by (λ (e : Entry). e.figure) (stacks_at tables stacks place) ≤ sum_by (λ (e : Entry). e.figure) stacks
unfolding stacks_at
place-sum tables stacks place = part-sum (λ (e : Entry). bytes_eq place (place_of tables e.stack)) stacks

-- a stack is among those of its place
own-some : (tables : TableState) (stacks : List Entry) (k : ℕ) (d : Entry) → k < length stacks
    → 0 < length (stacks_at tables stacks (place_of tables (get_or stacks k d).stack))
unfolding stacks_at
own-some tables [] k d within = absurd (omega arith)
own-some tables (e ∷ es) zero d within =
    subst (λ (b : Bool). 0
    < length
    (cond b (e ∷ stacks_at tables es (place_of tables e.stack)) (stacks_at tables es (place_of tables e.stack))))
    (sym ((bytes_eq-Decides (place_of tables e.stack) (place_of tables e.stack)).1 refl)) (omega arith)
own-some tables (e ∷ es) (suc k) d within =
    by (bytes_eq place (place_of tables e.stack)) (own-some tables es k d (omega arith))
  where
    place : List ℕ
    place = place_of tables (get_or es k d).stack

    by : (b : Bool) → 0 < length (stacks_at tables es place)
        → 0 < length (cond b (e ∷ stacks_at tables es place) (stacks_at tables es place))
    by true some = omega arith
    by false some = some

-- what holds of all holds of those that stay without the repeats
repeats-all : (P : List ℕ → Type 0) (xs : List (List ℕ)) → All P xs → All P (without_repeats bytes_eq xs)
repeats-all P [] all = All-nil P
repeats-all P (x ∷ xs) all =
    All-cons P x (filter (λ y. not (bytes_eq x y)) (without_repeats bytes_eq xs)) (All-head P x xs all)
    (All-filter (λ y. not (bytes_eq x y)) P (without_repeats bytes_eq xs) (repeats-all P xs (All-tail P x xs all)))

-- the group of a place that some stack has is an entry of the section
group-entry : (tables : TableState) (total : ℕ) (stacks : List Entry) (place : List ℕ)
    → All (IsEntry tables total) stacks → sum_by (λ (e : Entry). e.figure) stacks ≤ total
    → 0 < length (stacks_at tables stacks place)
    → IsEntry tables total (joined (stacks_at tables stacks place))
unfolding stacks_at
group-entry tables total stacks place all within some =
    let members : All (IsEntry tables total) (stacks_at tables stacks place) =
    All-filter (λ (e : Entry). bytes_eq place (place_of tables e.stack)) (IsEntry tables total) stacks all in
    record {
      held =
          least-holds (λ n. n ≤ length tables.nodes) (stacks_at tables stacks place) some
          (λ k d inside. (members k d inside).held);
      within = let part = place-sum tables stacks place in omega (arith, part, within);
    }

-- and so is each group
pub groups-entries : (tables : TableState) (total : ℕ) (stacks : List Entry) → All (IsEntry tables total) stacks
    → sum_by (λ (e : Entry). e.figure) stacks ≤ total → All (IsEntry tables total) (ordered_groups tables stacks)
unfolding ordered_groups places
groups-entries tables total stacks all within =
    let some : All (λ place. 0 < length (stacks_at tables stacks place)) (places tables stacks) =
    repeats-all (λ place. 0 < length (stacks_at tables stacks place))
    (map (λ (e : Entry). place_of tables e.stack) stacks)
    (All-map (λ place. 0 < length (stacks_at tables stacks place)) (λ (e : Entry). place_of tables e.stack) stacks
    (λ k d inside. own-some tables stacks k d inside)) in
    in_order-all (IsEntry tables total) (map (λ place. joined (stacks_at tables stacks place)) (places tables stacks))
    (All-map (IsEntry tables total) (λ place. joined (stacks_at tables stacks place)) (places tables stacks)
    (λ k d inside. group-entry tables total stacks (get_or (places tables stacks) k d) all within (some k d inside)))

-- the members of a group are entries too
pub members-entries : (tables : TableState) (total : ℕ) (stacks : List Entry) (place : List ℕ)
    → All (IsEntry tables total) stacks → All (IsEntry tables total) (stacks_at tables stacks place)
unfolding stacks_at
members-entries tables total stacks place all =
    All-filter (λ (e : Entry). bytes_eq place (place_of tables e.stack)) (IsEntry tables total) stacks all

-- the groups of all stacks, in order
pub groups-ordered : (tables : TableState) (stacks groups : List Entry) (count : ℕ) → length stacks ≤ count
    → groups ≡ groups_up_to tables stacks count → in_order groups ≡ ordered_groups tables stacks
unfolding ordered_groups groups_up_to
groups-ordered tables stacks groups count all are =
    ap in_order
    (are
    ∙ ap (λ (es : List Entry). map (λ place. joined (stacks_at tables stacks place)) (places tables es))
    (take_all count stacks all))

-- the lines of the groups in order are those of the section
pub merged-are : (tables : TableState) (scale : Scale) (limit sub_limit : ℕ) (stacks groups : List Entry)
    → groups ≡ ordered_groups tables stacks
    → groups_lines tables scale limit sub_limit stacks groups ≡ merged_lines tables scale limit sub_limit stacks
unfolding groups_lines merged_lines
merged-are tables scale limit sub_limit stacks groups are =
    ap (λ (gs : List Entry). groups_lines tables scale limit sub_limit stacks gs) are
