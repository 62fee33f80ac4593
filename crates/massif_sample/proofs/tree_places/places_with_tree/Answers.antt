use Rattle.std.proofs.Common.{◌≡◌, ℕ, List, [], ◌∷◌, ◌++◌, false, get_or, inl, inr, ap, refl, sym, subst, ◌∙◌, arith}
use Rattle.std.specs.Prelude.{All, slice_get, Contains, Some}
use Rattle.std.proofs.lemmas.Bool.{both_ways, cases_lt}
use Rattle.std.proofs.lemmas.List.Elements.{All-push, Contains-append_left, Contains-push}
use Rattle.std.proofs.lemmas.Option.{get_or_from_slice_get, slice_get-get_or, slice_get_within}
use Rattle.massif_cull.specs.declared.snapshot.Kind.TheVariants.{Normal}
use Rattle.massif_cull.specs.declared.snapshot.SnapEntry.{SnapEntry}
use Rattle.massif_sample.specs.Snapshots.{IsTreePlace, shows_tree}
use Rattle.massif_sample.proofs.tree_places.places_with_tree.Goals as goal

-- an entry to read past the end of a list
abbrev no_entry : SnapEntry
no_entry = record { place = 0; time = 0; total = 0; kind = Normal }

-- the entry is the one that was read last
read : (entries : List SnapEntry) (i k : ℕ) (entry : SnapEntry) → i ≡ k → slice_get entries k ≡ Some entry
    → get_or entries i no_entry ≡ entry
read entries i k entry is at =
    ap (λ (n : ℕ). get_or entries n no_entry) is ∙ get_or_from_slice_get entries k entry no_entry at

pub entries-preserved-then-not-has_tree : goal.entries-preserved-then-not-has_tree
entries-preserved-then-not-has_tree c =
    let none : shows_tree (get_or c.args.entries.now c.entries.entry-index no_entry).kind ≡ false =
    sym c.has_tree.ensures ∙ c.if-not-has_tree.true in (
      λ k entry below at shows. elim (cases_lt k c.entries.entry-index) [
        | inl early ↦ c.entries.invariant.0 k entry early at shows
        | inr late ↦
            (let one = read c.args.entries.now c.entries.entry-index k entry
            (let is : c.entries.entry-index ≡ k = omega arith in is) at in
            absurd (both_ways _ none (ap (λ (e : SnapEntry). shows_tree e.kind) one ∙ shows)))
      ],
      c.entries.invariant.1,
    )

pub entries-preserved : goal.entries-preserved
entries-preserved c =
    let last = get_or c.args.entries.now c.entries.entry-index no_entry in
    let one_more : IsTreePlace c.args.entries.now last.place = record {
      entry = last;
      held = (
        c.entries.entry-index,
        slice_get-get_or c.args.entries.now c.entries.entry-index no_entry (omega (arith, c.entries-test.true)),
      );
      shows = sym c.has_tree.ensures ∙ c.if-not-has_tree.false;
      same = refl;
    } in (
      λ k entry below at shows. subst (λ (xs : List ℕ). Contains xs entry.place) (sym c.in_ok-push.ensures.items)
          (elim (cases_lt k c.entries.entry-index) [
            | inl early ↦ Contains-append_left c.entries.places.items (last.place ∷ []) entry.place
                (c.entries.invariant.0 k entry early at shows)
            | inr late ↦
                (let one = read c.args.entries.now c.entries.entry-index k entry
                (let is : c.entries.entry-index ≡ k = omega arith in is) at in
                subst (λ (e : SnapEntry). Contains (c.entries.places.items ++ last.place ∷ []) e.place) one
                (Contains-push c.entries.places.items last.place))
          ]),
      subst (λ (xs : List ℕ). All (IsTreePlace c.args.entries.now) xs) (sym c.in_ok-push.ensures.items)
          (All-push (IsTreePlace c.args.entries.now) c.entries.places.items last.place c.entries.invariant.1 one_more),
    )

pub returns : goal.returns
returns c = record {
  all =
      λ k entry at shows. c.entries.invariant.0 k entry
      (let within = slice_get_within c.args.entries.now k entry at in omega (arith, c.entries-test.false)) at shows;
  only = c.entries.invariant.1;
}
