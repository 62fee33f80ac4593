use Rattle.std.proofs.Common.{◌≡◌, ℕ, ◌+◌, ◌++◌, ◌∷◌, [], List, take, sym, ap, ◌∙◌, arith}
use Rattle.std.specs.Prelude.{slice_get, Some}
use Rattle.std.proofs.lemmas.List.{take_more}
use Rattle.std.proofs.lemmas.Option.{get_or_from_slice_get, slice_get_within}
use Rattle.massif_cull.specs.declared.snapshot.SnapEntry.{SnapEntry}
use Rattle.massif_cull.proofs.linked.LinkedSnaps.entries_into.Goals as goal

-- the first entries with the next one
next : (entries : List SnapEntry) (k : ℕ) (entry : SnapEntry) → slice_get entries k ≡ Some entry
    → take (k + 1) entries ≡ take k entries ++ entry ∷ []
next entries k entry at =
    take_more entries k entry (slice_get_within entries k entry at)
    ∙ ap (λ (e : SnapEntry). take k entries ++ e ∷ []) (get_or_from_slice_get entries k entry entry at)

pub others-preserved : goal.others-preserved
others-preserved g c =
    let so_far = c.others.invariant in
    let entries = c.args.self.now.entries in
    let here : c.after-snap_at.result.index ≡ c.others.counter = omega
    (arith, c.after-snap_at.ensures.index, so_far.index) in
    let entry = c.entry-in-others.result in
    let at : slice_get entries c.others.counter ≡ Some entry =
    ap (slice_get entries) (sym here) ∙ c.entry-in-others.ensures in
    record {
      snap_at = c.after-snap_at.ensures.snap_at;
      index = omega (arith, here);
      items =
          c.push_reserved-in-others.ensures.items ∙ ap (λ (es : List SnapEntry). es ++ entry ∷ []) so_far.items
          ∙ sym (next entries c.others.counter entry at);
      room = (let capacity = c.push_reserved-in-others.ensures.capacity in let room = so_far.room in omega arith);
    }
