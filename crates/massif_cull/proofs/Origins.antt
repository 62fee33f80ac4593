-- Where each snapshot after an offer comes from, by the lists that it is among.
use Rattle.std.proofs.Common.{◌≡◌, ◌≢◌, ◌⊎◌, ℕ, ◌<◌, List, [], ◌∷◌, ◌++◌, length, map, inl, inr, ◌∙◌, arith}
use Rattle.std.specs.Prelude.{slice_get, Some}
use Rattle.std.proofs.lemmas.Bool.{cases_lt}
use Rattle.std.proofs.lemmas.List.{length-map, length_push}
use Rattle.std.proofs.lemmas.Option.{slice_get-map}
use Rattle.hp_num.proofs.Laws.{slice_get-end, slice_get-front}
use Rattle.massif_cull.specs.declared.snapshot.SnapEntry.{SnapEntry}
use Rattle.massif_cull.specs.declared.snapshot.Offer.{Offer}
use Rattle.massif_cull.specs.declared.snapshot.Taken.{Taken}
use Rattle.massif_cull.specs.declared.snapshot.Taken.TheVariants.{No, Normal, Detailed, Peak}
use Rattle.massif_cull.specs.Among.{AreAmong}
use Rattle.massif_cull.specs.Entries.{end_peak}
use Rattle.massif_cull.specs.Loads.{with_load}
use Rattle.massif_cull.specs.Origins.{kind_of, ComeFrom}
use Rattle.massif_cull.specs.Step.{entry_of, with_entry}

-- a place among a list with one more entry is one of the list, or the last
pub place-pushed :
    {T : Type 0} (earlier : List SnapEntry) (earlier_loads : List T) (entry : SnapEntry) (load : T)
    (entries : List SnapEntry) (loads : List T) (k j : ℕ)
    → length earlier_loads ≡ length earlier
    → j < length (earlier ++ entry ∷ [])
    → slice_get entries k ≡ slice_get (earlier ++ entry ∷ []) j
    → slice_get loads k ≡ slice_get (earlier_loads ++ load ∷ []) j
    → ((j < length earlier) × (slice_get entries k ≡ slice_get earlier j)
    × (slice_get loads k ≡ slice_get earlier_loads j))
    ⊎ ((slice_get entries k ≡ Some entry) × (slice_get loads k ≡ Some load))
place-pushed earlier earlier_loads entry load entries loads k j beside inside here here_load =
    let long = length_push earlier entry in
    elim (cases_lt j (length earlier)) [
      | inl below ↦
          inl (
            below,
            here ∙ slice_get-front earlier (entry ∷ []) j below,
            here_load ∙ slice_get-front earlier_loads (load ∷ []) j (omega arith),
          )
      | inr last ↦
          inr (
            here ∙ slice_get-end earlier entry j (omega arith),
            here_load ∙ slice_get-end earlier_loads load j (omega arith),
          )
    ]

-- where each comes from, if the offer's snapshot is the last of those that it is among
come-behind :
    {T : Type 0} (earlier : List SnapEntry) (earlier_loads : List T) (offer : Offer) (load : T) (taken : Taken)
    (entries : List SnapEntry) (loads : List T)
    → taken ≢ No
    → length earlier_loads ≡ length earlier
    → AreAmong (earlier ++ entry_of offer (kind_of taken) ∷ []) (earlier_loads ++ load ∷ []) entries loads
    → ComeFrom earlier earlier_loads offer load taken entries loads
come-behind earlier earlier_loads offer load taken entries loads is_taken beside among = record {
  each = λ k inside.
      let from = among.each k inside in
      elim (place-pushed earlier earlier_loads (entry_of offer (kind_of taken)) load entries loads k from.0 beside
      from.1 from.2.0 from.2.1) [
        | inl held ↦ inl (from.0, held.0, (inl held.1, held.2))
        | inr offered ↦ inr (is_taken, offered.0, offered.1)
      ];
}

-- where each comes from
pub come-from :
    {T : Type 0} (earlier : List SnapEntry) (earlier_loads : List T) (offer : Offer) (load : T) (taken : Taken)
    (entries : List SnapEntry) (loads : List T)
    → length earlier_loads ≡ length earlier
    → AreAmong (with_entry earlier offer taken) (with_load earlier_loads load taken) entries loads
    → ComeFrom earlier earlier_loads offer load taken entries loads
come-from earlier earlier_loads offer load No entries loads beside among = record {
  each = λ k inside. let from = among.each k inside in inl (from.0, from.1, (inl from.2.0, from.2.1));
}
come-from earlier earlier_loads offer load Normal entries loads beside among =
    come-behind earlier earlier_loads offer load Normal entries loads (λ e. cc) beside among
come-from earlier earlier_loads offer load Detailed entries loads beside among =
    come-behind earlier earlier_loads offer load Detailed entries loads (λ e. cc) beside among
come-from earlier earlier_loads offer load Peak entries loads beside among =
    let long : length (map end_peak earlier) ≡ length earlier = length-map earlier end_peak in
    record {
      each = λ k inside.
          let from = among.each k inside in
          elim
          (place-pushed (map end_peak earlier) earlier_loads (entry_of offer (kind_of Peak)) load entries loads k
          from.0 (omega arith) from.1 from.2.0 from.2.1) [
            | inl held ↦ inl
                (from.0, omega (arith, held.0), (inr (held.1 ∙ slice_get-map end_peak earlier from.0), held.2))
            | inr offered ↦ inr ((λ e. cc), offered.0, offered.1)
          ];
    }
