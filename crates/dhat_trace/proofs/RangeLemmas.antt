-- Lists of places that stand in one vector.
use Rattle.std.proofs.Common.{◌≡◌, ℕ, ◌+◌, ◌-◌, List, [], ◌∷◌, ◌++◌, drop, length, refl, set, take, ap, ap₂, ◌∙◌, arith}
use Rattle.std.specs.Prelude.{All}
use Rattle.std.proofs.lemmas.List.{drop-append-le, drop_at, length-drop, map-set, take-append-le, take_all}
use Rattle.std.proofs.lemmas.List.Elements.{All-head, All-map, All-tail}
use Rattle.dhat_trace.specs.declared.known_places.PlaceRange.{PlaceRange}
use Rattle.dhat_trace.specs.PlaceRanges.{AreRanges, IsRange, lists_of, places_at}

-- a longer vector has the same where the ranges lie within the shorter one
same_there : (places own : List ℕ) (range : PlaceRange) → IsRange places range
    → places_at (places ++ own) range ≡ places_at places range
same_there places own range within =
    let size = length-drop range.start places in
    ap (take (range.end - range.start)) (drop-append-le range.start places own (omega (arith, within.0, within.1)))
    ∙ take-append-le (range.end - range.start) (drop range.start places) own (omega (arith, within.0, within.1, size))

longer : (places own : List ℕ) (ranges : List PlaceRange) → AreRanges places ranges
    → lists_of (places ++ own) ranges ≡ lists_of places ranges
longer places own [] within = refl
longer places own (range ∷ ranges) within =
    ap₂ (λ (first : List ℕ) (rest : List (List ℕ)). first ∷ rest)
    (same_there places own range (All-head (IsRange places) range ranges within))
    (longer places own ranges (All-tail (IsRange places) range ranges within))

-- what stands at the end
own_there : (places own : List ℕ)
    → places_at (places ++ own) (record { start = length places; end = length places + length own }) ≡ own
own_there places own =
    ap (take (length places + length own - length places)) (drop_at places own (length places) refl)
    ∙ take_all (length places + length own - length places) own (omega arith)

-- more places at the end, and a range of them
pub ranges_set : (places own more : List ℕ) (ranges : List PlaceRange) (number start end : ℕ) → AreRanges places ranges
    → more ≡ places ++ own
    → start ≡ length places → end ≡ length places + length own
    → lists_of more (set ranges number (record { start = start; end = end })) ≡ set (lists_of places ranges) number own
ranges_set places own more ranges number start end within appended first last =
    ap (λ (ps : List ℕ). lists_of ps (set ranges number (record { start = start; end = end }))) appended
    ∙ ap₂ (λ (s e : ℕ). lists_of (places ++ own) (set ranges number (record { start = s; end = e }))) first last
    ∙ map-set (places_at (places ++ own)) ranges number
    (record { start = length places; end = length places + length own })
    ∙ ap₂ (λ (lists : List (List ℕ)) (whole : List ℕ). set lists number whole) (longer places own ranges within)
    (own_there places own)

-- nothing stands in empty ranges
pub none_there : (places : List ℕ) (ranges : List PlaceRange)
    → All (λ range. range ≡ record { start = 0; end = 0 }) ranges → All (λ list. list ≡ []) (lists_of places ranges)
none_there places ranges empty =
    All-map (λ list. list ≡ []) (places_at places) ranges (λ k d within. ap (places_at places) (empty k d within))
