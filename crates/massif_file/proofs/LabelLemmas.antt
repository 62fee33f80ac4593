-- Labels by their parts of the bytes, when more are appended.
use Rattle.std.proofs.Common.{◌≡◌, ◌<◌, ◌+◌, ◌-◌, ℕ, List, [], ◌∷◌, ◌++◌, length, get_or, take, drop, Some, refl, ap}
use Rattle.std.proofs.Common.{◌∙◌, arith}
use Rattle.std.specs.List.{slice_get}
use Rattle.std.specs.Option.{option_map}
use Rattle.std.proofs.lemmas.List.{length-map, map-append, take-append-le, drop-append-le, length-drop}
use Rattle.std.proofs.lemmas.Option.{slice_get-map, slice_get_read}
use Rattle.std.proofs.lemmas.List.Elements.{All-head, All-tail}
use Rattle.std.proofs.Math.Seq.{drop-append_seam, take-length}
use Rattle.massif_file.specs.declared.labels.Span.{Span}
use Rattle.massif_file.specs.LabelSpans.{AreWithin, IsWithin, label_kept, labels_in}

-- a label is the same where more follow
label-same : (bytes more : List ℕ) (span : Span) → IsWithin bytes span
    → label_kept (bytes ++ more) span ≡ label_kept bytes span
label-same bytes more span within =
    let front = drop-append-le span.start bytes more (omega arith) in
    let own = take-append-le span.count (drop span.start bytes) more (omega (arith, length-drop span.start bytes)) in
    ap (take span.count) front ∙ own

-- so are all labels
pub labels-same : (bytes more : List ℕ) (spans : List Span) → AreWithin bytes spans
    → labels_in (bytes ++ more) spans ≡ labels_in bytes spans
labels-same bytes more [] all = refl
labels-same bytes more (span ∷ spans) all =
    ap (λ (label : List ℕ). label ∷ labels_in (bytes ++ more) spans)
    (label-same bytes more span (All-head (IsWithin bytes) span spans all))
    ∙ ap (λ (labels : List (List ℕ)). label_kept bytes span ∷ labels)
    (labels-same bytes more spans (All-tail (IsWithin bytes) span spans all))

-- the labels with one more, whose bytes are appended
pub labels-push : (bytes more : List ℕ) (spans : List Span) (span : Span) → AreWithin bytes spans
    → span.start ≡ length bytes → span.count ≡ length more
    → labels_in (bytes ++ more) (spans ++ span ∷ []) ≡ labels_in bytes spans ++ more ∷ []
labels-push bytes more spans span all start count =
    let own : take span.count (drop span.start (bytes ++ more)) ≡ more =
    rw (count, start, drop-append_seam bytes more) (take-length more) in
    map-append (label_kept (bytes ++ more)) spans (span ∷ [])
    ∙ ap (λ (labels : List (List ℕ)). labels ++ label_kept (bytes ++ more) span ∷ []) (labels-same bytes more spans all)
    ∙ ap (λ (label : List ℕ). labels_in bytes spans ++ label ∷ []) own

-- the label with a number
pub label-at : (bytes : List ℕ) (spans : List Span) (number : ℕ) (span : Span) → number < length (labels_in bytes spans)
    → span ≡ get_or spans number span
    → slice_get (labels_in bytes spans) number
    ≡ Some (take (span.start + span.count - span.start) (drop span.start bytes))
label-at bytes spans number span held is =
    slice_get-map (label_kept bytes) spans number
    ∙ ap (option_map (label_kept bytes))
    (slice_get_read spans (length (labels_in bytes spans)) number span (length-map spans (label_kept bytes)) held is)
    ∙ ap (λ (count : ℕ). Some (take count (drop span.start bytes))) {x = span.count} {y = span.start + span.count
    - span.start} (omega arith)
