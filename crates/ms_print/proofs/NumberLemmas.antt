-- Lemmas on the numbers of snapshots, as they come one by one.
use Rattle.std.proofs.Common.{◌≡◌, ℕ, suc, ◌+◌, Bool, true, false, cond, List, [], ◌∷◌, ◌++◌, length, take, Some, refl}
use Rattle.std.proofs.Common.{sym, ap, ◌∙◌, arith, append_assoc}
use Rattle.std.specs.Prelude.{codes, slice_get}
use Rattle.std.specs.List.{flat_map, join_by}
use Rattle.std.proofs.lemmas.List.{append-nil, length-take}
use Rattle.std.proofs.lemmas.List.Concat.{flat_map-append}
use Rattle.std.proofs.lemmas.Option.{slice_get_within}
use Rattle.massif_file.specs.declared.profile.Snap.{Snap}
use Rattle.ms_print.specs.SnapshotsText.{has_tree, marked_number, number_text, number_texts}
use Rattle.ms_print.proofs.Appends.{three-appended}
use Rattle.ms_print.proofs.Lists.{take-next}

-- no text
abbrev pub is_none : List (List ℕ) → Bool
is_none [] = true
is_none (text ∷ texts) = false

numbers-push : (n : ℕ) (snaps : List Snap) (snap : Snap)
    → number_texts n (snaps ++ snap ∷ []) ≡ number_texts n snaps ++ number_text (n + length snaps) snap.mark
numbers-push n [] snap =
    append-nil (number_text n snap.mark) ∙ ap (λ (k : ℕ). number_text k snap.mark) {x = n} {y = n + 0} (omega arith)
numbers-push n (s ∷ snaps) snap =
    ap (λ (texts : List (List ℕ)). number_text n s.mark ++ texts) (numbers-push (suc n) snaps snap)
    ∙ sym (append_assoc (number_text n s.mark) (number_texts (suc n) snaps)
    (number_text (suc n + length snaps) snap.mark))
    ∙ ap (λ (k : ℕ). (number_text n s.mark ++ number_texts (suc n) snaps) ++ number_text k snap.mark) {x = suc n
    + length snaps} {y = n + length (s ∷ snaps)} (omega arith)

numbers-next : (snaps : List Snap) (k : ℕ) (snap : Snap) → slice_get snaps k ≡ Some snap
    → number_texts 0 (take (k + 1) snaps) ≡ number_texts 0 (take k snaps) ++ number_text k snap.mark
numbers-next snaps k snap held =
    let within = slice_get_within snaps k snap held in
    let count : 0 + length (take k snaps) ≡ k = omega (arith, length-take k snaps) in
    ap (number_texts 0) (take-next snaps k snap held)
    ∙ numbers-push 0 (take k snaps) snap
    ∙ ap (λ (i : ℕ). number_texts 0 (take k snaps) ++ number_text i snap.mark) count

-- a snapshot without a tree adds nothing
pub numbers-same : (snaps : List Snap) (k : ℕ) (snap : Snap) → slice_get snaps k ≡ Some snap
    → has_tree snap.mark ≡ false → number_texts 0 (take (k + 1) snaps) ≡ number_texts 0 (take k snaps)
numbers-same snaps k snap held no_tree =
    numbers-next snaps k snap held
    ∙ ap (λ (has : Bool). number_texts 0 (take k snaps) ++ cond has (marked_number k snap.mark ∷ []) []) no_tree
    ∙ append-nil (number_texts 0 (take k snaps))

-- another adds its number
pub numbers-more : (snaps : List Snap) (k : ℕ) (snap : Snap) → slice_get snaps k ≡ Some snap → has_tree snap.mark ≡ true
    → number_texts 0 (take (k + 1) snaps) ≡ number_texts 0 (take k snaps) ++ marked_number k snap.mark ∷ []
numbers-more snaps k snap held tree =
    numbers-next snaps k snap held
    ∙ ap (λ (has : Bool). number_texts 0 (take k snaps) ++ cond has (marked_number k snap.mark ∷ []) []) tree

pub none-push : (texts : List (List ℕ)) (text : List ℕ) → is_none (texts ++ text ∷ []) ≡ false
none-push [] text = refl
none-push (t ∷ texts) text = refl

-- one text more
join-push : (texts : List (List ℕ)) (text : List ℕ)
    → join_by (λ t. t) (codes ", ") (texts ++ text ∷ [])
    ≡ join_by (λ t. t) (codes ", ") texts ++ (cond (is_none texts) [] (codes ", ") ++ text)
join-push [] text = append-nil text
join-push (t ∷ texts) text =
    ap (λ (more : List ℕ). t ++ more)
    (flat_map-append (λ (y : List ℕ). codes ", " ++ y) texts (text ∷ [])
    ∙ ap (λ (last : List ℕ). flat_map (λ (y : List ℕ). codes ", " ++ y) texts ++ last)
    (append-nil (codes ", " ++ text)))
    ∙ sym (append_assoc t (flat_map (λ (y : List ℕ). codes ", " ++ y) texts) (codes ", " ++ text))

pub joined-more : (texts more : List (List ℕ)) (text old now comma new : List ℕ) (first : Bool)
    → more ≡ texts ++ text ∷ [] → first ≡ is_none texts
    → now ≡ old ++ join_by (λ t. t) (codes ", ") texts → comma ≡ now ++ cond first [] (codes ", ") → new ≡ comma ++ text
    → new ≡ old ++ join_by (λ t. t) (codes ", ") more
joined-more texts more text old now comma new first more_is first_is now_is comma_is new_is =
    three-appended old now comma new (join_by (λ t. t) (codes ", ") texts) (cond first [] (codes ", ")) text now_is
    comma_is new_is
    ∙ ap (λ (b : Bool). old ++ (join_by (λ t. t) (codes ", ") texts ++ (cond b [] (codes ", ") ++ text))) first_is
    ∙ ap (λ (xs : List ℕ). old ++ xs) (sym (join-push texts text))
    ∙ ap (λ (ts : List (List ℕ)). old ++ join_by (λ t. t) (codes ", ") ts) (sym more_is)
