-- The fields of a line of a symbol table, taken off one at a time from the front.
use Rattle.std.proofs.Common.{◌≡◌, ℕ, ◌+◌, ◌-◌, ◌≤◌, Bool, true, false, not, cond, ltb, List, [], ◌∷◌, length, take}
use Rattle.std.proofs.Common.{drop, Option, Some, None, refl, sym, ap, ◌∙◌, subst, arith, Bor}
use Rattle.std.specs.Option.{option_copied}
use Rattle.std.specs.List.{slice_split, onto_first, position, position_or_len}
use Rattle.std.proofs.lemmas.Bool.{ltb-true}
use Rattle.std.proofs.lemmas.List.{take_all, length-drop}
use Rattle.std.proofs.lemmas.List.Splits.{slice_split_first}
use Rattle.std.proofs.lemmas.Option.{cond_some}
use borrow.Author.Tests.{ltb-false}
use Rattle.interpret.specs.SymbolLine.{are_frames, are_texts, fields, is_tab}
use Rattle.interpret.specs.SymbolEntries.{following}

-- the first field ends at the first tab
pub fields-found : (text : List ℕ) (end : ℕ) → Some end ≡ position is_tab text
    → fields text ≡ take end text ∷ fields (take (length text - (end + 1)) (drop (end + 1) text))
unfolding fields
fields-found text end is =
    let found =
    cond_some (ltb (position_or_len is_tab text) (length text)) (position_or_len is_tab text) end (sym is) in
    let within = ltb-true (position_or_len is_tab text) (length text) found.0 in
    let split = slice_split_first is_tab text 0 within in
    let rest = take_all (length text - (end + 1)) (drop (end + 1) text) (omega (arith, length-drop (end + 1) text)) in
    rw rest (subst (λ (k : ℕ). slice_split is_tab text ≡ take k text ∷ slice_split is_tab (drop (k + 1) text)) found.1
    split)

place_within : (text : List ℕ) → position_or_len is_tab text ≤ length text
place_within [] = omega arith
place_within (b ∷ bs) = by (is_tab b) (place_within bs)
  where
    by : (t : Bool) → position_or_len is_tab bs ≤ length bs
        → cond {A = ℕ} (not t) (1 + position_or_len is_tab bs) 0 ≤ length (b ∷ bs)
    by true within = omega arith
    by false within = omega arith

split-alone : (text : List ℕ) → position_or_len is_tab text ≡ length text → slice_split is_tab text ≡ text ∷ []
split-alone [] at = refl
split-alone (b ∷ bs) at = by (is_tab b) at (λ rest. split-alone bs rest)
  where
    by : (t : Bool) → cond {A = ℕ} (not t) (1 + position_or_len is_tab bs) 0 ≡ length (b ∷ bs)
        → (position_or_len is_tab bs ≡ length bs → slice_split is_tab bs ≡ bs ∷ [])
        → cond t ([] ∷ slice_split is_tab bs) (onto_first b (slice_split is_tab bs)) ≡ (b ∷ bs) ∷ []
    by true at alone = absurd (omega (arith, at))
    by false at alone = ap (λ (parts : List (List ℕ)). onto_first b parts) (alone (omega (arith, at)))

past-end : (t : Bool) (place : ℕ) → cond t (Some place) None ≡ None → t ≡ false
past-end true place none = absurd (grind (arith, none))
past-end false place none = refl

-- a text without a tab is one field
pub fields-alone : (text : List ℕ) → None ≡ position is_tab text → fields text ≡ text ∷ []
unfolding fields
fields-alone text none =
    let past = past-end (ltb (position_or_len is_tab text) (length text)) (position_or_len is_tab text) (sym none) in
    split-alone text (omega (arith, place_within text, ltb-false (position_or_len is_tab text) (length text) past))

-- a text has a field, so that texts with two fields are a function alone no more
more-texts : (function text : List ℕ) → are_texts (function ∷ fields text) ≡ are_frames (function ∷ fields text)
unfolding fields
more-texts function [] = refl
more-texts function (b ∷ bs) = by (is_tab b) (slice_split is_tab bs)
  where
    by : (t : Bool) (parts : List (List ℕ))
        → are_texts (function ∷ cond t ([] ∷ parts) (onto_first b parts))
        ≡ are_frames (function ∷ cond t ([] ∷ parts) (onto_first b parts))
    by true parts = refl
    by false [] = refl
    by false (part ∷ parts) = refl

pub texts-more : (texts function : List ℕ) (after : Option (Bor (List ℕ))) (rest : Bor (List ℕ))
    → fields texts ≡ function ∷ following (option_copied after) → after ≡ Some rest
    → are_texts (fields texts) ≡ are_frames (fields texts)
texts-more texts function after rest is some =
    let here = is ∙ ap (λ (o : Option (Bor (List ℕ))). function ∷ following (option_copied o)) some in
    rw here (more-texts function rest.now)
