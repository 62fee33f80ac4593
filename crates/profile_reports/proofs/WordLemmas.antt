-- Lemmas on words in a row.
use Rattle.std.proofs.Common.{◌≡◌, ℕ, zero, suc, ◌+◌, ◌<◌, Bool, cond, List, [], ◌∷◌, ◌++◌, length, take, get_or, refl}
use Rattle.std.proofs.Common.{sym, ap, ◌∙◌, arith, append_assoc}
use Rattle.std.specs.Prelude.{codes}
use Rattle.std.specs.List.{flat_map, join_by}
use Rattle.std.proofs.Math.Dec.{eqb-suc-zero}
use Rattle.std.proofs.lemmas.List.{append-nil, take_more}
use Rattle.std.proofs.lemmas.List.Concat.{flat_map-append}
use Rattle.profile_reports.specs.PageReport.{before_word}

abbrev joined : List (List ℕ) → List ℕ
joined words = join_by (λ word. word) (codes " ") words

-- a blank, unless there is no word
abbrev blank_after : List (List ℕ) → List ℕ
blank_after [] = []
blank_after (word ∷ words) = codes " "

join-push : (words : List (List ℕ)) (word : List ℕ)
    → joined (words ++ word ∷ []) ≡ joined words ++ (blank_after words ++ word)
join-push [] word = append-nil word
join-push (w ∷ words) word =
    ap (λ (more : List ℕ). w ++ more)
    (flat_map-append (λ (y : List ℕ). codes " " ++ y) words (word ∷ [])
    ∙ ap (λ (last : List ℕ). flat_map (λ (y : List ℕ). codes " " ++ y) words ++ last)
    (append-nil (codes " " ++ word)))
    ∙ sym (append_assoc w (flat_map (λ (y : List ℕ). codes " " ++ y) words) (codes " " ++ word))

blank-is : (words : List (List ℕ)) (place : ℕ) → place < length words
    → blank_after (take place words) ≡ before_word place
blank-is [] place within = absurd (omega arith)
blank-is (w ∷ words) zero within = refl
blank-is (w ∷ words) (suc place) within = sym (ap (λ (b : Bool). cond b [] (codes " ")) (eqb-suc-zero place))

-- one word more
pub joined-next : (words : List (List ℕ)) (place : ℕ) (word old new : List ℕ) → place < length words
    → get_or words place word ≡ word → old ≡ join_by (λ w. w) (codes " ") (take place words)
    → new ≡ old ++ (before_word place ++ word)
    → new ≡ join_by (λ w. w) (codes " ") (take (place + 1) words)
joined-next words place word old new within is old_is new_is =
    new_is
    ∙ ap (λ (text : List ℕ). text ++ (before_word place ++ word)) old_is
    ∙ ap (λ (blank : List ℕ). joined (take place words) ++ (blank ++ word)) (sym (blank-is words place within))
    ∙ sym (join-push (take place words) word)
    ∙ ap (λ (last : List ℕ). joined (take place words ++ last ∷ [])) (sym is)
    ∙ ap joined (sym (take_more words place word within))
