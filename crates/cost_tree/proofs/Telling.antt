-- Lemmas on lists that are told step by step.
use Rattle.std.proofs.Common.{◌≡◌, ◌≢◌, ℕ, zero, suc, ◌-◌, ◌<◌, ◌≤◌, inl, inr, eqb, false, List, [], ◌∷◌, ◌++◌, length}
use Rattle.std.proofs.Common.{take, get_or, refl, sym, ap, ◌∙◌, subst, arith}
use Rattle.std.specs.Prelude.{All}
use Rattle.std.proofs.lemmas.Bool.{cond-false}
use Rattle.std.proofs.lemmas.Bool.Decides.{nat_tests}
use Rattle.std.proofs.lemmas.List.{get_or-map, length-take, length_push, map-append, same_from_push, take-append-le}
use Rattle.std.proofs.lemmas.List.{take_all}
use Rattle.std.proofs.lemmas.List.Elements.{All-append, All-cons, All-get_or, All-nil}
use Rattle.std.proofs.lemmas.List.Sums.{fold_push}
use Rattle.std.proofs.lemmas.Option.{slice_get_within}
use Rattle.cost_tree.specs.declared.list_step.ListStep.{ListStep}
use Rattle.cost_tree.specs.declared.list_step.ListStep.TheVariants.{Push}
use Rattle.cost_tree.specs.GrowingLists.{LastGains, caller_list}
use Rattle.cost_tree.specs.Texts.{AreTexts, IsText, lists_of, texts_of}
use Rattle.cost_tree.specs.Told.{AreTold, MayFollow, after, told}
use Rattle.cost_tree.proofs.Listing.{texts-grown}
use Rattle.cost_tree.proofs.Lists.{get-push_cases}
use Rattle.cost_tree.proofs.ShapeLists.{split-last}

-- one step more
pub told-more : (steps : List ListStep) (step : ListStep) → told (steps ++ step ∷ []) ≡ after (told steps) step
unfolding told
told-more steps step = fold_push after [] steps step

-- a number more at the end of the last list
pub pushed-gains : (lists : List (List ℕ)) (number : ℕ) → LastGains lists (number ∷ []) (after lists (Push number))
pushed-gains lists number = λ earlier last is.
    let count = ap (λ (ls : List (List ℕ)). length ls) is ∙ length_push earlier last in
    let before : List (List ℕ) = take (length lists - 1) lists in
    let list : List ℕ = get_or lists (length lists - 1) [] in
    let parts = same_from_push before earlier list last (sym (split-last lists [] (omega arith)) ∙ is) in
    ap (λ (ls : List (List ℕ)). ls ++ (list ++ number ∷ []) ∷ []) parts.0
    ∙ ap (λ (ns : List ℕ). earlier ++ (ns ++ number ∷ []) ∷ []) parts.1

pub pushed-count : (lists : List (List ℕ)) (number : ℕ) → 0 < length lists
    → length (after lists (Push number)) ≡ length lists
pushed-count lists number some =
    let before = length-take (length lists - 1) lists in
    let pushed = length_push (take (length lists - 1) lists) (get_or lists (length lists - 1) [] ++ number ∷ []) in
    omega arith

-- a caller's list, and the texts of its numbers
caller-texts : (names lists : List (List ℕ)) (caller : ℕ) → (caller ≢ 0 → caller < length lists)
    → texts_of names (caller_list lists caller) ≡ caller_list (lists_of names lists) caller
caller-texts names lists zero held = refl
caller-texts names lists (suc k) held =
    let above : eqb (suc k) 0 ≡ false = grind (arith, nat_tests) in
    let within = held (λ none. absurd (omega arith)) in
    ap (λ (ns : List ℕ). texts_of names ns) (cond-false (eqb (suc k) 0) [] (get_or lists (suc k) []) above)
    ∙ sym (get_or-map (texts_of names) lists (suc k) [] [] within)
    ∙ sym (cond-false (eqb (suc k) 0) [] (get_or (lists_of names lists) (suc k) []) above)

caller-held : (names lists : List (List ℕ)) (caller : ℕ) → (caller ≢ 0 → caller < length lists) → AreTexts names lists
    → All (IsText names) (caller_list lists caller)
caller-held names lists zero held are = All-nil (IsText names)
caller-held names lists (suc k) held are =
    let above : eqb (suc k) 0 ≡ false = grind (arith, nat_tests) in
    subst (λ (ns : List ℕ). All (IsText names) ns) (sym (cond-false (eqb (suc k) 0) [] (get_or lists (suc k) []) above))
    (All-get_or (All (IsText names)) lists (suc k) [] (held (λ none. absurd (omega arith))) are)

-- a list more, in texts
pub begun-texts : (names lists : List (List ℕ)) (caller : ℕ) → (caller ≢ 0 → caller < length lists)
    → lists_of names (lists ++ caller_list lists caller ∷ [])
    ≡ lists_of names lists ++ caller_list (lists_of names lists) caller ∷ []
begun-texts names lists caller held =
    map-append (texts_of names) lists (caller_list lists caller ∷ [])
    ∙ ap (λ (ts : List (List ℕ)). lists_of names lists ++ ts ∷ []) (caller-texts names lists caller held)

pub begun-held : (names lists : List (List ℕ)) (caller : ℕ) → (caller ≢ 0 → caller < length lists)
    → AreTexts names lists → AreTexts names (lists ++ caller_list lists caller ∷ [])
begun-held names lists caller held are =
    All-append (All (IsText names)) lists (caller_list lists caller ∷ []) are
    (All-cons (All (IsText names)) (caller_list lists caller) [] (caller-held names lists caller held are)
    (All-nil (All (IsText names))))

-- names more
pub AreTold-names : (names new : List (List ℕ)) (steps : List ListStep) → length names ≤ length new
    → AreTold names steps → AreTold new steps
AreTold-names names new steps more are =
    record { texts = texts-grown names new (told steps) more are.texts; each = are.each }

-- a step more, which may follow
pub AreTold-more : (names : List (List ℕ)) (steps : List ListStep) (step : ListStep) → AreTold names steps
    → MayFollow (told steps) step → AreTexts names (after (told steps) step) → AreTold names (steps ++ step ∷ [])
AreTold-more names steps step are may texts = record {
  texts = subst (λ (lists : List (List ℕ)). AreTexts names lists) (sym (told-more steps step)) texts;
  each = λ place other at.
      elim (get-push_cases steps step place other at) [
        | inl old ↦
            let within = slice_get_within steps place other old in
            subst (λ (ss : List ListStep). MayFollow (told ss) other)
            (sym (take-append-le place steps (step ∷ []) (omega arith))) (are.each place other old)
        | inr new ↦
            let all : take place (steps ++ step ∷ []) ≡ steps =
            take-append-le place steps (step ∷ []) (omega (arith, new.0))
            ∙ take_all place steps (omega (arith, new.0)) in
            subst (λ (ss : List ListStep). MayFollow (told ss) other) (sym all)
            (subst (λ (s : ListStep). MayFollow (told steps) s) (sym new.1) may)
      ];
}

-- no steps
pub AreTold-none : (names : List (List ℕ)) → AreTold names []
unfolding told
AreTold-none names = record {
  texts = All-nil (All (IsText names));
  each = λ place step at. absurd (let within = slice_get_within [] place step at in omega arith);
}
