-- Lists of numbers as they are told, step by step, for private clauses.
use Rattle.std.specs.Prelude.{◌≡◌, ◌≢◌, ℕ, ◌-◌, ◌^◌, ◌<◌, List, [], ◌∷◌, ◌++◌, fold, length, take, Some, slice_get}
use Rattle.std.specs.Prelude.{slice_index_or}
use Rattle.cost_tree.specs.declared.list_step.ListStep.{ListStep}
use Rattle.cost_tree.specs.declared.list_step.ListStep.TheVariants.{Begin, Push}
use Rattle.cost_tree.specs.GrowingLists.{caller_list}
use Rattle.cost_tree.specs.Texts.{AreTexts}

-- the lists after a step more: one more, which begins with that of a caller, or a number more at the end of the last
abbrev pub after : List (List ℕ) → ListStep → List (List ℕ)
after lists (Begin caller) = lists ++ caller_list lists caller ∷ []
after lists (Push number) = take (length lists - 1) lists
    ++ (slice_index_or lists (length lists - 1) [] ++ number ∷ []) ∷ []

-- the lists that the steps tell
unfoldable pub told : List ListStep → List (List ℕ)
told steps = fold after [] steps

-- the step's caller has a list and there is room for one more, or there is a last list
abbrev pub MayFollow : List (List ℕ) → ListStep → Type 0
MayFollow lists (Begin caller) = (caller ≢ 0 → caller < length lists)
    × (length lists < 2 ^ 32 - 1)
MayFollow lists (Push number) = 0 < length lists

-- each step may follow those before it, and the numbers of the lists are those of texts
pub record AreTold (names : List (List ℕ)) (steps : List ListStep) : Type 0 where
  pub texts : AreTexts names (told steps)
  pub each : (place : ℕ) (step : ListStep) → slice_get steps place ≡ Some step
      → MayFollow (told (take place steps)) step
