-- What a check makes of a line. A line is taken behind the lines before it, or refused exactly
-- where these and it are no front.
use Rattle.std.specs.Prelude.{◌≡◌, ℕ, true, false, List, [], ◌∷◌, ◌++◌, Result, Err, OnOk}
use Rattle.order_check.specs.declared.verdict.CheckRefusal.{CheckRefusal}
use Rattle.order_check.specs.declared.verdict.CheckRefusal.TheVariants.{NotRecorded}
use Rattle.order_check.specs.CheckState.{CheckState, HasTaken}
use Rattle.order_check.specs.Following.{is_front}
use Rattle.order_check.specs.KeptTurn.{KeepsOneTurn}

-- it is taken behind the lines before it, or refused exactly where no recording begins with it
-- behind them; and no more is kept of the recording than one turn
pub record TakesLine (old new : CheckState) (line : List ℕ) (result : Result (Unit {0}) CheckRefusal)
    : Type 0 where
  pub taken : OnOk result
      ((lines : List (List ℕ)) → HasTaken old lines → HasTaken new (lines ++ line ∷ []))
  pub front : OnOk result
      ((lines : List (List ℕ)) → HasTaken old lines
      → is_front old.job (lines ++ line ∷ []) ≡ true)
  pub refused : result ≡ Err NotRecorded → (lines : List (List ℕ)) → HasTaken old lines
      → is_front old.job (lines ++ line ∷ []) ≡ false
  pub kept : KeepsOneTurn old → KeepsOneTurn new
  pub job : new.job ≡ old.job
