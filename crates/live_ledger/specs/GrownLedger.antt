-- A ledger with one more stack, which has no figures, and the infos that one more adds.
use Rattle.std.specs.Prelude.{◌≡◌, ℕ, ◌+◌, List, [], ◌∷◌, ◌++◌, length, slice_index, Result, IfOk, OnOk}
use Rattle.live_ledger.specs.LedgerState.{HeldInfo, LedgerState, no_figures}

-- the ledger with one more stack
abbrev pub with_stack : LedgerState → LedgerState
with_stack ledger = record ledger
    { stacks = ledger.stacks + 1; figures = ledger.figures ++ no_figures ∷ [] }

-- one info, for blocks of this size in this stack
abbrev pub one_info : ℕ → ℕ → List HeldInfo
one_info stack size = record { stack = stack; size = size } ∷ []

-- the info that a call answers as its size and its stack
abbrev pub answered_info : ℕ × ℕ → HeldInfo
answered_info info = record { stack = info.1; size = info.0 }

-- one more info is held, under the number that is answered, and all else stays; where memory is wanting, none is
pub record AddsInfo {E : Type 0} (old new : LedgerState) (stack size : ℕ)
    (result : Result ℕ E) : Type 0 where
  pub number : IfOk result (λ number. number ≡ length old.infos)
  pub infos : OnOk result (new.infos ≡ old.infos ++ one_info stack size)
  pub stacks : new.stacks ≡ old.stacks
  pub figures : new.figures ≡ old.figures
  pub totals : new.totals ≡ old.totals
  pub info_calls : (info : ℕ)
      → slice_index new.info_calls info ≡ slice_index old.info_calls info
