-- What contracts see of peaks: the ledger, each stack's bytes and blocks at the peak, the peak's
-- total and its moment.
use Rattle.std.specs.Prelude.{◌≡◌, ℕ, ◌+◌, ◌≤◌, List, [], ◌∷◌, ◌++◌, length, sum}
use Rattle.live_ledger.specs.LedgerState.{LedgerState, no_figures}
use Rattle.live_ledger.specs.Sound as ledger_sound

-- the ledger, each stack's live bytes and blocks at the peak, the peak's total, and its moment
pub record PeakState : Type 0 where
  pub ledger : LedgerState
  pub shares : List ℕ
  pub block_shares : List ℕ
  pub total : ℕ
  pub moment : ℕ

-- what holds of all peaks: the shares of the stacks sum to the total, which is at most 2^62
pub record IsSound (state : PeakState) : Type 0 where
  pub ledger : ledger_sound.IsSound state.ledger
  pub shares_held : length state.shares ≡ state.ledger.stacks
  pub blocks_held : length state.block_shares ≡ state.ledger.stacks
  pub shares_sum : sum state.shares ≡ state.total
  pub total_within : state.total ≤ state.ledger.totals.allocated
  pub moment_within : state.moment ≤ state.ledger.totals.events

-- the state with one more stack, which has no figures and no share
abbrev pub with_stack : PeakState → PeakState
with_stack state = record state {
  ledger = record state.ledger
      { stacks = state.ledger.stacks + 1; figures = state.ledger.figures ++ no_figures ∷ [] };
  shares = state.shares ++ 0 ∷ [];
  block_shares = state.block_shares ++ 0 ∷ [];
}
