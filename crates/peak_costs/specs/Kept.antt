-- What the fields of peaks keep, and what contracts see of them, for private clauses.
use Rattle.std.specs.Prelude.{◌≡◌, ℕ, ◌+◌, ◌<◌, ◌≤◌, List, length, map, slice_index, sum}
use Rattle.live_ledger.specs.declared.figures.Figures.{Figures}
use Rattle.live_ledger.specs.LedgerState.{LedgerState}
use Rattle.live_ledger.specs.Sound as ledger_sound
use Rattle.peak_costs.specs.declared.mark.Mark.{Mark}
use Rattle.peak_costs.specs.PeakState.{PeakState}
use Rattle.peak_costs.specs.Saved.{shares_of}

-- the live bytes of the stacks by their numbers
abbrev pub live_list : LedgerState → List ℕ
live_list ledger = map (λ (f : Figures). f.live) ledger.figures

-- their live blocks
abbrev pub blocks_list : LedgerState → List ℕ
blocks_list ledger = map (λ (f : Figures). f.blocks) ledger.figures

-- the state that contracts see
abbrev pub state_of : LedgerState → List ℕ → List ℕ → List ℕ → Mark → PeakState
state_of ledger saved blocks stamps mark = record {
  ledger = ledger;
  shares = shares_of ledger.stacks (live_list ledger) saved stamps mark.counter;
  block_shares = shares_of ledger.stacks (blocks_list ledger) blocks stamps mark.counter;
  total = mark.total;
  moment = mark.moment;
}

-- there is a cell for each stack, no stamp is of a later peak, and one that isn't held yet has the stamp 0, which is no
-- peak's
pub record AreKept (ledger : LedgerState) (saved blocks stamps : List ℕ) (mark : Mark) : Type
    0 where
  pub sound : ledger_sound.IsSound ledger
  pub saved_long : ledger.stacks ≤ length saved
  pub blocks_long : ledger.stacks ≤ length blocks
  pub stamps_long : ledger.stacks ≤ length stamps
  pub stamps_past : (stack : ℕ) → ledger.stacks ≤ stack → slice_index stamps stack ≡ 0
  pub stamps_within : (stack : ℕ) → slice_index stamps stack ≤ mark.counter
  pub counter_some : 0 < mark.counter
  pub counter_within : mark.counter ≤ ledger.totals.events + 1
  pub shares_sum : sum (shares_of ledger.stacks (live_list ledger) saved stamps mark.counter)
      ≡ mark.total
  pub total_within : mark.total ≤ ledger.totals.allocated
  pub moment_within : mark.moment ≤ ledger.totals.events

-- the fields keep their promise, and no more is live than at the peak
pub record AreMarked (ledger : LedgerState) (saved blocks stamps : List ℕ) (mark : Mark) : Type
    0 where
  pub kept : AreKept ledger saved blocks stamps mark
  pub live_within : ledger.totals.live ≤ mark.total
