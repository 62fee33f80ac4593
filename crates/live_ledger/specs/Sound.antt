-- What holds of every ledger: its bounds, and that its figures are sums. The figures of all stacks
-- sum to the totals, and no figure passes its bound.
use Rattle.std.specs.Prelude.{◌≡◌, ℕ, ◌+◌, ◌^◌, ◌<◌, ◌≤◌, List, length, sum, sum_by, Some, slice_get}
use Rattle.live_ledger.specs.declared.figures.Figures.{Figures}
use Rattle.live_ledger.specs.declared.totals.Totals.{Totals}
use Rattle.live_ledger.specs.LedgerState.{HeldInfo, LedgerState, figures_at}

-- the figures of all stacks sum to the totals
pub record AreSums (totals : Totals) (figures : List Figures) : Type 0 where
  pub live : sum_by (λ (f : Figures). f.live) figures ≡ totals.live
  pub blocks : sum_by (λ (f : Figures). f.blocks) figures ≡ totals.blocks
  pub calls : sum_by (λ (f : Figures). f.calls) figures ≡ totals.calls
  pub temporary : sum_by (λ (f : Figures). f.temporary) figures ≡ totals.temporary
  pub allocated : sum_by (λ (f : Figures). f.allocated) figures ≡ totals.allocated

-- a stack's figures have their order, and none is above the total
pub record AreWithin (figures : Figures) (totals : Totals) : Type 0 where
  pub live : figures.live ≤ figures.allocated
  pub blocks : figures.temporary + figures.blocks ≤ figures.calls
  pub live_within : figures.live ≤ totals.live
  pub blocks_within : figures.blocks ≤ totals.blocks
  pub calls_within : figures.calls ≤ totals.calls
  pub temporary_within : figures.temporary ≤ totals.temporary
  pub allocated_within : figures.allocated ≤ totals.allocated

-- stack 0 is held, and so is each info's stack; an event is an allocation or a free, each temporary allocation was
-- freed, and no figure passes its bound
pub record IsSound (state : LedgerState) : Type 0 where
  pub stacks : length state.figures ≡ state.stacks
  pub stack_0 : 0 < state.stacks
  pub stacks_within : state.stacks < 2 ^ 32
  pub infos_within : length state.infos < 2 ^ 32
  pub stack_held : (info : ℕ) (held : HeldInfo) → slice_get state.infos info ≡ Some held
      → held.stack < state.stacks
  pub sums : AreSums state.totals state.figures
  pub blocks_of_infos : sum state.blocks ≡ state.totals.blocks
  pub calls_of_infos : sum state.info_calls ≡ state.totals.calls
  pub each_stack : (stack : ℕ) → AreWithin (figures_at state stack) state.totals
  pub live_within : state.totals.live ≤ state.totals.allocated
  pub allocated_within : state.totals.allocated ≤ 2 ^ 62
  pub blocks_within : state.totals.temporary + state.totals.blocks ≤ state.totals.calls
  pub calls_and_frees : state.totals.events + state.totals.blocks
      ≡ state.totals.calls + state.totals.calls
  pub events_within : state.totals.events ≤ 2 ^ 32
