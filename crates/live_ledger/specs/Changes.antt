-- An event changes the figures of its info and its stack, and the totals, each by its size and by
-- one.
use Rattle.std.specs.Prelude.{◌≡◌, ◌≢◌, ℕ, ◌+◌, Some, None, slice_index, nat_eq, if◌then◌else◌}
use Rattle.std.specs.Option.{option_eq}
use Rattle.live_ledger.specs.declared.event.Event.{Event}
use Rattle.live_ledger.specs.declared.event.Event.TheVariants.{Alloc, Free, Tick}
use Rattle.live_ledger.specs.declared.figures.Figures.{Figures}
use Rattle.live_ledger.specs.LedgerState.{LedgerState, figures_at, without_figures}

-- 1 where the event before is an allocation of the info, and so a free of it ends a temporary allocation
abbrev pub ended_by_free : LedgerState → ℕ → ℕ
ended_by_free state info = if option_eq nat_eq state.last (Some info) then 1 else 0

-- the figures of a stack with one more block
pub record GainsBlock (old new : Figures) (size : ℕ) : Type 0 where
  pub live : new.live ≡ old.live + size
  pub blocks : new.blocks ≡ old.blocks + 1
  pub calls : new.calls ≡ old.calls + 1
  pub temporary : new.temporary ≡ old.temporary
  pub allocated : new.allocated ≡ old.allocated + size

-- the figures of a stack with one block fewer, which ended so many temporary allocations
pub record LosesBlock (old new : Figures) (size ended : ℕ) : Type 0 where
  pub live : new.live + size ≡ old.live
  pub blocks : new.blocks + 1 ≡ old.blocks
  pub calls : new.calls ≡ old.calls
  pub temporary : new.temporary ≡ old.temporary + ended
  pub allocated : new.allocated ≡ old.allocated

-- a block of the info is allocated: what changes but for the figures of stacks
pub record AddsBlock (old new : LedgerState) (info size : ℕ) : Type 0 where
  pub stacks : new.stacks ≡ old.stacks
  pub infos : new.infos ≡ old.infos
  pub blocks_of_info : slice_index new.blocks info ≡ slice_index old.blocks info + 1
  pub blocks_of_others : (other : ℕ) → other ≢ info
      → slice_index new.blocks other ≡ slice_index old.blocks other
  pub calls_of_info : slice_index new.info_calls info ≡ slice_index old.info_calls info + 1
  pub calls_of_others : (other : ℕ) → other ≢ info
      → slice_index new.info_calls other ≡ slice_index old.info_calls other
  pub events : new.totals.events ≡ old.totals.events + 1
  pub calls : new.totals.calls ≡ old.totals.calls + 1
  pub temporary : new.totals.temporary ≡ old.totals.temporary
  pub allocated : new.totals.allocated ≡ old.totals.allocated + size
  pub live : new.totals.live ≡ old.totals.live + size
  pub blocks : new.totals.blocks ≡ old.totals.blocks + 1
  pub last : new.last ≡ Some info

-- a live block of the info is freed: what changes but for the figures of stacks
pub record TakesBlock (old new : LedgerState) (info size : ℕ) : Type 0 where
  pub stacks : new.stacks ≡ old.stacks
  pub infos : new.infos ≡ old.infos
  pub blocks_of_info : slice_index new.blocks info + 1 ≡ slice_index old.blocks info
  pub blocks_of_others : (other : ℕ) → other ≢ info
      → slice_index new.blocks other ≡ slice_index old.blocks other
  pub info_calls : new.info_calls ≡ old.info_calls
  pub events : new.totals.events ≡ old.totals.events + 1
  pub calls : new.totals.calls ≡ old.totals.calls
  pub temporary : new.totals.temporary ≡ old.totals.temporary + ended_by_free old info
  pub allocated : new.totals.allocated ≡ old.totals.allocated
  pub live : new.totals.live + size ≡ old.totals.live
  pub blocks : new.totals.blocks + 1 ≡ old.totals.blocks
  pub last : new.last ≡ None

-- a block of the info is allocated in the stack; nothing else changes
pub record Allocates (old new : LedgerState) (info stack size : ℕ) : Type 0 where
  pub whole : AddsBlock (without_figures old) (without_figures new) info size
  pub figures : GainsBlock (figures_at old stack) (figures_at new stack) size
  pub figures_of_others : (other : ℕ) → other ≢ stack → figures_at new other ≡ figures_at old other

-- a live block of the info, of the stack, is freed; nothing else changes
pub record Frees (old new : LedgerState) (info stack size : ℕ) : Type 0 where
  pub whole : TakesBlock (without_figures old) (without_figures new) info size
  pub figures : LosesBlock (figures_at old stack) (figures_at new stack) size
      (ended_by_free old info)
  pub figures_of_others : (other : ℕ) → other ≢ stack → figures_at new other ≡ figures_at old other

-- what an event that has no fault changes; a clock value changes nothing
abbrev pub Changes : LedgerState → LedgerState → Event → Type 0
Changes old new (Alloc info stack size) = Allocates old new info stack size
Changes old new (Free info stack size) = Frees old new info stack size
Changes old new (Tick ms) = new ≡ old
