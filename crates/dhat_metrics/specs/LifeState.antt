-- What holds of all lifetimes: the order of a stack's figures, and their bounds.
use Rattle.std.specs.Prelude.{ℕ, ◌^◌, ◌<◌, ◌≤◌, List, [], ◌∷◌, ◌++◌, length, slice_index_or}
use Rattle.dhat_metrics.specs.declared.figures.LifeFigures.{LifeFigures}

-- how many allocations and frees there were, and the figures of each stack that is held
pub record LifeState : Type 0 where
  pub events : ℕ
  pub figures : List LifeFigures

-- the figures of a stack before its first event
abbrev pub no_figures : LifeFigures
no_figures = record { tb = 0; tbk = 0; tl = 0; mb = 0; mbk = 0; eb = 0; ebk = 0 }

-- with a stack more
abbrev pub with_stack : LifeState → LifeState
with_stack state = record state { figures = state.figures ++ no_figures ∷ [] }

-- the figures of a stack by its number; one that isn't held yet has none
abbrev pub figures_at : LifeState → ℕ → LifeFigures
figures_at state stack = slice_index_or state.figures stack no_figures

-- a stack's figures have their order, and none passes its bound; the lifetimes of all its blocks stay below 2^63
pub record AreWithin (figures : LifeFigures) (events : ℕ) : Type 0 where
  pub eb : figures.eb ≤ figures.mb
  pub mb : figures.mb ≤ figures.tb
  pub tb : figures.tb ≤ 2 ^ 62
  pub ebk : figures.ebk ≤ figures.tbk
  pub mbk : figures.mbk ≤ figures.tbk
  pub tbk : figures.tbk ≤ events
  pub tl : figures.tl < 2 ^ 63

-- stack 0 is held, and no figure passes its bound
pub record IsSound (state : LifeState) : Type 0 where
  pub stack_0 : 0 < length state.figures
  pub stacks_within : length state.figures < 2 ^ 32
  pub events_within : state.events ≤ 2 ^ 32
  pub each_stack : (stack : ℕ) → AreWithin (figures_at state stack) state.events
