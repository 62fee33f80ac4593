-- The events of a generated trace: each draws an info and a kind, and is a free only where the info
-- was allocated more often than freed by the events before.
use Rattle.std.specs.Prelude.{ℕ, zero, suc, ◌+◌, ◌*◌, ◌==◌, ◌&&◌, nat_lt, Bool, not, List, [], ◌∷◌, ◌++◌}
use Rattle.std.specs.List.{count_by}
use Rattle.trace_gen.specs.Sizes.{Sizes}
use Rattle.trace_gen.specs.Draws.{draw}

pub record Move : Type 0 where
  pub info : ℕ
  pub frees : Bool

-- how many of some events allocate an info, and how many free it
abbrev pub allocated : ℕ → List Move → ℕ
allocated info moves = count_by (λ move. (move.info == info) && not move.frees) moves

abbrev pub freed : ℕ → List Move → ℕ
freed info moves = count_by (λ move. (move.info == info) && move.frees) moves

-- the event behind so many earlier ones: its info and its kind are drawn, and it is a free only
-- where that info has a live block
abbrev pub next_move : Sizes → ℕ → List Move → Move
next_move sizes number earlier =
    let info : ℕ = draw sizes.seed (2 * sizes.stacks + 2 * number) sizes.stacks in
    record {
      info = info;
      frees = (draw sizes.seed (2 * sizes.stacks + 2 * number + 1) 2 == 0)
          && nat_lt (freed info earlier) (allocated info earlier);
    }

-- the first so many events
abbrev pub moves : Sizes → ℕ → List Move
moves sizes zero = []
moves sizes (suc number) = moves sizes number ++ next_move sizes number (moves sizes number) ∷ []
