-- A window on a file: the bytes that were shown last and those kept behind them, for private clauses.
use Rattle.std.specs.Prelude.{ℕ, ◌-◌, List, take, drop}
use Rattle.hp_outside.specs.declared.span.Span.{Span}

-- the bytes from one place up to another
abbrev pub part_of : List ℕ → ℕ → ℕ → List ℕ
part_of bytes start end = take (end - start) (drop start bytes)

-- a window on a file: the bytes that were shown last, and those that are kept behind them
pub record WindowState : Type 0 where
  -- how many bytes may be kept when more are taken
  pub most : ℕ
  pub span : Span
  pub shown : List ℕ
  pub kept : List ℕ
