-- The frames of stacks, told by their places in the table, for private clauses.
use Rattle.std.specs.Prelude.{◌≡◌, ℕ, List, [], All, map, slice_index_or}
use Rattle.ht_trace.specs.TableState.{TableState}
use Rattle.dhat_trace.specs.declared.points.CalledStack.{CalledStack}
use Rattle.dhat_trace.specs.FrameTable.{frame_texts, table_of}
use Rattle.dhat_trace.specs.KnownPlaces.{AreTold, HavePlaces}

-- the stack has the places of its frames
abbrev pub IsTold : TableState → List (List ℕ) → List (List ℕ) → ℕ → Type 0
IsTold tables table told stack =
    HavePlaces table (frame_texts tables stack) (slice_index_or told stack [])

-- the stack is told, and what was told of others is told still
pub record Tells (tables : TableState) (stack : ℕ) (table told later more : List (List ℕ)) :
    Type 0 where
  pub told_are : AreTold tables later more
  pub own : IsTold tables later more stack
  pub kept : (other : ℕ) → IsTold tables table told other → IsTold tables later more other

-- the table is that of the stacks, and each of them has the places of its frames
pub record AreBacktraces (tables : TableState) (stacks : List ℕ) (table : List (List ℕ))
    (told : List (List ℕ)) : Type 0 where
  pub table_is : table ≡ table_of tables stacks
  pub told_are : AreTold tables table told
  pub all : All (IsTold tables table told) stacks

-- the same of stacks that allocated
abbrev pub TellFrames : TableState → List CalledStack → List (List ℕ) → List (List ℕ) → Type 0
TellFrames tables stacks = AreBacktraces tables (map (λ called. called.stack) stacks)
