-- What a ledger's fields keep: what the sums leave live is what the infos have live, of the whole
-- trace and of each stack, for private clauses.
use Rattle.std.specs.Prelude.{◌≡◌, ℕ, ◌+◌, ◌*◌, ◌^◌, ◌<◌, ◌≤◌, Bool, true, ◌==◌, if◌then◌else◌, List, length, map}
use Rattle.std.specs.Prelude.{sum_by, slice_index_or}
use Rattle.std.specs.List.{All}
use Rattle.live_ledger.specs.declared.totals_ledger.InfoEntry.{InfoEntry}
use Rattle.live_ledger.specs.declared.sums.Sums.{Sums}
use Rattle.live_ledger.specs.LedgerState.{HeldInfo}
use Rattle.live_ledger.specs.Sums.{no_sums}

-- an entry's info, as contracts see it
abbrev pub info_of : InfoEntry → HeldInfo
info_of entry = record { stack = entry.stack; size = entry.size }

-- an entry's stack
abbrev pub stack_of : InfoEntry → ℕ
stack_of entry = entry.stack

-- an entry's live blocks
abbrev pub blocks_of : InfoEntry → ℕ
blocks_of entry = entry.blocks

-- an entry's allocations
abbrev pub calls_of : InfoEntry → ℕ
calls_of entry = entry.calls

-- every entry is meant
abbrev pub any_entry : InfoEntry → Bool
any_entry entry = true

-- the entries of stack `n` are meant
abbrev pub is_of : ℕ → InfoEntry → Bool
is_of n entry = entry.stack == n

-- the live bytes, live blocks and allocations of an entry that is meant
abbrev pub bytes_where : (InfoEntry → Bool) → InfoEntry → ℕ
bytes_where meant entry = if meant entry then entry.blocks * entry.size else 0

abbrev pub blocks_where : (InfoEntry → Bool) → InfoEntry → ℕ
blocks_where meant entry = if meant entry then entry.blocks else 0

abbrev pub calls_where : (InfoEntry → Bool) → InfoEntry → ℕ
calls_where meant entry = if meant entry then entry.calls else 0

-- these sums are those of the entries that are meant
pub record Balances (sums : Sums) (meant : InfoEntry → Bool) (infos : List InfoEntry) : Type 0 where
  pub bytes : sums.freed + sum_by (bytes_where meant) infos ≡ sums.allocated
  pub blocks : sums.frees + sum_by (blocks_where meant) infos ≡ sums.calls
  pub calls : sum_by (calls_where meant) infos ≡ sums.calls
  pub temporary : sums.temporary ≤ sums.frees

-- these sums are those of all stacks together
pub record AreSumsOf (sums : Sums) (stacks : List Sums) : Type 0 where
  pub calls : sum_by (λ (own : Sums). own.calls) stacks ≡ sums.calls
  pub allocated : sum_by (λ (own : Sums). own.allocated) stacks ≡ sums.allocated
  pub frees : sum_by (λ (own : Sums). own.frees) stacks ≡ sums.frees
  pub freed : sum_by (λ (own : Sums). own.freed) stacks ≡ sums.freed
  pub temporary : sum_by (λ (own : Sums). own.temporary) stacks ≡ sums.temporary

-- the sums of a stack by its number; one that isn't held yet has none
abbrev pub sums_at : List Sums → ℕ → Sums
sums_at stacks stack = slice_index_or stacks stack no_sums

-- the infos agree with the sums over all events, and nothing passes its bound
pub record AreKept (stacks : ℕ) (infos : List InfoEntry) (sums : Sums) : Type 0 where
  pub stack_0 : 0 < stacks
  pub stacks_within : stacks < 2 ^ 32
  pub infos_within : length infos < 2 ^ 32
  pub held : All (λ stack. stack < stacks) (map stack_of infos)
  pub whole : Balances sums any_entry infos
  pub allocated_within : sums.allocated ≤ 2 ^ 62
  pub events_within : sums.calls + sums.frees ≤ 2 ^ 32

-- and the sums of each stack agree with both
pub record AreConsistent (count : ℕ) (stacks : List Sums) (infos : List InfoEntry) (sums : Sums)
    : Type 0 where
  pub kept : AreKept count infos sums
  pub count_is : count ≡ length stacks
  pub sums_of : AreSumsOf sums stacks
  pub each_stack : (stack : ℕ) → Balances (sums_at stacks stack) (is_of stack) infos
