-- How lists that go on with earlier ones are kept: the own numbers of all, and where those of each
-- stand among them, for private clauses.
use Rattle.std.specs.Prelude.{◌≡◌, ℕ, ◌^◌, ◌<◌, ◌≤◌, List, [], ◌∷◌, ◌++◌, fold, length, take, IfSome, Some, slice_get}
use Rattle.std.specs.Prelude.{slice_index_or}
use Rattle.std.specs.List.{between}
use Rattle.cost_tree.specs.declared.chain.Chain.{Chain}
use Rattle.cost_tree.specs.Following.{following}

-- a list's own numbers
abbrev pub own_numbers : List ℕ → Chain → List ℕ
own_numbers numbers chain = between chain.start chain.end numbers

-- the list, where these are the ones before it
abbrev pub chain_list : List ℕ → List (List ℕ) → Chain → List ℕ
chain_list numbers lists chain =
    take chain.count (own_numbers numbers chain ++ following lists chain.next)

-- all of them
unfoldable pub chain_lists : List ℕ → List Chain → List (List ℕ)
chain_lists numbers chains = fold (λ lists chain. lists ++ chain_list numbers lists chain ∷ []) []
    chains

-- the first numbers of the list at a place are added, at most so many
abbrev pub AddsFirst : List ℕ → List Chain → ℕ → ℕ → List ℕ → List ℕ → Type 0
AddsFirst numbers chains list most old new =
    new ≡ old ++ take most (slice_index_or (chain_lists numbers chains) list [])

-- a list at a place: its own numbers are held, it goes on with an earlier one or none, and it has
-- as many numbers as it says
pub record IsChain (numbers : List ℕ) (lists : List (List ℕ)) (place : ℕ) (chain : Chain) : Type
    0 where
  pub ordered : chain.start ≤ chain.end
  pub within : chain.end ≤ length numbers
  pub earlier : IfSome chain.next (λ list. list < place)
  pub list : slice_get lists place ≡ Some (chain_list numbers lists chain)
  pub counted : length (chain_list numbers lists chain) ≡ chain.count

-- each of them
pub record AreChains (numbers : List ℕ) (chains : List Chain) (lists : List (List ℕ)) : Type 0 where
  pub as_many : length lists ≡ length chains
  pub each : (place : ℕ) (chain : Chain) → slice_get chains place ≡ Some chain
      → IsChain numbers lists place chain
  pub few : length chains < 2 ^ 32
