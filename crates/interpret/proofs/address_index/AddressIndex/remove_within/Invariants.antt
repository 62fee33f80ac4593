use Rattle.std.proofs.Common.{◌≡◌, ◌⊎◌, ℕ, ◌<◌, ◌≤◌, length}
use Rattle.interpret.specs.Holders.{change_at}
use Rattle.interpret.proofs.address_index.AddressIndex.remove_within.Given as goal

-- nothing is removed outside
abbrev pub invariant-changes : goal.invariant-changes
invariant-changes l =
    (from : ℕ) → (from < l.begin) ⊎ (l.end ≤ from) → change_at l.self from ≡ change_at l.initial.self from

abbrev pub decreases-changes : goal.decreases-changes
decreases-changes l = length l.self.changes.entries
