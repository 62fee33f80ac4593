-- How it is kept which module counts at an address: the addresses from which on another one does,
-- each with its place, for private clauses.
use Rattle.std.specs.Prelude.{◌≡◌, ◌⊎◌, ℕ, zero, suc, ◌<◌, ◌≤◌, Bool, if◌then◌else◌, Option, None, Some, unwrap_or}
use Rattle.std.specs.BTreeMap.{get}
use Rattle.std.specs.Ordering.{nat_cmp}
use Rattle.interpret.specs.declared.address_index.AddressIndex.{AddressIndex}

-- the place that counts from an address on, where that changes there
abbrev pub change_at : AddressIndex → ℕ → Option (Option ℕ)
change_at index from = get nat_cmp index.changes from

-- the place that counts at an address: that of the last change up to there
unfoldable pub holder_at : AddressIndex → ℕ → Option ℕ
holder_at index zero = unwrap_or (change_at index zero) None
holder_at index (suc before) = unwrap_or (change_at index (suc before)) (holder_at index before)

-- this place counts where an address is within, and everywhere else the one that did
abbrev pub PutsOver : AddressIndex → AddressIndex → (ℕ → Bool) → ℕ → Type 0
PutsOver old new within place = (ip : ℕ) → holder_at new ip
    ≡ if within ip then Some place else holder_at old ip

-- no change is left from an address on up to another, and all others stay
pub record RemovesWithin (old new : AddressIndex) (begin end : ℕ) : Type 0 where
  pub within : (from : ℕ) → begin ≤ from → from < end → change_at new from ≡ None
  pub others : (from : ℕ) → (from < begin) ⊎ (end ≤ from) → change_at new from ≡ change_at old from
