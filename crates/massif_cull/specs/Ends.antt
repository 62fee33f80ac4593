-- The end of a list that a cull removes whole, but for the last entry and the peak, for private
-- clauses.
use Rattle.std.specs.Prelude.{◌≡◌, ℕ, zero, suc, ◌+◌, ◌-◌, ◌/◌, ◌<◌, if◌then◌else◌, List, length, slice_index}
use Rattle.massif_cull.specs.declared.snapshot.SnapEntry.{SnapEntry}
use Rattle.massif_cull.specs.Culling.{may_go}
use Rattle.massif_cull.specs.Entries.{last_time, times}
use Rattle.massif_cull.specs.Keyed.{gap_to_go}

-- how many of so many entries from the place on may go
abbrev pub count_may_go : List SnapEntry → ℕ → ℕ → ℕ
count_may_go entries place zero = 0
count_may_go entries place (suc n) = (if may_go entries place then 1 else 0) + count_may_go entries (place + 1) n

-- how many entries from the place on may go, without the last one
abbrev pub count_may_go_from : List SnapEntry → ℕ → ℕ
count_may_go_from entries place = count_may_go entries place (length entries - 1 - place)

-- each gap before the place is above so much
abbrev pub AreGapsAbove : List SnapEntry → ℕ → ℕ → Type 0
AreGapsAbove entries place most = (k : ℕ) → 0 < k → k < place → most < gap_to_go entries k

-- the time from the entry before the place to the last one
abbrev pub span : List SnapEntry → ℕ → ℕ
span entries place = last_time entries - slice_index (times entries) (place - 1)

-- as many may go from the place on as a cull removes, and each gap before it is above the time that they take together
pub record GoesWhole (entries : List SnapEntry) (place : ℕ) : Type 0 where
  pub some : 0 < place
  pub inside : place < length entries
  pub count : count_may_go_from entries place ≡ length entries / 2
  pub above : AreGapsAbove entries place (span entries place)
