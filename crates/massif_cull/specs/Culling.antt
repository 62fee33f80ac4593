-- Culling: which entries of a list are removed, and what is left. Culling removes half of the
-- snapshots: each time the first of the least difference between the times of its neighbours, and
-- neither the first, the last nor the peak.
use Rattle.std.specs.Prelude.{ℕ, zero, suc, ◌+◌, ◌-◌, ◌/◌, Bool, not, ◌&&◌, nat_lt, nat_le, List, length, filter, find}
use Rattle.std.specs.Prelude.{remove, slice_index, Option}
use Rattle.std.specs.List.{list_all, range_with_len}
use Rattle.std.specs.Option.{option_map_or}
use Rattle.massif_cull.specs.declared.snapshot.SnapEntry.{SnapEntry}
use Rattle.massif_cull.specs.Entries.{is_peak_at, times}

-- whether the entry at the place is neither the first, nor the last, nor the peak
unfoldable pub may_go : List SnapEntry → ℕ → Bool
may_go entries place = nat_lt 0 place && nat_lt (place + 1) (length entries)
    && not (is_peak_at entries place)

-- the places of the entries that may go
unfoldable pub removable : List SnapEntry → List ℕ
removable entries = filter (may_go entries) (range_with_len 0 (length entries))

-- the difference between the times of the two neighbours of the entry at the place
unfoldable pub gap_at : List SnapEntry → ℕ → ℕ
gap_at entries place = slice_index (times entries) (place + 1) - slice_index (times entries)
    (place - 1)

-- whether no entry that may go has a smaller difference
unfoldable pub has_least_gap : List SnapEntry → ℕ → Bool
has_least_gap entries place = list_all
    (λ other. nat_le (gap_at entries place) (gap_at entries other)) (removable entries)

-- the place of the entry that goes: of those that may go the first with the least difference
unfoldable pub removed_place : List SnapEntry → Option ℕ
removed_place entries = find (has_least_gap entries) (removable entries)

-- the list without that entry
unfoldable pub cull1 : List SnapEntry → List SnapEntry
cull1 entries = option_map_or (remove entries) (removed_place entries) entries

-- `cull1` so many times
unfoldable pub cull_times : ℕ → List SnapEntry → List SnapEntry
cull_times zero entries = entries
cull_times (suc n) entries = cull_times n (cull1 entries)

-- `cull1` as often as half the length, rounded down
unfoldable pub cull : List SnapEntry → List SnapEntry
cull entries = cull_times (length entries / 2) entries
