-- How many allocations of a trace have which size, and the text that tells it. The histogram counts
-- in each range the allocations whose size is in it.
use Rattle.std.specs.Prelude.{◌≡◌, ℕ, ◌*◌, List, ◌++◌, ◌&&◌, Bool, false, Option, Some, None, codes, count_by, decimal}
use Rattle.std.specs.Prelude.{nat_le, slice_get, slice_index, if◌then◌else◌}
use Rattle.live_ledger.specs.declared.event.Event.{Event}
use Rattle.live_ledger.specs.declared.event.Event.TheVariants.{Alloc, Free, Tick}
use Rattle.live_ledger.specs.ByInfo.{weighed}
use Rattle.live_ledger.specs.LedgerState.{HeldInfo, LedgerState}

-- whether a size is at least the one number and at most the other, where there is one
abbrev pub is_in : ℕ → Option ℕ → ℕ → Bool
is_in least (Some greatest) size = nat_le least size && nat_le size greatest
is_in least None size = nat_le least size

-- whether it is an allocation of such a size
abbrev pub is_alloc_in_range : ℕ → Option ℕ → Event → Bool
is_alloc_in_range least greatest (Alloc info stack size) = is_in least greatest size
is_alloc_in_range least greatest (Free info stack size) = false
is_alloc_in_range least greatest (Tick ms) = false

-- the number of allocations of such a size
unfoldable pub allocations : ℕ → Option ℕ → List Event → ℕ
allocations least greatest events = count_by (is_alloc_in_range least greatest) events

-- the line of a range of sizes, with the number of allocations in it
abbrev pub range_line : List ℕ → ℕ → List ℕ
range_line label count = label ++ (codes ": " ++ (decimal count ++ codes " calls\n"))

-- the ranges up to 64 bytes, with what a function of the range's ends counts in each
unfoldable pub small_ranges : (ℕ → Option ℕ → ℕ) → List ℕ
small_ranges count =
    range_line (codes "0 to 8") (count 0 (Some 8)) ++
    (range_line (codes "9 to 16") (count 9 (Some 16)) ++
    (range_line (codes "17 to 32") (count 17 (Some 32)) ++
    range_line (codes "33 to 64") (count 33 (Some 64))))

-- the ranges from 65 to 1,024 bytes
unfoldable pub large_ranges : (ℕ → Option ℕ → ℕ) → List ℕ
large_ranges count =
    range_line (codes "65 to 128") (count 65 (Some 128)) ++
    (range_line (codes "129 to 256") (count 129 (Some 256)) ++
    (range_line (codes "257 to 512") (count 257 (Some 512)) ++
    range_line (codes "513 to 1024") (count 513 (Some 1024))))

-- the heading, the nine ranges, and an empty line
abbrev pub histogram_lines : (ℕ → Option ℕ → ℕ) → List ℕ
histogram_lines count =
    codes "SIZE HISTOGRAM\n" ++
    (small_ranges count ++
    (large_ranges count ++
    (range_line (codes "1025 and more") (count 1025 None) ++
    codes "\n")))

-- the histogram of a trace of these events
unfoldable pub histogram_text : List Event → List ℕ
histogram_text events = histogram_lines (λ least greatest. allocations least greatest events)

-- 1 for an info of such a size
abbrev pub weight : ℕ → Option ℕ → HeldInfo → ℕ
weight least greatest info = if is_in least greatest info.size then 1 else 0

-- the same number by a ledger's counts of each info's allocations
unfoldable pub allocations_at : LedgerState → ℕ → Option ℕ → ℕ
allocations_at ledger least greatest = weighed (weight least greatest) ledger.infos
    ledger.info_calls

-- the line of a range by these counts
abbrev pub range_at : LedgerState → List ℕ → ℕ → Option ℕ → List ℕ
range_at ledger label least greatest = range_line label (allocations_at ledger least greatest)

-- so many are the allocations of an info that is held, where its size is in the range, and else none
abbrev pub IsCountAt : LedgerState → ℕ → Option ℕ → ℕ → ℕ → Type 0
IsCountAt ledger least greatest info count = (held : HeldInfo)
    → slice_get ledger.infos info ≡ Some held
    → count ≡ weight least greatest held * slice_index ledger.info_calls info
