-- Keys by which places are chosen, and which of them comes first, for private clauses.
use Rattle.std.specs.Prelude.{◌≡◌, ◌≢◌, Bool, ℕ, ◌+◌, ◌<◌, ◌≤◌, ◌^◌, nat_lt, if◌then◌else◌, List, length, slice_set}
use Rattle.std.specs.List.{slice_index_or}
use Rattle.massif_cull.specs.declared.gaps.Key.{Key}

-- what contracts see of keys: that of each place, and whether it is known which one comes first
pub record GapsState : Type 0 where
  pub keys : List Key
  pub ready : Bool

-- the gap of a place that isn't to be chosen, above all others
abbrev pub never : ℕ
never = 2 ^ 63

-- the key of such a place
abbrev pub no_key : Key
no_key = record { gap = never; number = 0; place = 0 }

-- the key at the place
abbrev pub key_at : List Key → ℕ → Key
key_at keys place = slice_index_or keys place no_key

-- the keys with another gap at the place
abbrev pub with_gap : List Key → ℕ → ℕ → List Key
with_gap keys place gap = slice_set keys place (record (key_at keys place) { gap = gap })

-- the one that comes first: that of the lesser gap, and of equal gaps that of the lesser number
abbrev pub first_of : Key → Key → Key
first_of a b = if nat_lt b.gap a.gap then b
    else (if nat_lt a.gap b.gap then a else (if nat_lt b.number a.number then b else a))

-- the first key comes no later than the second
pub record IsNoLater (a b : Key) : Type 0 where
  pub gap : a.gap ≤ b.gap
  pub number : a.gap ≡ b.gap → a.number ≤ b.number

-- the key is one of the list, and none comes before it
pub record IsFirst (keys : List Key) (key : Key) : Type 0 where
  pub at : ℕ
  pub inside : at < length keys
  pub there : key_at keys at ≡ key
  pub each : (other : ℕ) → other < length keys → IsNoLater key (key_at keys other)

-- each node above two others, but for the one at the hole, has the one of their keys that comes first
pub record AreFirsts (nodes : List Key) (hole : ℕ) : Type 0 where
  pub each : (n : ℕ) → 0 < n → n + n + 1 < length nodes → n ≢ hole
      → key_at nodes n ≡ first_of (key_at nodes (n + n)) (key_at nodes (n + n + 1))
