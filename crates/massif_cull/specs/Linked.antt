-- Links are different places, each linked to the one after it and to the one before it, both ways.
use Rattle.std.specs.Prelude.{◌≡◌, ◌≢◌, ℕ, zero, suc, ◌+◌, ◌-◌, ◌<◌, ◌≤◌, ◌==◌, if◌then◌else◌, List, [], ◌∷◌, ◌++◌}
use Rattle.std.specs.Prelude.{length, slice_index, Option, Some, None, vec_capacity}
use Rattle.massif_cull.specs.declared.links.Links.TheInside.{Inside}
use Rattle.massif_cull.specs.LinksState.{LinksState}

-- so many places, from this one on, each after the one before
abbrev pub walk : List ℕ → ℕ → ℕ → List ℕ
walk next zero place = []
walk next (suc count) place = place ∷ walk next count (slice_index next place)

-- the place, unless it is the one that stands for both ends
abbrev pub unless_end : ℕ → ℕ → Option ℕ
unless_end end place = if place == end then None else Some place

-- the fact is true of each
abbrev pub EachOf : (ℕ → Type 0) → List ℕ → Type 0
EachOf P [] = Unit {0}
EachOf P (place ∷ places) = P place × EachOf P places

-- the place is none of these
abbrev pub IsOutside : ℕ → List ℕ → Type 0
IsOutside place places = EachOf (λ other. place ≢ other) places

-- each place is below the number
abbrev pub AreBelow : ℕ → List ℕ → Type 0
AreBelow max places = EachOf (λ place. place < max) places

-- no two of the places are the same
abbrev pub AreDifferent : List ℕ → Type 0
AreDifferent [] = Unit {0}
AreDifferent (place ∷ places) = IsOutside place places × AreDifferent places

-- between the first place and the last each is linked to its neighbours, both ways
abbrev pub AreLinked : List ℕ → List ℕ → ℕ → List ℕ → ℕ → Type 0
AreLinked next prev first [] last = (slice_index next first ≡ last)
    × (slice_index prev last ≡ first)
AreLinked next prev first (place ∷ places) last = (slice_index next first ≡ place)
    × (slice_index prev place ≡ first) × AreLinked next prev place places last

-- how contracts see the fields: as many places as are not free, from the one after the end on
abbrev pub links_of : Inside → LinksState
links_of links = record {
  max = links.max;
  places = walk links.next.items (links.max - length links.free.items)
      (slice_index links.next.items links.max);
}

-- what is true of each: the number `max` stands for both ends
pub record IsLinked (links : Inside) : Type 0 where
  pub next_length : length links.next.items ≡ links.max + 1
  pub prev_length : length links.prev.items ≡ links.max + 1
  pub free_most : length links.free.items ≤ links.max
  pub free_room : links.max ≤ vec_capacity links.free
  pub linked : AreLinked links.next.items links.prev.items links.max (links_of links).places
      links.max
  pub different : AreDifferent ((links_of links).places ++ links.free.items)
  pub below : AreBelow links.max ((links_of links).places ++ links.free.items)
