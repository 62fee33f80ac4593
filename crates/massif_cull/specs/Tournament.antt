-- How contracts see keys in a tournament, by its fields, for private clauses.
use Rattle.std.specs.Prelude.{◌≡◌, ◌+◌, ◌≤◌, true, length, drop}
use Rattle.massif_cull.specs.declared.gaps.Gaps.TheInside.{Inside}
use Rattle.massif_cull.specs.Keys.{AreFirsts, GapsState}

-- the keys of the places, and whether the tournament above them is built
abbrev pub gaps_of : Inside → GapsState
gaps_of gaps = record { keys = drop gaps.max gaps.nodes.items; ready = gaps.ready }

-- what is true of each: as many nodes stand above the keys as there are, and where they are built none is a hole
pub record IsTournament (gaps : Inside) : Type 0 where
  pub size : length gaps.nodes.items ≡ gaps.max + gaps.max
  pub most : gaps.max ≤ 1000
  pub firsts : gaps.ready ≡ true → AreFirsts gaps.nodes.items 0
