-- What was gathered of the items of a list of points, for private clauses.
use Rattle.std.specs.Prelude.{◌≡◌, ◌⊎◌, ℕ, ◌-◌, ◌^◌, ◌<◌, ◌≤◌, List, [], ◌∷◌, ◌++◌, length, map, Some, None}
use Rattle.json.specs.Token.{Token}
use Rattle.serde_json.specs.Data.{Data, Items}
use Rattle.dhat_json.specs.declared.gathered.Gathered.{Gathered}
use Rattle.dhat_json.specs.declared.shape.Shape.{Shape}
use Rattle.dhat_json.specs.declared.fault.DhatFault.TheVariants as DhatFault
use Rattle.dhat_json.specs.declared.profile.Point.{Point}
use Rattle.dhat_json.specs.Ahead.{items_ahead, value_ahead}
use Rattle.dhat_json.specs.DhatFault.{Finding, first_of, point_findings, points_findings}
use Rattle.dhat_json.specs.Kinds.{list_of}
use Rattle.dhat_json.specs.ProfileIn.{point_in}
use Rattle.dhat_json.specs.Reads.{UnlessNoMemory}

-- what is found of points in a profile of this shape
abbrev pub shape_findings : Shape → List Data → List Finding
shape_findings shape values = points_findings shape.bklt shape.bkacc shape.frames 0 values

-- the fault that is kept is what was found, unless memory was wanting
abbrev pub FaultIs : Finding → Finding → Type 0
FaultIs None finding = finding ≡ None
FaultIs (Some fault) finding = UnlessNoMemory fault (finding ≡ Some fault)

-- These items came, and their points were read in the shape that is kept, up to the first fault. Of 2^32 - 1 items or
-- more only that is said.
pub record HasGathered (gathered : Gathered) (values : List Data) : Type 0 where
  pub count : length values < 2 ^ 32 - 1 → gathered.count ≡ length values
  pub full : 2 ^ 32 - 1 ≤ length values → gathered.count ≡ 2 ^ 32 - 1
  pub fault : length values < 2 ^ 32 - 1
      → FaultIs gathered.fault (first_of (shape_findings gathered.shape values))
  pub points : length values < 2 ^ 32 - 1 → gathered.fault ≡ None
      → gathered.points ≡ map (point_in gathered.shape.bklt gathered.shape.bkacc) values

-- a point of this shape, and what is found of it under a number
abbrev pub point_of : Shape → Data → Point
point_of shape = point_in shape.bklt shape.bkacc

abbrev pub findings_of : Shape → ℕ → Data → List Finding
findings_of shape = point_findings shape.bklt shape.bkacc shape.frames

-- this item came behind others
abbrev pub GathersNext : Gathered → Gathered → Data → Type 0
GathersNext old new item = (values : List Data) → HasGathered old values
    → HasGathered new (values ++ item ∷ [])

-- the items that stood next came, up to their list's closing bracket, where none came before; 125 is `ITEM_DEPTH`
abbrev pub TakesItems : Gathered → Gathered → List Token → List Token → Type 0
TakesItems old new ahead behind = (items : Items)
    × (items_ahead 125 ahead ≡ Some (items, behind))
    × (HasGathered old [] → HasGathered new (list_of items))

-- the points are the same in that shape
abbrev pub AreSameIn : Shape → Gathered → Type 0
AreSameIn shape gathered = (values : List Data) → HasGathered gathered values
    → HasGathered (record gathered { shape = shape }) values

-- the point came to the others, or memory was wanting
abbrev pub GainsPoint : Gathered → Gathered → Point → Type 0
GainsPoint old new point = (new ≡ record old { points = old.points ++ point ∷ [] })
    ⊎ (new ≡ record old { fault = Some DhatFault.NoMemory })

-- one item more came, which stood next
pub record Takes (old new : Gathered) (ahead behind : List Token) : Type 0 where
  pub item : Data
  pub is : value_ahead 125 ahead ≡ Some (item, behind)
  pub taken : GathersNext old new item
