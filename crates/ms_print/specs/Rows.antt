-- What the rows of a table need of their snapshots, for private clauses.
use Rattle.massif_file.specs.declared.profile.Snap.{Snap}
use Rattle.massif_file.specs.IsRight.{IsTreeOf}

-- the snapshot has a tree where its mark says so
pub record HasTree (snap : Snap) : Type 0 where
  pub tree : IsTreeOf snap.mark snap.tree
