-- The Massif profile of a DHAT profile is its command, its unit, and two snapshots: what was live
-- at the peak and at the end, each with the whole tree of the points to 200 frames.
use Rattle.std.specs.Prelude.{ℕ, if◌then◌else◌, List, [], ◌∷◌, bytes_eq, codes, min, sum}
use Rattle.std.specs.Option.{option_map_or}
use Rattle.dhat_json.specs.declared.figure.FigureKey.{FigureKey}
use Rattle.dhat_json.specs.declared.figure.FigureKey.TheVariants.{Eb, Gb}
use Rattle.dhat_json.specs.declared.profile.Dhat.{Dhat}
use Rattle.dhat_json.specs.Shown.{shown}
use Rattle.dhat_view.specs.PointCosts.{point_costs}
use Rattle.massif_file.specs.declared.profile.HeapTree.{HeapTree}
use Rattle.massif_file.specs.declared.profile.HeapTree.TheVariants.{Detailed, Peak}
use Rattle.massif_file.specs.declared.profile.Profile.{Profile}
use Rattle.massif_file.specs.declared.profile.Snap.{Snap}
use Rattle.massif_file.specs.declared.profile.TimeUnit.{TimeUnit}
use Rattle.massif_file.specs.declared.profile.TimeUnit.TheVariants.{Events, Instructions}
use Rattle.massif_tree.specs.declared.options.TreeOptions.{TreeOptions}
use Rattle.massif_file.specs.TreeLine.{TreeLine}
use Rattle.massif_tree.specs.MassifTree.{massif_tree}
use Rattle.convert.specs.Items.{point_items}

-- each place has a line of its own, to 200 frames below one another
abbrev pub whole_tree : TreeOptions
whole_tree = record { threshold = 0; depth = 200 }

-- the shown command, and words of its own where it is empty
abbrev pub command_of : List ℕ → List ℕ
command_of [] = codes "(none)"
command_of (byte ∷ more) = shown (byte ∷ more)

-- instructions, where the profile's unit of time is called so, and else events
abbrev pub unit_of : List ℕ → TimeUnit
unit_of unit = if bytes_eq unit (codes "instrs") then Instructions else Events

-- the time of the peak, which is not after the end; the end where it isn't known
abbrev pub peak_time : Dhat → ℕ
peak_time dhat = option_map_or (λ time. min time dhat.te) dhat.tg dhat.te

-- a snapshot with so many live bytes
abbrev pub snap_with : ℕ → ℕ → HeapTree → List TreeLine → Snap
snap_with time heap mark tree = record {
  time = time;
  heap = heap;
  extra = 0;
  stacks = 0;
  mark = mark;
  tree = tree;
}

-- the tree of the points by a figure
abbrev pub tree_by : FigureKey → Dhat → List TreeLine
tree_by key dhat = massif_tree whole_tree (sum (point_costs key dhat)) (point_items key dhat)

-- a snapshot at this time: the sum of a figure, and the tree of the points by it
abbrev pub snap_of : ℕ → HeapTree → FigureKey → Dhat → Snap
snap_of time mark key dhat = snap_with time (sum (point_costs key dhat)) mark (tree_by key dhat)

-- those of what was live at the peak, and at the end
abbrev pub snaps_of : Dhat → List Snap
snaps_of dhat = snap_of (peak_time dhat) Peak Gb dhat ∷ snap_of dhat.te Detailed Eb dhat ∷ []

-- the profile: what was live at the peak, and what was live at the end
unfoldable pub converted : Dhat → Profile
converted dhat = record {
  desc = codes "heapsuite convert";
  cmd = command_of dhat.cmd;
  unit = unit_of dhat.tu;
  snaps = snaps_of dhat;
}
