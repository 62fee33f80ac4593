-- Lemmas on the profile of a DHAT profile, which may be written.
use Rattle.std.proofs.Common.{◌≡◌, ◌≢◌, ℕ, zero, suc, ◌^◌, ◌<◌, ◌≤◌, List, [], ◌∷◌, length, map, Option, None, Some}
use Rattle.std.proofs.Common.{refl, subst, arith, min}
use Rattle.std.specs.Prelude.{All, codes, slice_get, slice_index_or, sum, sum_by}
use Rattle.std.specs.Option.{option_map_or}
use Rattle.std.proofs.lemmas.List.Elements.{All-cons, All-head, All-nil, All-tail, All-weaker}
use Rattle.cost_tree.specs.Costed.{Costed, costed}
use Rattle.cost_tree.proofs.Laws.{costed-count}
use Rattle.dhat_json.specs.declared.figure.FigureKey.{FigureKey}
use Rattle.dhat_json.specs.declared.figure.FigureKey.TheVariants.{Eb, Gb}
use Rattle.dhat_json.specs.declared.profile.Dhat.{Dhat}
use Rattle.dhat_json.specs.declared.profile.Point.{Point}
use Rattle.dhat_json.specs.IsSound.{IsSound, IsSoundPoint}
use Rattle.dhat_json.specs.Shown.{shown}
use Rattle.dhat_view.specs.PointCosts.{point_costs}
use Rattle.dhat_view.specs.PointFronts.{lists_in, point_fronts, texts_at}
use Rattle.massif_file.specs.declared.profile.HeapTree.{HeapTree}
use Rattle.massif_file.specs.declared.profile.HeapTree.TheVariants.{Detailed, Peak}
use Rattle.massif_file.specs.declared.profile.Snap.{Snap}
use Rattle.massif_file.specs.IsWritable.{IsText, IsWritable, IsWritableLine, IsWritableSnap}
use Rattle.massif_file.specs.Trees.{IsTree}
use Rattle.massif_tree.specs.declared.options.TreeOptions.{TreeOptions}
use Rattle.massif_tree.specs.MassifTree.{massif_tree}
use Rattle.convert.specs.AreTreeSums.{HaveTreeSums}
use Rattle.convert.specs.Converted.{command_of, converted, peak_time, snap_of, whole_tree}
use Rattle.convert.specs.Items.{point_items}
use Rattle.convert.proofs.TreeSums.{tree-sums}
use Rattle.convert.proofs.PointItems.{costs-count, items-sum, lists-count}

-- what the laws of trees and of shown texts say
pub record AreLaws : Type 0 where
  pub right : (options : TreeOptions) (total : ℕ) (stacks : List Costed) → options.depth ≤ 256
      → IsTree (massif_tree options total stacks)
  pub writable : (options : TreeOptions) (total : ℕ) (stacks : List Costed) → length stacks < 2 ^ 32
      → sum_by (λ (stack : Costed). stack.cost) stacks ≤ 2 ^ 62
      → All (λ (stack : Costed). All IsText stack.texts) stacks → All IsWritableLine (massif_tree options total stacks)
  pub no_line_feed : (text : List ℕ) → All (λ b. b ≢ 10) (shown text)
  pub begin : (text : List ℕ) → slice_get (shown text) 0 ≢ Some 32
  pub again : (text : List ℕ) → shown (shown text) ≡ shown text

-- what was live can be written
pub record AreSmall (dhat : Dhat) : Type 0 where
  pub time : dhat.te ≤ 2 ^ 62
  pub at_peak : sum (point_costs Gb dhat) ≤ 2 ^ 62
  pub at_end : sum (point_costs Eb dhat) ≤ 2 ^ 62

shown-text : AreLaws → (text : List ℕ) → IsText (shown text)
shown-text laws text = record { line = laws.no_line_feed text; begin = laws.begin text }

-- a literal that is shown as it is
literal : AreLaws → (text : List ℕ) → shown text ≡ text → IsText text
literal laws text same = subst IsText same (shown-text laws text)

command-text : AreLaws → (command : List ℕ) → IsText (command_of command)
command-text laws [] = literal laws (codes "(none)") refl
command-text laws (byte ∷ more) = shown-text laws (byte ∷ more)

-- what holds of each shown text holds of the texts of points, whose frames are in the table
text-has : (P : List ℕ → Type 0) → ((text : List ℕ) → P (shown text)) → (table : List (List ℕ)) (frame : ℕ)
    → frame < length table → P (slice_index_or (map shown table) frame [])
text-has P each [] frame within = absurd (omega arith)
text-has P each (text ∷ table) zero within = each text
text-has P each (text ∷ table) (suc frame) within = text-has P each table frame (omega arith)

texts-have : (P : List ℕ → Type 0) → ((text : List ℕ) → P (shown text)) → (table : List (List ℕ)) (frames : List ℕ)
    → All (λ frame. frame < length table) frames → All P (texts_at (map shown table) frames)
texts-have P each table [] within = All-nil P
texts-have P each table (frame ∷ frames) within =
    All-cons P (slice_index_or (map shown table) frame []) (texts_at (map shown table) frames)
    (text-has P each table frame (All-head (λ f. f < length table) frame frames within))
    (texts-have P each table frames (All-tail (λ f. f < length table) frame frames within))

lists-have : (P : List ℕ → Type 0) → ((text : List ℕ) → P (shown text)) → (table : List (List ℕ)) (points : List Point)
    → All (λ (point : Point). All (λ frame. frame < length table) point.fs) points
    → All (All P) (lists_in (map shown table) points)
lists-have P each table [] within = All-nil (All P)
lists-have P each table (point ∷ points) within =
    let In : Point → Type 0 = λ p. All (λ frame. frame < length table) p.fs in
    All-cons (All P) (texts_at (map shown table) point.fs) (lists_in (map shown table) points)
    (texts-have P each table point.fs (All-head In point points within))
    (lists-have P each table points (All-tail In point points within))

items-have : (P : List ℕ → Type 0) (lists : List (List (List ℕ))) (costs : List ℕ) → All (All P) lists
    → All (λ (item : Costed). All P item.texts) (costed lists costs)
unfolding costed
items-have P [] costs all = All-nil (λ (item : Costed). All P item.texts)
items-have P (list ∷ lists) [] all = All-nil (λ (item : Costed). All P item.texts)
items-have P (list ∷ lists) (cost ∷ costs) all =
    All-cons (λ (item : Costed). All P item.texts) (record { texts = list; cost = cost }) (costed lists costs)
    (All-head (All P) list lists all) (items-have P lists costs (All-tail (All P) list lists all))

pub points-have : (P : List ℕ → Type 0) → ((text : List ℕ) → P (shown text)) → (key : FigureKey) (dhat : Dhat)
    → IsSound dhat → All (λ (item : Costed). All P item.texts) (point_items key dhat)
unfolding point_fronts
points-have P each key dhat sound =
    items-have P (lists_in (map shown dhat.ftbl) dhat.pps) (point_costs key dhat)
    (lists-have P each dhat.ftbl dhat.pps
    (All-weaker (IsSoundPoint dhat.bklt dhat.bkacc (length dhat.ftbl))
    (λ (point : Point). All (λ frame. frame < length dhat.ftbl) point.fs) (λ point is. is.in_table) dhat.pps
    sound.points))

-- a snapshot may be written
snap-writable : AreLaws → (time : ℕ) (mark : HeapTree) (key : FigureKey) (dhat : Dhat) → IsSound dhat → time ≤ 2 ^ 62
    → sum (point_costs key dhat) ≤ 2 ^ 62 → IsWritableSnap (snap_of time mark key dhat)
snap-writable laws time mark key dhat sound early within =
    let lists = lists-count dhat in
    let costs = costs-count key dhat in
    let count = costed-count (point_fronts dhat) (point_costs key dhat) (omega arith) in
    let few = sound.few in
    let total = items-sum key dhat in
    record {
      time = early;
      heap = within;
      extra = omega arith;
      stacks = omega arith;
      tree =
          laws.writable whole_tree (sum (point_costs key dhat)) (point_items key dhat) (omega arith) (omega arith)
          (points-have IsText (shown-text laws) key dhat sound);
    }

-- the peak is not after the end
peak-early : (peak : Option ℕ) (end : ℕ) → option_map_or (λ time. min time end) peak end ≤ end
peak-early None end = omega arith
peak-early (Some time) end = omega arith

pub converted-writable : AreLaws → (dhat : Dhat) → IsSound dhat → AreSmall dhat → IsWritable (converted dhat)
unfolding converted
converted-writable laws dhat sound small =
    let early = peak-early dhat.tg dhat.te in
    let time = small.time in
    let tree : (key : FigureKey) → IsTree (massif_tree whole_tree (sum (point_costs key dhat)) (point_items key dhat)) =
    λ key. laws.right whole_tree (sum (point_costs key dhat)) (point_items key dhat) (omega arith) in
    let first : Snap = snap_of (peak_time dhat) Peak Gb dhat in
    let last : Snap = snap_of dhat.te Detailed Eb dhat in
    record {
      right = record { some = omega arith; snaps = (omega arith, tree Gb, (early, tree Eb, tt)) };
      numbers = omega arith;
      desc = literal laws (codes "heapsuite convert") refl;
      cmd = command-text laws dhat.cmd;
      snaps =
          All-cons IsWritableSnap first (last ∷ [])
          (snap-writable laws (peak_time dhat) Peak Gb dhat sound (omega arith) small.at_peak)
          (All-cons IsWritableSnap last [] (snap-writable laws dhat.te Detailed Eb dhat sound time small.at_end)
          (All-nil IsWritableSnap));
    }

-- its trees have the sums of the points
pub converted-sums : AreLaws → (dhat : Dhat) → IsSound dhat → HaveTreeSums dhat (converted dhat)
unfolding converted
converted-sums laws dhat sound =
    let P : List ℕ → Type 0 = λ text. shown text ≡ text in
    record {
      at_peak = tree-sums (sum (point_costs Gb dhat)) (point_items Gb dhat) (points-have P laws.again Gb dhat sound);
      at_end = tree-sums (sum (point_costs Eb dhat)) (point_items Eb dhat) (points-have P laws.again Eb dhat sound);
    }
