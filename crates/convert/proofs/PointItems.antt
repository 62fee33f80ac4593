-- Lemmas on the points of a profile and their items.
use Rattle.std.proofs.Common.{◌≡◌, ℕ, ◌+◌, ◌<◌, ◌≤◌, List, [], ◌∷◌, ◌++◌, length, map, take, Some, ap, ◌∙◌, arith}
use Rattle.std.specs.Prelude.{All, slice_get, slice_index, sum, sum_by}
use Rattle.std.specs.Option.{option_map}
use Rattle.std.proofs.lemmas.List.{length-map, map_push, take_all}
use Rattle.std.proofs.lemmas.List.Elements.{All-weaker}
use Rattle.std.proofs.lemmas.List.Sums.{sum_by-take-le, sum_by_push}
use Rattle.std.proofs.lemmas.Option.{slice_get-map}
use Rattle.cost_tree.specs.Costed.{Costed}
use Rattle.cost_tree.proofs.Laws.{costed-count, costed-sum, take-next}
use Rattle.dhat_json.specs.declared.figure.FigureKey.{FigureKey}
use Rattle.dhat_json.specs.declared.profile.Dhat.{Dhat}
use Rattle.dhat_json.specs.declared.profile.Point.{Point}
use Rattle.dhat_json.specs.IsSound.{IsSound, IsSoundPoint}
use Rattle.dhat_json.specs.Shown.{shown}
use Rattle.dhat_view.specs.PointCosts.{point_cost, point_costs}
use Rattle.dhat_view.specs.PointFronts.{point_fronts}
use Rattle.dhat_view.specs.PointFronts as points
use Rattle.convert.specs.Items.{point_items}
use Rattle.dhat_view.specs.Numbers.{AreNumbers}
use Rattle.dhat_view.proofs.Laws.{numbers-count}
use Rattle.convert.proofs.LineTexts.{costed-at}
use Rattle.convert.proofs.Lists.{held-by}

-- one element more of a list that is mapped
pub map-next : {X Y : Type 0} (f : X → Y) (xs : List X) (k : ℕ) (x : X) → slice_get xs k ≡ Some x
    → map f (take (k + 1) xs) ≡ map f (take k xs) ++ f x ∷ []
map-next f xs k x held = ap (λ ys. map f ys) (take-next xs k x held) ∙ map_push f (take k xs) x

-- as many points as lists and figures
pub lists-count : (dhat : Dhat) → length (point_fronts dhat) ≡ length dhat.pps
unfolding point_fronts
lists-count dhat = length-map dhat.pps _

pub costs-count : (key : FigureKey) (dhat : Dhat) → length (point_costs key dhat) ≡ length dhat.pps
unfolding point_costs
costs-count key dhat = length-map dhat.pps (point_cost key)

-- the items' numbers sum to what the figures sum to
pub items-sum : (key : FigureKey) (dhat : Dhat)
    → sum_by (λ (item : Costed). item.cost) (point_items key dhat) ≡ sum (point_costs key dhat)
items-sum key dhat =
    costed-sum (point_fronts dhat) (point_costs key dhat)
    (let lists = lists-count dhat in let costs = costs-count key dhat in omega arith)

-- the item of a point
pub item-at : (key : FigureKey) (dhat : Dhat) (place : ℕ) (point : Point) (figure : ℕ)
    → slice_get dhat.pps place ≡ Some point → slice_get (point_costs key dhat) place ≡ Some figure
    → slice_get (point_items key dhat) place
    ≡ Some (record { texts = points.texts_at (map shown dhat.ftbl) point.fs; cost = figure })
unfolding point_fronts
item-at key dhat place point figure point_is figure_is =
    let list : Point → List (List ℕ) = λ p. points.texts_at (map shown dhat.ftbl) p.fs in
    costed-at (map list dhat.pps) (point_costs key dhat) place (list point) figure
    (slice_get-map list dhat.pps place ∙ ap (option_map list) point_is) figure_is

-- one item more
pub items-next : (key : FigureKey) (dhat : Dhat) (place : ℕ) (item : Costed)
    → slice_get (point_items key dhat) place ≡ Some item
    → take (place + 1) (point_items key dhat) ≡ take place (point_items key dhat) ++ item ∷ []
items-next key dhat place item at = take-next (point_items key dhat) place item at

-- those so far and one more have no more together than all
pub items-within : (items : List Costed) (place : ℕ) (item : Costed) (most : ℕ) → slice_get items place ≡ Some item
    → sum_by (λ (i : Costed). i.cost) items ≤ most
    → sum_by (λ (i : Costed). i.cost) (take place items) + item.cost ≤ most
items-within items place item most at within =
    let part = sum_by-take-le (λ (i : Costed). i.cost) items (place + 1) in
    let next =
    ap (λ (is : List Costed). sum_by (λ (i : Costed). i.cost) is) (take-next items place item at)
    ∙ sum_by_push (λ (i : Costed). i.cost) (take place items) item in
    omega arith

-- all items
pub items-all : (key : FigureKey) (dhat : Dhat) (place : ℕ) → length dhat.pps ≤ place
    → take place (point_items key dhat) ≡ point_items key dhat
items-all key dhat place all =
    let lists = lists-count dhat in
    let costs = costs-count key dhat in
    let count = costed-count (point_fronts dhat) (point_costs key dhat) (omega arith) in
    take_all place (point_items key dhat) (omega arith)

-- the frames of a point have numbers
pub frames-held : (dhat : Dhat) (names : List (List ℕ)) (numbers : List ℕ) (place : ℕ) (point : Point) → IsSound dhat
    → slice_get dhat.pps place ≡ Some point → AreNumbers names numbers (map shown dhat.ftbl)
    → All (λ frame. frame < length numbers) point.fs
frames-held dhat names numbers place point sound at are =
    let is = held-by (IsSoundPoint dhat.bklt dhat.bkacc (length dhat.ftbl)) dhat.pps place point at sound.points in
    let count = numbers-count names numbers (map shown dhat.ftbl) are in
    let table = length-map dhat.ftbl shown in
    All-weaker (λ frame. frame < length dhat.ftbl) (λ frame. frame < length numbers) (λ frame below. omega arith)
    point.fs is.in_table

-- a point's numbers are those of its texts
pub list-is : (numbers deref list other fs : List ℕ) → deref ≡ numbers
    → list ≡ map (λ frame. slice_index deref frame) fs → other ≡ list
    → other ≡ map (λ frame. slice_index numbers frame) fs
list-is numbers deref list other fs deref_is list_is other_is =
    other_is ∙ list_is ∙ ap (λ (ns : List ℕ). map (λ (frame : ℕ). slice_index ns frame) fs) deref_is
