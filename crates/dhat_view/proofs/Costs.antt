-- Lemmas on what points cost, and what they cost together.
use Rattle.std.proofs.Common.{◌≡◌, ℕ, zero, suc, ◌+◌, ◌≤◌, List, [], ◌∷◌, length, map, take, Some, ap, ◌∙◌}
use Rattle.std.specs.Prelude.{slice_get, sum}
use Rattle.std.proofs.lemmas.List.{length-map, take_all}
use Rattle.std.proofs.lemmas.List.Sums.{sum_by_push}
use Rattle.std.proofs.lemmas.Option.{none-some, same_Some}
use Rattle.dhat_json.specs.declared.figure.FigureKey.{FigureKey}
use Rattle.dhat_json.specs.declared.profile.Point.{Point}
use Rattle.dhat_json.specs.declared.profile.Dhat.{Dhat}
use Rattle.dhat_view.specs.PointCosts.{point_cost, point_costs}
use Rattle.dhat_view.specs.PointFronts.{point_fronts}
use Rattle.dhat_view.proofs.Lists.{take-next}

get-map : {X Y : Type 0} (f : X → Y) (xs : List X) (k : ℕ) (x : X) → slice_get xs k ≡ Some x
    → slice_get (map f xs) k ≡ Some (f x)
get-map f [] k x held = absurd (none-some x held)
get-map f (y ∷ ys) zero x held = ap (λ z. Some (f z)) (same_Some y x held)
get-map f (y ∷ ys) (suc k) x held = get-map f ys k x held

-- the cost of the point at a place
pub cost-held : (key : FigureKey) (dhat : Dhat) (place : ℕ) (point : Point) → slice_get dhat.pps place ≡ Some point
    → slice_get (point_costs key dhat) place ≡ Some (point_cost key point)
unfolding point_costs
cost-held key dhat place point held = get-map (point_cost key) dhat.pps place point held

pub costs-count : (key : FigureKey) (dhat : Dhat) → length (point_costs key dhat) ≡ length dhat.pps
unfolding point_costs
costs-count key dhat = length-map dhat.pps (point_cost key)

pub fronts-count : (dhat : Dhat) → length (point_fronts dhat) ≡ length dhat.pps
unfolding point_fronts
fronts-count dhat = length-map dhat.pps _

-- one number more
pub sum-next : (ns : List ℕ) (k n : ℕ) → slice_get ns k ≡ Some n → sum (take (k + 1) ns) ≡ sum (take k ns) + n
sum-next ns k n held = ap (λ (xs : List ℕ). sum xs) (take-next ns k n held) ∙ sum_by_push (λ (x : ℕ). x) (take k ns) n

-- all of them
pub sum-all : (ns : List ℕ) (k : ℕ) → length ns ≤ k → sum (take k ns) ≡ sum ns
sum-all ns k all = ap (λ (xs : List ℕ). sum xs) (take_all k ns all)
