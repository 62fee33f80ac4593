-- What the lines of a view are: of a front the sum over the stacks that begin with it, and of
-- gathered fronts their sum and number. Each line of a front has the sum of the points that begin
-- with it, and each front of at most so many texts whose sum isn't 0 and whose share is not below
-- the threshold has one line. A line of gathered places stands below a front's line and has the sum
-- and the number of all fronts one text longer whose share is below the threshold.
use Rattle.std.specs.Prelude.{◌≡◌, ◌≢◌, ℕ, ◌+◌, ◌*◌, ◌<◌, ◌≤◌, All, AllPairs, Contains, List, [], ◌∷◌, ◌++◌, drop}
use Rattle.std.specs.Prelude.{length, take, Some, slice_get, sum, sum_by}
use Rattle.std.specs.List.{flat_map}
use Rattle.cost_tree.specs.declared.scale.Scale.{Scale}
use Rattle.cost_tree.specs.Costed.{Costed}
use Rattle.cost_tree.specs.CostLines.{FrontLine, Shown, a_front, gathered, last_of}
use Rattle.cost_tree.specs.Inclusive.{inclusive}
use Rattle.dhat_json.specs.declared.figure.FigureKey.{FigureKey}
use Rattle.dhat_json.specs.declared.profile.Dhat.{Dhat}
use Rattle.dhat_view.specs.declared.options.ViewOptions.{ViewOptions}
use Rattle.dhat_view.specs.Lines.{line_text}
use Rattle.dhat_view.specs.PointCosts.{point_costs}
use Rattle.dhat_view.specs.TreeText.{scale_of}
use Rattle.dhat_view.specs.ViewText.{fronts_with_costs, head_text}

-- a front goes on from another by one text, costs something, and its share of the total is below the threshold
pub record IsSmallNext (scale : Scale) (stacks : List Costed) (front next : List (List ℕ)) : Type
    0 where
  pub longer : next ≡ front ++ last_of next ∷ []
  pub more_than_0 : 0 < inclusive next stacks
  pub small : 10000 * inclusive next stacks < scale.threshold * scale.total

-- these are all such fronts, and each is there once
pub record AreSmallNexts (scale : Scale) (stacks : List Costed) (front : List (List ℕ))
    (nexts : List (List (List ℕ))) : Type 0 where
  pub each : All (IsSmallNext scale stacks front) nexts
  pub all : (next : List (List ℕ)) → IsSmallNext scale stacks front next → Contains nexts next
  pub once : AllPairs (λ earlier later. earlier ≢ later) nexts

-- the last of some lines are the front's line and lines further in
pub record EndBelow (front : List (List ℕ)) (lines : List FrontLine) : Type 0 where
  pub earlier : List FrontLine
  pub line : FrontLine
  pub below : List FrontLine
  pub are : lines ≡ earlier ++ line ∷ below
  pub shows : line.shown ≡ a_front front
  pub deeper : All (λ lower. length front < lower.level) below

-- behind lines that end below a front, a line has the sum of the small fronts that go on from it, and these are so many
pub record GathersSmall (scale : Scale) (stacks : List Costed) (before : List FrontLine)
    (line : FrontLine) (places : ℕ) : Type 0 where
  pub front : List (List ℕ)
  pub nexts : List (List (List ℕ))
  pub beneath : EndBelow front before
  pub are : AreSmallNexts scale stacks front nexts
  pub level : line.level ≡ length front + 1
  pub cost : line.cost ≡ sum_by (λ next. inclusive next stacks) nexts
  pub count : places ≡ length nexts

-- a line, behind the lines before it: of a front it has the length and the sum over the stacks that begin with it
abbrev pub IsSumOf : Scale → List Costed → List FrontLine → FrontLine → Shown → Type 0
IsSumOf scale stacks before line (a_front front) = (line.level ≡ length front)
    × (line.cost ≡ inclusive front stacks)
IsSumOf scale stacks before line (gathered places) = GathersSmall scale stacks before line places

-- the first line is that of the empty front, each line has its sum, each front of at most so many
-- texts that costs something and isn't small has a line, and no two lines are of one front
pub record AreViewSums (depth : ℕ) (scale : Scale) (stacks : List Costed)
    (lines : List FrontLine) : Type 0 where
  pub root : (line : FrontLine) × (slice_get lines 0 ≡ Some line) × (line.shown ≡ a_front [])
  pub each : (n : ℕ) (line : FrontLine) → slice_get lines n ≡ Some line
      → IsSumOf scale stacks (take n lines) line line.shown
  pub all : (front : List (List ℕ)) → length front ≤ depth → 0 < inclusive front stacks
      → scale.threshold * scale.total ≤ 10000 * inclusive front stacks
      → (n : ℕ) × (line : FrontLine) × (slice_get lines n ≡ Some line)
      × (line.shown ≡ a_front front)
  pub once : (m n : ℕ) (line other : FrontLine) (front : List (List ℕ))
      → slice_get lines m ≡ Some line → slice_get lines n ≡ Some other
      → line.shown ≡ a_front front → other.shown ≡ a_front front → m ≡ n

-- the shares of a view are those of the sum of the points' figures
abbrev pub view_scale : FigureKey → ℕ → Dhat → Scale
view_scale key threshold dhat = scale_of (sum (point_costs key dhat)) threshold

-- a view's text is its head and some lines without the first, which have the sums of the points
pub record HasViewSums (key : FigureKey) (threshold depth : ℕ) (dhat : Dhat) (text : List ℕ) : Type
    0 where
  pub lines : List FrontLine
  pub are : AreViewSums depth (view_scale key threshold dhat)
      (fronts_with_costs key dhat) lines
  pub written : text ≡ head_text key dhat (sum (point_costs key dhat))
      ++ flat_map (line_text (view_scale key threshold dhat)) (drop 1 lines)

-- a view with these options came to the bytes
abbrev pub GainsView : ViewOptions → Dhat → List ℕ → List ℕ → Type 0
GainsView options dhat old new = (text : List ℕ)
    × HasViewSums options.key options.threshold options.depth dhat text
    × (new ≡ old ++ text)
