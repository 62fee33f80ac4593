-- What the check of a trace stands for: the scripts, the order of the turns that the lines have
-- begun, what is kept of its recording, and what is to come of that.
use Rattle.std.specs.Prelude.{◌≡◌, ℕ, Bool, List, Option, Some, None, Result, Err, OnOk}
use Rattle.record_scripts.specs.Job.{Job}
use Rattle.order_check.specs.declared.verdict.CheckRefusal.{CheckRefusal}
use Rattle.order_check.specs.declared.verdict.CheckRefusal.TheVariants.{NotRecorded}
use Rattle.order_check.specs.Following.{Following, at_place, followed, thread_for, turn_begun, whole_events, with_line}

-- the scripts with their modules, the order of the turns that the lines have begun, the bytes of
-- its recording that are kept, and the last of these, which are to come
pub record CheckState : Type 0 where
  pub job : Job
  pub order : List ℕ
  pub kept : List ℕ
  pub coming : List ℕ

-- how far the lines were followed
abbrev pub following_of : CheckState → Following
following_of check = at_place check.order check.coming

-- these lines were taken
abbrev pub HasTaken : CheckState → List (List ℕ) → Type 0
HasTaken check lines = followed check.job lines ≡ Some (following_of check)

-- one line further
abbrev pub line_step : CheckState → List ℕ → Option Following
line_step check line = with_line check.job (following_of check) line

-- the turn that a line begins is begun
abbrev pub turn_step : CheckState → List ℕ → Option Following
turn_step check line = turn_begun check.job check.order (thread_for check.order line)

-- a line is followed exactly so far, or refused where it can't be
pub record FollowsLine (old new : CheckState) (line : List ℕ) (result : Result (Unit {0}) CheckRefusal)
    : Type 0 where
  pub stepped : OnOk result (line_step old line ≡ Some (following_of new))
  pub refused : result ≡ Err NotRecorded → line_step old line ≡ None

-- the number of events, where all lines are taken
abbrev pub TellsEvents : CheckState → Bool → Option ℕ → Type 0
TellsEvents check ended events =
    (lines : List (List ℕ)) → HasTaken check lines → events ≡ whole_events check.job lines ended
