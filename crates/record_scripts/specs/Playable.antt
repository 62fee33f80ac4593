-- Which scripts threads can take: what lines without a fault say, one after another. A turn follows
-- those before it where the block of an allocation isn't live, that of a free or a reallocation is,
-- and its pointers fit 64 bits. At most 64 scripts of fewer than 2^24 events are playable where
-- each turn follows those before it and is within its bounds.
use Rattle.std.specs.Prelude.{◌≡◌, ◌^◌, ◌<◌, ◌≤◌, true, false, List, [], ◌∷◌, length, reverse}
use Rattle.std.specs.List.{AllByRecursion}
use Rattle.ht_lines.specs.Written.{AreWords}
use Rattle.record_scripts.specs.Turns.{AreBounded, Turn, allocates, frees, reallocates, is_live_after}
use Rattle.record_scripts.specs.Events.{event_count}
use Rattle.record_scripts.specs.Job.{Job}

-- after turns that are listed from the last to the first, the block of an allocation isn't live,
-- and that of a free or of a reallocation is; the instruction pointers fit 64 bits
abbrev pub Follows : List Turn → Turn → Type 0
Follows before (allocates id size ips) = (is_live_after before id ≡ false) × AreWords ips
Follows before (frees id) = is_live_after before id ≡ true
Follows before (reallocates id size ips) = (is_live_after before id ≡ true) × AreWords ips

-- listed from the last to the first, each turn follows those before it
abbrev pub AreInTurn : List Turn → Type 0
AreInTurn [] = Unit {0}
AreInTurn (turn ∷ before) = Follows before turn × AreInTurn before

-- the same of a script
abbrev pub IsInTurn : List Turn → Type 0
IsInTurn script = AreInTurn (reverse script)

-- at most 64 scripts of fewer than 2^24 events together, each of whose turns follows those before
-- it and is within its bounds
pub record IsPlayable (job : Job) : Type 0 where
  pub in_turn : AllByRecursion IsInTurn job.scripts
  pub bounded : AreBounded job.scripts
  pub few_events : event_count job.scripts < 2 ^ 24
  pub few_scripts : length job.scripts ≤ 64
