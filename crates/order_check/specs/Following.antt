-- How the lines of a trace are followed, one after another, by the recordings that begin so. How
-- lines are followed: a line that names a thread calls for that thread's next turn, any other for
-- that of the thread before; what the turn adds to the recording has to come, line by line.
use Rattle.std.specs.Prelude.{ℕ, ◌+◌, ◌-◌, Bool, true, false, ◌==◌, ◌&&◌, if◌then◌else◌, nat_lt, List, [], ◌∷◌, ◌++◌}
use Rattle.std.specs.Prelude.{length, drop, slice_get, is_some, option_map, Option, None, Some}
use Rattle.std.specs.Option.{option_or}
use Rattle.record_scripts.specs.Events.{events_of}
use Rattle.record_scripts.specs.Job.{Job}
use Rattle.record_scripts.specs.Turns.{Turn}
use Rattle.record_book.specs.Actions.{events_at, times}
use Rattle.record_book.specs.BookState.{stepped}
use Rattle.record_book.specs.RecordedTrace.{recorded}
use Rattle.record_book.specs.Spelled.{behind, named}

-- how far recordings were followed: the order of the turns that were begun, and the bytes of its
-- recording that are to come
pub record Following : Type 0 where
  pub order : List ℕ
  pub coming : List ℕ

abbrev pub at_place : List ℕ → List ℕ → Following
at_place order coming = record { order = order; coming = coming }

-- before any line
abbrev pub unfollowed : Job → Following
unfollowed job = at_place [] (recorded job [])

-- the last entry of an order
abbrev pub last_entry : List ℕ → Option ℕ
last_entry order = slice_get order (length order - 1)

-- the thread whose turn a line begins: the one that it names, else that of the event before
abbrev pub thread_for : List ℕ → List ℕ → Option ℕ
thread_for order line = option_or (named line) (last_entry order)

-- what a turn of a thread adds to the recording of an order
abbrev pub added : Job → List ℕ → ℕ → List ℕ
added job order thread = drop (length (recorded job order))
    (recorded job (stepped job.scripts thread order))

-- the next turn of a thread is begun, where its script isn't done
abbrev pub turn_begun : Job → List ℕ → Option ℕ → Option Following
turn_begun job order None = None
turn_begun job order (Some thread) =
    if nat_lt (times thread order) (length (events_at job.scripts thread))
    then Some (at_place (stepped job.scripts thread order) (added job order thread))
    else None

-- what is to come, with the turn that a line begins where nothing is
abbrev pub at_line : Job → List ℕ → List ℕ → List ℕ → Option Following
at_line job order [] line = turn_begun job order (thread_for order line)
at_line job order (byte ∷ coming) line = Some (at_place order (byte ∷ coming))

-- what stands behind a line and its line feed at the front of a text, where that begins so
abbrev pub past_line : List ℕ → List ℕ → Option (List ℕ)
past_line line text = behind (line ++ 10 ∷ []) text

-- behind a line, where it is the one that is to come
abbrev pub behind_line : List ℕ → Option Following → Option Following
behind_line line None = None
behind_line line (Some now) = option_map (at_place now.order) (past_line line now.coming)

-- one line further
abbrev pub with_line : Job → Following → List ℕ → Option Following
with_line job now line = behind_line line (at_line job now.order now.coming line)

-- further by lines; none where no recording begins so
abbrev pub with_lines : Job → Option Following → List (List ℕ) → Option Following
with_lines job None lines = None
with_lines job (Some now) [] = Some now
with_lines job (Some now) (line ∷ lines) = with_lines job (with_line job now line) lines

-- how far lines can be followed
abbrev pub followed : Job → List (List ℕ) → Option Following
followed job lines = with_lines job (Some (unfollowed job)) lines

-- whether some recording begins with these lines
abbrev pub is_front : Job → List (List ℕ) → Bool
is_front job lines = is_some (followed job lines)

-- whether the scripts, the first of which is that of a thread, are done
abbrev pub are_done : ℕ → List (List Turn) → List ℕ → Bool
are_done thread [] order = true
are_done thread (script ∷ scripts) order = times thread order == length (events_of script)
    && are_done (thread + 1) scripts order

-- whether nothing is to come
abbrev pub is_empty : List ℕ → Bool
is_empty [] = true
is_empty (byte ∷ bytes) = false

-- the number of events, where nothing is to come and all turns are taken
abbrev pub events_at_end : Job → Bool → Option Following → Option ℕ
events_at_end job ended None = None
events_at_end job ended (Some now) =
    if ended && is_empty now.coming && are_done 0 job.scripts now.order then Some (length now.order)
    else None

-- the number of events, where lines are all of a recording in which all turns are taken; whether
-- the last one ended with its line feed is told beside them
abbrev pub whole_events : Job → List (List ℕ) → Bool → Option ℕ
whole_events job lines ended = events_at_end job ended (followed job lines)
