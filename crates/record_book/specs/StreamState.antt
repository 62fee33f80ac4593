-- What a recording stands for of which a front of the trace may be let go.
use Rattle.std.specs.Prelude.{◌≡◌, ℕ, ◌+◌, ◌*◌, ◌^◌, ◌≤◌, List, [], ◌∷◌, length, reverse, slice_get, take, unwrap_or}
use Rattle.std.specs.Prelude.{None, is_some, ◌++◌}
use Rattle.record_scripts.specs.Events.{events_of}
use Rattle.record_scripts.specs.Job.{Job}
use Rattle.record_scripts.specs.Playable.{IsPlayable}
use Rattle.record_scripts.specs.Turns.{Turn, is_live_after, script_at}
use Rattle.record_book.specs.declared.trace.Trace.{Trace}
use Rattle.record_book.specs.Actions.{actions, times}
use Rattle.record_book.specs.HeapPlaces.{places_after}
use Rattle.record_book.specs.HeapState.{entry_in}
use Rattle.record_book.specs.Orders.{ArePaired, awaited}
use Rattle.record_book.specs.RecordedTrace.{recorded}
use Rattle.record_book.specs.TraceState.{IsTrace}

-- how many turns of its script a thread has taken
abbrev pub done_at : List ℕ → ℕ → ℕ
done_at done thread = unwrap_or (slice_get done thread) 0

-- the events of the turns that all threads have taken
abbrev pub done_count : List (List Turn) → List ℕ → ℕ
done_count [] done = 0
done_count (script ∷ scripts) [] = 0
done_count (script ∷ scripts) (count ∷ done) = length (events_of (take count script))
    + done_count scripts done

-- a recording of which the front of the trace may be let go: the text is what is kept of it
pub record Streamed : Type 0 where
  pub job : Job
  pub order : List ℕ
  pub text : List ℕ

-- the text that is kept has got exactly what the trace has
abbrev pub GainsText : Streamed → Streamed → Type 0
GainsText old new = (more : List ℕ) × (new.text ≡ old.text ++ more)
    × (recorded new.job new.order ≡ recorded old.job old.order ++ more)

-- the order and the trace are those of so many turns of each thread, and a front of the trace was
-- let go; the blocks that lie in the trace are those that are live in the scripts
pub record IsStream (job : Job) (done order : List ℕ) (trace : Trace) : Type 0 where
  pub gone : List ℕ
  pub threads : length done ≡ length job.scripts
  pub taken : (thread : ℕ)
      → times thread order
      ≡ length (events_of (take (done_at done thread) (script_at job.scripts thread)))
  pub few_taken : (thread : ℕ) → done_at done thread ≤ length (script_at job.scripts thread)
  pub count : length order ≡ done_count job.scripts done
  pub paired : ArePaired (actions job.scripts order)
  pub closed : awaited (actions job.scripts order) ≡ None
  pub trace_is : IsTrace gone trace job.modules (actions job.scripts order)
  pub few_nodes : length trace.nodes ≤ 256 * length order
  pub end : trace.heap.end ≤ 65536 + 2 ^ 33 * length order
  pub playable : IsPlayable job
  pub live : (thread id : ℕ)
      → is_some (entry_in (places_after (actions job.scripts order)) thread id)
      ≡ is_live_after (reverse (take (done_at done thread) (script_at job.scripts thread))) id
