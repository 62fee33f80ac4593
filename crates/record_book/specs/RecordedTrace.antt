-- The recorded trace has a line with the thread where that changes, the lines of new nodes before
-- an allocation, and a line for each event.
use Rattle.std.specs.Prelude.{ℕ, ◌==◌, if◌then◌else◌, List, [], ◌∷◌, ◌++◌, codes, Option, None, Some}
use Rattle.std.specs.Prelude.{decimal}
use Rattle.ht_lines.specs.Content.{Content, node_line, raw_allocation_line, raw_free_line}
use Rattle.ht_lines.specs.Written.{written}
use Rattle.record_scripts.specs.Job.{Job}
use Rattle.record_scripts.specs.Events.{Event, allocation, free}
use Rattle.record_book.specs.Actions.{Action, actions}
use Rattle.record_book.specs.HeapPlaces.{Place, address_of, class_of, next_address, places_after, released}
use Rattle.record_book.specs.NodeNumbers.{number_in, stacks_after, with_suffixes}

-- what stands before the lines of modules
abbrev pub opening : List ℕ
opening = codes "v 10500 2\nX heaprec\n"

-- a line of the trace, in file version 2
abbrev pub line_of : Content → List ℕ
line_of said = written 2 said ++ 10 ∷ []

-- the line of an allocation of so many bytes by a node, and that of a free
abbrev pub allocation_text : ℕ → ℕ → ℕ → List ℕ
allocation_text size node address = line_of (raw_allocation_line size node address)

abbrev pub free_text : ℕ → List ℕ
free_text address = line_of (raw_free_line address)

-- the line that names the thread of the events behind it
abbrev pub thread_line : ℕ → List ℕ
thread_line thread = codes "# thread " ++ (decimal thread ++ 10 ∷ [])

-- the thread of the last action
abbrev pub last_thread : List Action → Option ℕ
last_thread [] = None
last_thread (action ∷ before) = Some action.thread

-- that line, where the thread isn't the last one's
abbrev pub switch_text : Option ℕ → ℕ → List ℕ
switch_text None thread = thread_line thread
switch_text (Some last) thread = if last == thread then [] else thread_line thread

-- the line of the node of a pointer that is called from a stack, where it is new
abbrev pub node_text : List (List ℕ) → ℕ → List ℕ → List ℕ
node_text known ip outer = if number_in known (ip ∷ outer) == 0
    then line_of (node_line ip (number_in known outer)) else []

-- the lines of the new nodes of a stack, the outermost first
abbrev pub nodes_text : List (List ℕ) → List ℕ → List ℕ
nodes_text known [] = []
nodes_text known (ip ∷ outer) = nodes_text known outer
    ++ node_text (with_suffixes known outer) ip outer

-- the lines of an event, after these stacks and these places
abbrev pub event_text : List (List ℕ) → List Place → ℕ → Event → List ℕ
event_text known places thread (allocation id size ips) =
    nodes_text known ips
    ++ line_of (raw_allocation_line size (number_in (with_suffixes known ips) ips)
    (next_address (class_of size) (released thread id places)))
event_text known places thread (free id rejoined) = line_of
    (raw_free_line (address_of thread id places))

-- the trace of actions that are listed from the last to the first, behind the lines of modules
abbrev pub trace_text : List ℕ → List Action → List ℕ
trace_text modules [] = opening ++ modules
trace_text modules (action ∷ before) =
    trace_text modules before
    ++ (switch_text (last_thread before) action.thread
    ++ event_text (stacks_after before) (places_after before) action.thread action.event)

-- the trace of an order
abbrev pub recorded : Job → List ℕ → List ℕ
recorded job order = trace_text job.modules (actions job.scripts order)
