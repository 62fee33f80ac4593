-- What the lines of a recorded trace say, and that its bytes are these lines.
use Rattle.std.proofs.Common.{◌≡◌, ℕ, ◌==◌, Bool, true, false, cond, List, [], ◌∷◌, ◌++◌, map, Option, Some, None, refl}
use Rattle.std.proofs.Common.{sym, ap, ap₂, ◌∙◌, append_assoc, append-nil}
use Rattle.std.specs.List.{AllByRecursion}
use Rattle.std.specs.Prelude.{codes, decimal, if◌then◌else◌}
use Rattle.hp_outside.specs.WholeLines.{text_of_lines}
use Rattle.ht_lines.specs.Content.{Content, command_line, comment_line, node_line, raw_allocation_line, raw_free_line}
use Rattle.ht_lines.specs.Content.{version_line}
use Rattle.ht_lines.specs.Written.{written}
use Rattle.record_scripts.specs.Events.{Event, allocation, free}
use Rattle.record_scripts.specs.ModuleLines.{module_lines}
use Rattle.record_book.specs.declared.summary.Summary.{Summary}
use Rattle.record_book.specs.Actions.{Action}
use Rattle.record_book.specs.HeapPlaces.{address_of, class_of, next_address, places_after, released}
use Rattle.record_book.specs.NodeNumbers.{number_in, stacks_after, with_suffixes}
use Rattle.record_book.specs.RecordedTrace.{event_text, last_thread, line_of, node_text, nodes_text, opening}
use Rattle.record_book.specs.RecordedTrace.{switch_text, thread_line, trace_text}
use Rattle.record_book.proofs.Laws.{summary_lines}
use Rattle.sound_traces.proofs.Laws.{version_written}

-- the line that names a thread
abbrev pub thread_said : ℕ → Content
thread_said thread = comment_line (codes " thread " ++ decimal thread)

abbrev pub switch_said : Option ℕ → ℕ → List Content
switch_said None thread = thread_said thread ∷ []
switch_said (Some last) thread = if last == thread then [] else thread_said thread ∷ []

-- what holds of the line that names a thread holds of a switch
pub switch-all : (P : Content → Type 0) (last : Option ℕ) (thread : ℕ) → P (thread_said thread)
    → AllByRecursion P (switch_said last thread)
switch-all P None thread here = (here, tt)
switch-all P (Some last) thread here = by (last == thread)
  where
    by : (b : Bool) → AllByRecursion P (cond b [] (thread_said thread ∷ []))
    by true = tt
    by false = (here, tt)

-- the lines of new nodes, the outermost first
abbrev pub node_said : List (List ℕ) → ℕ → List ℕ → List Content
node_said known ip outer = if number_in known (ip ∷ outer) == 0 then node_line ip (number_in known outer) ∷ [] else []

abbrev pub nodes_said : List (List ℕ) → List ℕ → List Content
nodes_said known [] = []
nodes_said known (ip ∷ outer) = nodes_said known outer ++ node_said (with_suffixes known outer) ip outer

-- the lines before that of an event, and its own
abbrev pub before_event : List Action → ℕ → Event → List Content
before_event before thread (allocation id size ips) =
    switch_said (last_thread before) thread ++ nodes_said (stacks_after before) ips
before_event before thread (free id rejoined) = switch_said (last_thread before) thread

abbrev pub event_said : List Action → ℕ → Event → Content
event_said before thread (allocation id size ips) =
    raw_allocation_line size (number_in (with_suffixes (stacks_after before) ips) ips)
    (next_address (class_of size) (released thread id (places_after before)))
event_said before thread (free id rejoined) = raw_free_line (address_of thread id (places_after before))

-- those of actions that are listed from the last to the first, behind the lines of modules
abbrev pub opening_said : List Content → List Content
opening_said modules = version_line 66816 2 ∷ command_line (codes "heaprec") ∷ modules

abbrev pub trace_said : List Content → List Action → List Content
trace_said modules [] = opening_said modules
trace_said modules (action ∷ before) =
    (trace_said modules before ++ before_event before action.thread action.event)
    ++ event_said before action.thread action.event ∷ []

-- lines about modules as text
lines-append : (xs ys : List Content) → module_lines (xs ++ ys) ≡ module_lines xs ++ module_lines ys
lines-append [] ys = refl
lines-append (x ∷ xs) ys =
    ap (λ (rest : List ℕ). (written 2 x ++ 10 ∷ []) ++ rest) (lines-append xs ys)
    ∙ sym (append_assoc (written 2 x ++ 10 ∷ []) (module_lines xs) (module_lines ys))

one-line : (said : Content) → line_of said ≡ module_lines (said ∷ [])
one-line said = sym (append-nil (line_of said))

pub text-of : (said : List Content) → module_lines said ≡ text_of_lines (map (written 2) said)
text-of [] = refl
text-of (x ∷ xs) =
    append_assoc (written 2 x) (10 ∷ []) (module_lines xs)
    ∙ ap (λ (rest : List ℕ). written 2 x ++ 10 ∷ rest) (text-of xs)

-- the text of each part
thread-text : (thread : ℕ) → thread_line thread ≡ module_lines (thread_said thread ∷ [])
thread-text thread =
    sym (append_assoc (codes "# thread ") (decimal thread) (10 ∷ []))
    ∙ sym (append-nil ((codes "# thread " ++ decimal thread) ++ 10 ∷ []))

switch-text : (last : Option ℕ) (thread : ℕ) → switch_text last thread ≡ module_lines (switch_said last thread)
switch-text None thread = thread-text thread
switch-text (Some last) thread = by (last == thread)
  where
    by : (b : Bool) → cond b [] (thread_line thread) ≡ module_lines (cond b [] (thread_said thread ∷ []))
    by true = refl
    by false = thread-text thread

node-text : (known : List (List ℕ)) (ip : ℕ) (outer : List ℕ)
    → node_text known ip outer ≡ module_lines (node_said known ip outer)
node-text known ip outer = by (number_in known (ip ∷ outer) == 0)
  where
    by : (b : Bool)
        → cond b (line_of (node_line ip (number_in known outer))) []
        ≡ module_lines (cond b (node_line ip (number_in known outer) ∷ []) [])
    by true = one-line (node_line ip (number_in known outer))
    by false = refl

nodes-text : (known : List (List ℕ)) (ips : List ℕ) → nodes_text known ips ≡ module_lines (nodes_said known ips)
nodes-text known [] = refl
nodes-text known (ip ∷ outer) =
    ap₂ (λ (x y : List ℕ). x ++ y) (nodes-text known outer) (node-text (with_suffixes known outer) ip outer)
    ∙ sym (lines-append (nodes_said known outer) (node_said (with_suffixes known outer) ip outer))

action-text : (before : List Action) (thread : ℕ) (event : Event)
    → switch_text (last_thread before) thread ++ event_text (stacks_after before) (places_after before) thread event
    ≡ module_lines (before_event before thread event ++ event_said before thread event ∷ [])
action-text before thread (allocation id size ips) =
    let switch = switch_said (last_thread before) thread in
    let nodes = nodes_said (stacks_after before) ips in
    let own = event_said before thread (allocation id size ips) in
    ap₂ (λ (x y : List ℕ). x ++ y) (switch-text (last_thread before) thread)
    (ap₂ (λ (x y : List ℕ). x ++ y) (nodes-text (stacks_after before) ips) (one-line own))
    ∙ sym (append_assoc (module_lines switch) (module_lines nodes) (module_lines (own ∷ [])))
    ∙ ap (λ (front : List ℕ). front ++ module_lines (own ∷ [])) (sym (lines-append switch nodes))
    ∙ sym (lines-append (switch ++ nodes) (own ∷ []))
action-text before thread (free id rejoined) =
    let switch = switch_said (last_thread before) thread in
    let own = event_said before thread (free id rejoined) in
    ap₂ (λ (x y : List ℕ). x ++ y) (switch-text (last_thread before) thread) (one-line own)
    ∙ sym (lines-append switch (own ∷ []))

opening-text : (modules : List Content) → opening ++ module_lines modules ≡ module_lines (opening_said modules)
opening-text modules =
    ap (λ (v : List ℕ). (v ++ 10 ∷ []) ++ (codes "X heaprec\n" ++ module_lines modules)) version_written

-- the text of a trace
pub trace-text : (modules : List Content) (acts : List Action)
    → trace_text (module_lines modules) acts ≡ module_lines (trace_said modules acts)
trace-text modules [] = opening-text modules
trace-text modules (action ∷ before) =
    let rest = before_event before action.thread action.event in
    let own = event_said before action.thread action.event in
    ap₂ (λ (x y : List ℕ). x ++ y) (trace-text modules before) (action-text before action.thread action.event)
    ∙ sym (lines-append (trace_said modules before) (rest ++ own ∷ []))
    ∙ ap module_lines (sym (append_assoc (trace_said modules before) rest (own ∷ [])))

-- what the lines of a summary say
abbrev pub summary_said : Summary → List Content
summary_said s =
    comment_line (codes " threads: " ++ decimal s.threads) ∷ comment_line (codes " events: " ++ decimal s.events)
    ∷ comment_line (codes " calls: " ++ decimal s.calls)
    ∷ comment_line (codes " allocated: " ++ decimal s.allocated)
    ∷ comment_line (codes " leaked: " ++ (decimal s.leaked ++ (codes " in " ++ (decimal s.blocks ++ codes " blocks"))))
    ∷ comment_line
    (codes " peak: " ++ (decimal s.peak ++ (codes " from " ++ (decimal s.low ++ (codes " to " ++ decimal s.high)))))
    ∷ []

pub summary-said : (s : Summary) → summary_lines s ≡ map (written 2) (summary_said s)
summary-said s = refl
