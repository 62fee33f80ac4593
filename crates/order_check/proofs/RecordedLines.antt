-- What an entry more adds to a recording, and with which line that begins.
use Rattle.std.proofs.Common.{◌≡◌, ℕ, ◌-◌, ◌<◌, ◌≤◌, ◌==◌, Bool, true, false, cond, List, [], ◌∷◌, ◌++◌, length, Option}
use Rattle.std.proofs.Common.{None, Some, refl, sym, ap, ◌∙◌, subst, arith, append_assoc, append-nil, length-append}
use Rattle.std.specs.Prelude.{codes, decimal, slice_get}
use Rattle.std.specs.Option.{option_or}
use Rattle.std.proofs.lemmas.Bool.Decides.{nat_tests}
use Rattle.hp_num.specs.ParsedDec.{parsed_dec}
use Rattle.hp_num.proofs.Laws.{slice_get-end}
use Rattle.hp_outside.specs.WholeLines.{IsLineText, text_of_lines}
use Rattle.ht_lines.specs.Content.{node_line, raw_allocation_line, raw_free_line}
use Rattle.ht_lines.specs.Written.{spelled as digits_of, written}
use Rattle.record_scripts.specs.Events.{Event, allocation, free}
use Rattle.record_scripts.specs.Job.{Job}
use Rattle.record_scripts.specs.Turns.{Turn, frees}
use Rattle.record_book.specs.Actions.{Action, actions, events_at, times, with_event}
use Rattle.record_book.specs.HeapPlaces.{Place, address_of, class_of, next_address, places_after, released}
use Rattle.record_book.specs.NodeNumbers.{number_in, stacks_after, with_suffixes}
use Rattle.record_book.specs.RecordedTrace.{event_text, last_thread, line_of, node_text, nodes_text, opening, recorded}
use Rattle.record_book.specs.RecordedTrace.{switch_text, thread_line, trace_text}
use Rattle.record_book.specs.Spelled.{AreQuiet, named}
use Rattle.record_book.proofs.Laws.{actions-none, actions-push, kind-text, there, thread-named, thread-text}
use Rattle.record_book.proofs.Laws.{times-append, times-own, times-reverse, unnamed}
use Rattle.order_check.specs.Following.{last_entry}
use Rattle.order_check.proofs.LineTexts.{last-split}

-- an entry that means an event
pub push-text : (job : Job) (order : List ℕ) (thread : ℕ) (event : Event)
    → slice_get (events_at job.scripts thread) (times thread order) ≡ Some event
    → recorded job (order ++ thread ∷ []) ≡ recorded job order
    ++ (switch_text (last_thread (actions job.scripts order)) thread
    ++ event_text (stacks_after (actions job.scripts order)) (places_after (actions job.scripts order)) thread event)
push-text job order thread event at =
    let acts = actions job.scripts order in
    ap (λ (all : List Action). trace_text job.modules all)
    (actions-push job.scripts order thread
    ∙ ap (λ (count : ℕ). with_event thread (slice_get (events_at job.scripts thread) count) acts)
    (times-reverse thread order)
    ∙ ap (λ (found : Option Event). with_event thread found acts) at)

-- recordings grow
grow-one : (job : Job) (order : List ℕ) (thread : ℕ)
    → (more : List ℕ) × (recorded job (order ++ thread ∷ []) ≡ recorded job order ++ more)
grow-one job order thread = by (slice_get (events_at job.scripts thread) (times thread order)) refl
  where
    by : (found : Option Event) → slice_get (events_at job.scripts thread) (times thread order) ≡ found
        → (more : List ℕ) × (recorded job (order ++ thread ∷ []) ≡ recorded job order ++ more)
    by None at = (
      [],
      ap (λ (all : List Action). trace_text job.modules all)
          (actions-push job.scripts order thread
          ∙ ap
          (λ (count : ℕ). with_event thread (slice_get (events_at job.scripts thread) count)
          (actions job.scripts order))
          (times-reverse thread order)
          ∙ ap (λ (found : Option Event). with_event thread found (actions job.scripts order)) at)
          ∙ sym (append-nil (recorded job order)),
    )
    by (Some event) at = (_, push-text job order thread event at)

pub grows : (job : Job) (order rest : List ℕ)
    → (more : List ℕ) × (recorded job (order ++ rest) ≡ recorded job order ++ more)
grows job order [] =
    ([], ap (λ (entries : List ℕ). recorded job entries) (append-nil order) ∙ sym (append-nil (recorded job order)))
grows job order (thread ∷ rest) =
    let one = grow-one job order thread in
    let all = grows job (order ++ thread ∷ []) rest in (
      one.0 ++ all.0,
      ap (λ (entries : List ℕ). recorded job entries) (sym (append_assoc order (thread ∷ []) rest)) ∙ all.1
          ∙ ap (λ (front : List ℕ). front ++ all.0) one.1 ∙ append_assoc (recorded job order) one.0 all.0,
    )

-- a text that ends with a line feed
abbrev pub EndsLine : List ℕ → Type 0
EndsLine text = (front : List ℕ) × (text ≡ front ++ 10 ∷ [])

ends-behind : (xs ys : List ℕ) → EndsLine ys → EndsLine (xs ++ ys)
ends-behind xs ys ends =
    (xs ++ ends.0, ap (λ (rest : List ℕ). xs ++ rest) ends.1 ∙ sym (append_assoc xs ends.0 (10 ∷ [])))

ends-lines : (line : List ℕ) (lines : List (List ℕ)) → EndsLine (text_of_lines (line ∷ lines))
ends-lines line [] = (line, refl)
ends-lines line (next ∷ lines) =
    ends-behind line (10 ∷ text_of_lines (next ∷ lines))
    (ends-behind (10 ∷ []) (text_of_lines (next ∷ lines)) (ends-lines next lines))

ends-opening : (lines : List (List ℕ)) → EndsLine (opening ++ text_of_lines lines)
ends-opening [] = (codes "v 10500 2\nX heaprec", refl)
ends-opening (line ∷ lines) = ends-behind opening (text_of_lines (line ∷ lines)) (ends-lines line lines)

ends-event : (known : List (List ℕ)) (places : List Place) (thread : ℕ) (event : Event)
    → EndsLine (event_text known places thread event)
ends-event known places thread (allocation id size ips) =
    let said =
    raw_allocation_line size (number_in (with_suffixes known ips) ips)
    (next_address (class_of size) (released thread id places)) in
    ends-behind (nodes_text known ips) (line_of said) (written 2 said, refl)
ends-event known places thread (free id rejoined) = (written 2 (raw_free_line (address_of thread id places)), refl)

ends-trace : (modules : List ℕ) (acts : List Action) → AreQuiet modules → EndsLine (trace_text modules acts)
ends-trace modules [] quiet = subst (λ (text : List ℕ). EndsLine (opening ++ text)) (sym quiet.2) (ends-opening quiet.0)
ends-trace modules (action ∷ before) quiet =
    ends-behind (trace_text modules before)
    (switch_text (last_thread before) action.thread
    ++ event_text (stacks_after before) (places_after before) action.thread action.event)
    (ends-behind (switch_text (last_thread before) action.thread)
    (event_text (stacks_after before) (places_after before) action.thread action.event)
    (ends-event (stacks_after before) (places_after before) action.thread action.event))

pub ends-recorded : (job : Job) (order : List ℕ) → AreQuiet job.modules → EndsLine (recorded job order)
ends-recorded job order quiet = ends-trace job.modules (actions job.scripts order) quiet

-- the first line of an event names no thread
record PlainFirst (text : List ℕ) : Type 0 where
  line : List ℕ
  more : List ℕ
  text_is : text ≡ line ++ (10 ∷ more)
  is_text : IsLineText line
  no_thread : named line ≡ None

first-of-line : (line rest : List ℕ) → IsLineText line → named line ≡ None → PlainFirst ((line ++ 10 ∷ []) ++ rest)
first-of-line line rest text none =
    record { line = line; more = rest; text_is = append_assoc line (10 ∷ []) rest; is_text = text; no_thread = none }

first-node : (known : List (List ℕ)) (ips rest : List ℕ) → PlainFirst rest → PlainFirst (nodes_text known ips ++ rest)
first-node known [] rest first = first
first-node known (ip ∷ outer) rest first =
    subst PlainFirst (sym (append_assoc (nodes_text known outer) (node_text (with_suffixes known outer) ip outer) rest))
    (first-node known outer (node_text (with_suffixes known outer) ip outer ++ rest)
    (by (number_in (with_suffixes known outer) (ip ∷ outer) == 0)))
  where
    by : (t : Bool)
        → PlainFirst (cond t (line_of (node_line ip (number_in (with_suffixes known outer) outer))) [] ++ rest)
    by true =
        let ns = ip ∷ number_in (with_suffixes known outer) outer ∷ [] in
        first-of-line (116 ∷ digits_of ns) rest (kind-text 116 ns (λ e. omega (arith, e)))
        (unnamed 116 (digits_of ns) refl)
    by false = first

first-event : (known : List (List ℕ)) (places : List Place) (thread : ℕ) (event : Event) (rest : List ℕ)
    → PlainFirst (event_text known places thread event ++ rest)
first-event known places thread (allocation id size ips) rest =
    let trace = number_in (with_suffixes known ips) ips in
    let ptr = next_address (class_of size) (released thread id places) in
    let ns = size ∷ trace ∷ ptr ∷ [] in
    subst PlainFirst (sym (append_assoc (nodes_text known ips) (line_of (raw_allocation_line size trace ptr)) rest))
    (first-node known ips (line_of (raw_allocation_line size trace ptr) ++ rest)
    (first-of-line (43 ∷ digits_of ns) rest (kind-text 43 ns (λ e. omega (arith, e))) (unnamed 43 (digits_of ns) refl)))
first-event known places thread (free id rejoined) rest =
    let ns = address_of thread id places ∷ [] in
    first-of-line (45 ∷ digits_of ns) rest (kind-text 45 ns (λ e. omega (arith, e))) (unnamed 45 (digits_of ns) refl)

-- a text begins with a line that calls for a turn of the thread, behind an event of the last one
pub record CallsFor (last : Option ℕ) (thread : ℕ) (text : List ℕ) : Type 0 where
  pub line : List ℕ
  pub more : List ℕ
  pub text_is : text ≡ line ++ (10 ∷ more)
  pub is_text : IsLineText line
  pub thread_is : option_or (named line) last ≡ Some thread

calls-named : (last : Option ℕ) (thread : ℕ) (text : List ℕ) → parsed_dec (decimal thread) ≡ Some thread
    → CallsFor last thread (thread_line thread ++ text)
calls-named last thread text reads = record {
  line = codes "# thread " ++ decimal thread;
  more = text;
  text_is =
      append_assoc (codes "# thread ") (decimal thread ++ 10 ∷ []) text
      ∙ ap (λ (rest : List ℕ). codes "# thread " ++ rest) (append_assoc (decimal thread) (10 ∷ []) text)
      ∙ sym (append_assoc (codes "# thread ") (decimal thread) (10 ∷ text));
  is_text = thread-text thread;
  thread_is = ap (λ (found : Option ℕ). option_or found last) (thread-named thread reads);
}

calls-for : (last : Option ℕ) (thread : ℕ) (text : List ℕ) → parsed_dec (decimal thread) ≡ Some thread → PlainFirst text
    → CallsFor last thread (switch_text last thread ++ text)
calls-for None thread text reads first = calls-named None thread text reads
calls-for (Some last) thread text reads first = by (last == thread) refl
  where
    by : (t : Bool) → (last == thread) ≡ t → CallsFor (Some last) thread (cond t [] (thread_line thread) ++ text)
    by true p = record {
      line = first.line;
      more = first.more;
      text_is = first.text_is;
      is_text = first.is_text;
      thread_is =
          let same : last ≡ thread =
          grind (arith, nat_tests, p) in ap (λ (found : Option ℕ). option_or found (Some last)) first.no_thread
          ∙ ap (λ (n : ℕ). Some n) same;
    }
    by false p = calls-named (Some last) thread text reads

-- what an entry that means an event adds begins so, whatever stands behind it
pub push-calls : (job : Job) (order : List ℕ) (thread : ℕ) (event : Event) (rest : List ℕ)
    → parsed_dec (decimal thread) ≡ Some thread
    → CallsFor (last_thread (actions job.scripts order)) thread
    ((switch_text (last_thread (actions job.scripts order)) thread
    ++ event_text (stacks_after (actions job.scripts order)) (places_after (actions job.scripts order)) thread
    event)
    ++ rest)
push-calls job order thread event rest reads =
    let acts = actions job.scripts order in
    let said = event_text (stacks_after acts) (places_after acts) thread event in
    subst (CallsFor (last_thread acts) thread) (sym (append_assoc (switch_text (last_thread acts) thread) said rest))
    (calls-for (last_thread acts) thread (said ++ rest) reads
    (first-event (stacks_after acts) (places_after acts) thread event rest))

-- the thread of the last event is the last entry
pub once : (thread : ℕ) → times thread (thread ∷ []) ≡ 1
once thread = times-own thread (frees 0)

last-pushed : (scripts : List (List Turn)) (front : List ℕ) (thread : ℕ)
    → times thread (front ++ thread ∷ []) ≤ length (events_at scripts thread)
    → last_thread (actions scripts (front ++ thread ∷ [])) ≡ last_entry (front ++ thread ∷ [])
last-pushed scripts front thread few =
    let below : times thread front < length (events_at scripts thread) =
    omega (arith, few, times-append thread front (thread ∷ []), once thread) in
    let found = there (events_at scripts thread) (times thread front) below in
    ap last_thread (actions-push scripts front thread
    ∙ ap (λ (count : ℕ). with_event thread (slice_get (events_at scripts thread) count) (actions scripts front))
    (times-reverse thread front)
    ∙ ap (λ (event : Option Event). with_event thread event (actions scripts front)) found.1)
    ∙ sym (slice_get-end front thread (length (front ++ thread ∷ []) - 1)
    (omega (arith, length-append front (thread ∷ []))))

pub last-thread : (scripts : List (List Turn)) (order : List ℕ)
    → ((thread : ℕ) → times thread order ≤ length (events_at scripts thread))
    → last_thread (actions scripts order) ≡ last_entry order
last-thread scripts [] few = ap last_thread (actions-none scripts)
last-thread scripts (entry ∷ order) few =
    let split = last-split entry order in
    subst (λ (entries : List ℕ). last_thread (actions scripts entries) ≡ last_entry entries) (sym split.2)
    (last-pushed scripts split.0 split.1
    (subst (λ (entries : List ℕ). times split.1 entries ≤ length (events_at scripts split.1)) split.2 (few split.1)))
