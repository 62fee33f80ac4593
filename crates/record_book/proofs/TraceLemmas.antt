-- A trace with one turn more.
use Rattle.std.proofs.Common.{◌≡◌, ℕ, ◌≤◌, ◌==◌, Bool, true, false, cond, List, [], ◌++◌, length, Option, Some, refl}
use Rattle.std.proofs.Common.{sym, ap, ap₂, ◌∙◌, subst, arith, append_assoc}
use Rattle.std.specs.Prelude.{Result, Ok, Err, OnOk}
use Rattle.std.proofs.lemmas.Bool.Decides.{nat_tests}
use Rattle.ht_lines.specs.Content.{raw_allocation_line, raw_free_line}
use Rattle.stack_table.specs.AreNodes.{AreNodes}
use Rattle.stack_table.specs.Node.{Node}
use Rattle.stack_table.specs.Stack.{frame_count, stack, stack_nodes}
use Rattle.record_scripts.specs.Events.{allocation, free}
use Rattle.record_scripts.specs.Turns.{Turn, allocates, frees, reallocates}
use Rattle.record_book.specs.declared.trace.Trace.{Trace}
use Rattle.record_book.specs.Actions.{Action}
use Rattle.record_book.specs.HeapPlaces.{Place, address_of, class_of, next_address, placed, places_after, released}
use Rattle.record_book.specs.HeapState.{IsHeap}
use Rattle.record_book.specs.NodeNumbers.{number_in, stacks_after, with_suffixes}
use Rattle.record_book.specs.NodeState.{ArePut}
use Rattle.record_book.specs.RecordedTrace.{event_text, last_thread, line_of, nodes_text, switch_text, thread_line}
use Rattle.record_book.specs.RecordedTrace.{trace_text}
use Rattle.record_book.specs.TraceState.{HasTurn, IsTrace, with_turn}
use Rattle.record_book.proofs.HeapLemmas.{released-twice}

-- the law of no nodes
pub law-none : AreNodes []
unfolding stack stack_nodes frame_count
law-none = record {
  parents = record { lower = λ n node at. absurd (grind (arith, nat_tests, at)) };
  stack_0 = refl;
  stack_n = λ n node at. absurd (grind (arith, nat_tests, at));
  frames_0 = refl;
  frames_n = λ n node at. absurd (grind (arith, nat_tests, at));
  few_frames = λ n within. omega arith;
}

-- the lines of an allocation
pub allocation-text : (before mid after : List ℕ) (known : List (List ℕ)) (ips : List ℕ) (nodes : List Node)
    (node size ptr : ℕ) (places : List Place) (thread id : ℕ)
    → ArePut known ips nodes node before mid
    → node ≤ length nodes → ptr ≡ next_address (class_of size) (released thread id places)
    → after ≡ mid ++ line_of (raw_allocation_line size node ptr)
    → after ≡ before ++ event_text known places thread (allocation id size ips)
allocation-text before mid after known ips nodes node size ptr places thread id put within next wrote =
    let number : node ≡ number_in (with_suffixes known ips) ips =
    sym (put.numbered.numbers node within) ∙ ap (number_in (with_suffixes known ips)) put.stack_is in
    wrote ∙ ap (λ (text : List ℕ). text ++ line_of (raw_allocation_line size node ptr)) put.text
    ∙ ap₂ (λ (n p : ℕ). (before ++ nodes_text known ips) ++ line_of (raw_allocation_line size n p)) number next
    ∙ append_assoc before (nodes_text known ips)
    (line_of (raw_allocation_line size (number_in (with_suffixes known ips) ips)
    (next_address (class_of size) (released thread id places))))

-- the events of a reallocation: its free, and then its allocation in the places that are left
pub reallocation : (before mid : List ℕ) (trace : Trace) (known : List (List ℕ)) (places : List Place)
    (thread id size : ℕ) (ips : List ℕ)
    → mid ≡ before ++ line_of (raw_free_line (address_of thread id places))
    → HasTurn mid trace known places thread (allocates id size ips)
    → HasTurn before trace known places thread (reallocates id size ips)
reallocation before mid trace known places thread id size ips freed has =
    let twice : released thread id places ≡ released thread id (released thread id places) =
    sym (released-twice thread id places) in
    record {
      text_is =
          has.text_is ∙ ap (λ (text : List ℕ). text ++ event_text known places thread (allocation id size ips)) freed
          ∙ append_assoc before (line_of (raw_free_line (address_of thread id places)))
          (event_text known places thread (allocation id size ips))
          ∙ ap (λ (left : List Place). before ++ (line_of (raw_free_line (address_of thread id places))
          ++ (nodes_text known ips
          ++ line_of
          (raw_allocation_line size (number_in (with_suffixes known ips) ips) (next_address (class_of size) left)))))
          twice;
      nodes_are = has.nodes_are;
      heap_is =
          subst (λ (left : List Place). IsHeap trace.heap
          (placed (record { thread = thread; id = id; size = size }) left)) twice has.heap_is;
    }

switch-none : (thread : ℕ) → switch_text (Some thread) thread ≡ []
switch-none thread = by (thread == thread) refl
  where
    by : (b : Bool) → (thread == thread) ≡ b → cond b [] (thread_line thread) ≡ []
    by true p = refl
    by false p = absurd (grind (arith, nat_tests, p))

-- the text with the lines of an event behind that of its thread, all behind what was let go
text-step : (gone old switched new text : List ℕ) (modules : List ℕ) (actions : List Action) (last : Option ℕ)
    (thread : ℕ)
    → gone ++ old ≡ trace_text modules actions → last ≡ last_thread actions
    → switched ≡ old ++ switch_text last thread → new ≡ switched ++ text
    → gone ++ new ≡ trace_text modules actions ++ (switch_text (last_thread actions) thread ++ text)
text-step gone old switched new text modules actions last thread old_is last_is switch added =
    ap (λ (rest : List ℕ). gone ++ rest)
    (added ∙ ap (λ (front : List ℕ). front ++ text) switch ∙ append_assoc old (switch_text last thread) text)
    ∙ sym (append_assoc gone old (switch_text last thread ++ text))
    ∙ ap₂ (λ (front : List ℕ) (at : Option ℕ). front ++ (switch_text at thread ++ text)) old_is last_is

-- the trace with the lines of a turn behind that of its thread
pub turn-added : (gone : List ℕ) (old new : Trace) (switched : List ℕ) (modules : List ℕ) (actions : List Action)
    (thread : ℕ) (turn : Turn)
    → IsTrace gone old modules actions
    → switched ≡ old.text.items ++ switch_text old.last thread
    → HasTurn switched new (stacks_after actions) (places_after actions) thread turn
    → IsTrace gone (record new { last = Some thread }) modules (with_turn thread turn actions)
turn-added gone old new switched modules actions thread (allocates id size ips) is switch has = record {
  text_is =
      text-step gone old.text.items switched new.text.items
      (event_text (stacks_after actions) (places_after actions) thread (allocation id size ips)) modules actions
      old.last thread is.text_is is.last_is switch has.text_is;
  nodes_are = has.nodes_are;
  heap_is = has.heap_is;
  last_is = refl;
}
turn-added gone old new switched modules actions thread (frees id) is switch has = record {
  text_is =
      text-step gone old.text.items switched new.text.items
      (event_text (stacks_after actions) (places_after actions) thread (free id false)) modules actions old.last thread
      is.text_is is.last_is switch has.text_is;
  nodes_are = has.nodes_are;
  heap_is = has.heap_is;
  last_is = refl;
}
turn-added gone old new switched modules actions thread (reallocates id size ips) is switch has =
    let whole = trace_text modules actions in
    let named = switch_text (last_thread actions) thread in
    let freed = event_text (stacks_after actions) (places_after actions) thread (free id true) in
    let allocated =
    event_text (stacks_after actions) (released thread id (places_after actions)) thread (allocation id size ips) in
    record {
      text_is =
          text-step gone old.text.items switched new.text.items (freed ++ allocated) modules actions old.last thread
          is.text_is is.last_is switch has.text_is
          ∙ ap (λ (text : List ℕ). whole ++ text) (sym (append_assoc named freed allocated))
          ∙ sym (append_assoc whole (named ++ freed) allocated)
          ∙ ap (λ (none : List ℕ). (whole ++ (named ++ freed)) ++ (none ++ allocated)) (sym (switch-none thread));
      nodes_are = has.nodes_are;
      heap_is = has.heap_is;
      last_is = refl;
    }

pub on-ok : {X E : Type 0} (r : Result X E) (P Q : Type 0) → (P → Q) → OnOk r P → OnOk r Q
on-ok (Ok x) P Q f p = f p
on-ok (Err e) P Q f p = tt
