-- What the lines of a recording spell.
use Rattle.std.proofs.Common.{◌≡◌, ◌≢◌, ℕ, zero, suc, ◌+◌, ◌^◌, ◌<◌, ◌≤◌, ◌==◌, ◌⊎◌, inl, inr, Bool, true, false, cond}
use Rattle.std.proofs.Common.{List, [], ◌∷◌, ◌++◌, length, reverse, Option, None, Some, refl, sym, ap, ap₂, ◌∙◌, subst}
use Rattle.std.proofs.Common.{arith, append_assoc, append-nil}
use Rattle.std.specs.Prelude.{codes, decimal, slice_get, unwrap_or}
use Rattle.std.specs.List.{AllByRecursion}
use Rattle.std.proofs.lemmas.Bool.{cases_lt}
use Rattle.std.proofs.lemmas.Bool.Decides.{nat_tests}
use Rattle.std.proofs.lemmas.List.{reverse-append}
use Rattle.std.proofs.lemmas.List.Elements.{All-head, All-tail}
use Rattle.std.proofs.lemmas.Option.{slice_get_within}
use Rattle.hp_num.specs.ParsedDec.{parsed_dec}
use Rattle.hp_outside.specs.Lines.{lines_of, put_first}
use Rattle.hp_outside.specs.WholeLines.{IsLineText, text_of_lines}
use Rattle.ht_lines.specs.Content.{node_line, raw_allocation_line}
use Rattle.record_scripts.specs.Events.{Event, allocation, free}
use Rattle.record_scripts.specs.Job.{Job}
use Rattle.record_scripts.specs.Turns.{Turn}
use Rattle.record_book.specs.Actions.{Action, actions, actions_back, events_at, times, with_event}
use Rattle.record_book.specs.HeapPlaces.{Place, address_of, class_of, next_address, places_after, released}
use Rattle.record_book.specs.NodeNumbers.{number_in, stacks_after, with_suffixes}
use Rattle.record_book.specs.Orders.{IsUnder}
use Rattle.record_book.specs.RecordedTrace.{event_text, last_thread, line_of, node_text, nodes_text, opening, recorded}
use Rattle.record_book.specs.RecordedTrace.{switch_text, thread_line, trace_text}
use Rattle.record_book.specs.Spelled.{AreQuiet, IsQuiet, behind, is_event, named, number_of, spelled, spelled_by}
use Rattle.record_book.proofs.LineTexts.{both-text, digits-text, kind-text, literal-text}

-- a line and what stands behind it
pub line-of : (line more : List ℕ) → IsLineText line → lines_of (line ++ (10 ∷ more)) ≡ line ∷ lines_of more
line-of [] more text = refl
line-of (b ∷ line) more text =
    by (b == 10) refl (All-head (λ b. b ≢ 10) b line text)
    ∙ ap (put_first b) (line-of line more (All-tail (λ b. b ≢ 10) b line text))
  where
    by : (t : Bool) → (b == 10) ≡ t → b ≢ 10
        → cond (b == 10) ([] ∷ lines_of (line ++ (10 ∷ more))) (put_first b (lines_of (line ++ (10 ∷ more))))
        ≡ put_first b (lines_of (line ++ (10 ∷ more)))
    by true p other = absurd (other (grind (arith, nat_tests, p)))
    by false p other =
        ap (λ (t : Bool). cond t ([] ∷ lines_of (line ++ (10 ∷ more))) (put_first b (lines_of (line ++ (10 ∷ more))))) p

-- behind a thread, the bytes are whole lines that spell these entries, and name the next thread last
abbrev Spells : ℕ → List ℕ → List ℕ → ℕ → Type 0
Spells thread bytes entries next =
    (more : List ℕ) → spelled_by thread (lines_of (bytes ++ more)) ≡ entries ++ spelled_by next (lines_of more)

spells-none : (thread : ℕ) → Spells thread [] [] thread
spells-none thread = λ more. refl

spells-both : (thread mid next : ℕ) (xs ys : List ℕ) (entries others : List ℕ) → Spells thread xs entries mid
    → Spells mid ys others next → Spells thread (xs ++ ys) (entries ++ others) next
spells-both thread mid next xs ys entries others a b = λ more.
    ap (λ (bytes : List ℕ). spelled_by thread (lines_of bytes)) (append_assoc xs ys more) ∙ a (ys ++ more)
    ∙ ap (λ (rest : List ℕ). entries ++ rest) (b more)
    ∙ sym (append_assoc entries others (spelled_by next (lines_of more)))

whole-line : (line more : List ℕ) → IsLineText line → lines_of ((line ++ (10 ∷ [])) ++ more) ≡ line ∷ lines_of more
whole-line line more text =
    ap (λ (bytes : List ℕ). lines_of bytes) (append_assoc line (10 ∷ []) more) ∙ line-of line more text

spells-quiet : (thread : ℕ) (line : List ℕ) → IsQuiet line → Spells thread (line ++ (10 ∷ [])) [] thread
spells-quiet thread line quiet = λ more.
    ap (λ (lines : List (List ℕ)). spelled_by thread lines) (whole-line line more quiet.text)
    ∙ ap₂ (λ (t : Bool) (n : Option ℕ). cond t (thread ∷ spelled_by thread (lines_of more))
    (spelled_by (unwrap_or n thread) (lines_of more))) quiet.no_event quiet.no_thread

spells-event : (thread : ℕ) (line : List ℕ) → IsLineText line → is_event line ≡ true
    → Spells thread (line ++ (10 ∷ [])) (thread ∷ []) thread
spells-event thread line text event = λ more.
    ap (λ (lines : List (List ℕ)). spelled_by thread lines) (whole-line line more text)
    ∙ ap (λ (t : Bool). cond t (thread ∷ spelled_by thread (lines_of more))
    (spelled_by (unwrap_or (named line) thread) (lines_of more))) event

-- the line that names a thread
pub thread-text : (thread : ℕ) → IsLineText (codes "# thread " ++ decimal thread)
thread-text thread =
    both-text (codes "# thread ") (decimal thread) (literal-text (codes "# thread ") refl) (digits-text 10 thread)

pub thread-named : (thread : ℕ) → parsed_dec (decimal thread) ≡ Some thread
    → named (codes "# thread " ++ decimal thread) ≡ Some thread
unfolding named
thread-named thread reads = reads

spells-thread : (thread next : ℕ) → parsed_dec (decimal next) ≡ Some next → Spells thread (thread_line next) [] next
spells-thread thread next reads = λ more.
    ap (λ (bytes : List ℕ). spelled_by thread (lines_of bytes))
    (append_assoc (codes "# thread ") (decimal next ++ (10 ∷ [])) more
    ∙ ap (λ (rest : List ℕ). codes "# thread " ++ rest) (append_assoc (decimal next) (10 ∷ []) more)
    ∙ sym (append_assoc (codes "# thread ") (decimal next) (10 ∷ more)))
    ∙ ap (λ (lines : List (List ℕ)). spelled_by thread lines)
    (line-of (codes "# thread " ++ decimal next) more (thread-text next))
    ∙ ap (λ (n : Option ℕ). spelled_by (unwrap_or n thread) (lines_of more)) (thread-named next reads)

-- the lines of nodes, and of events
pub unnamed : (kind : ℕ) (rest : List ℕ) → (35 == kind) ≡ false → named (kind ∷ rest) ≡ None
unfolding named
unnamed kind rest p = ap (λ (t : Bool). number_of (cond t (behind (codes " thread ") rest) None)) p

spells-node : (thread ip parent : ℕ) → Spells thread (line_of (node_line ip parent)) [] thread
spells-node thread ip parent =
    let line = 116 ∷ Rattle.ht_lines.specs.Written.spelled (ip ∷ parent ∷ []) in
    spells-quiet thread line
    (record {
      text = kind-text 116 (ip ∷ parent ∷ []) (λ e. omega (arith, e));
      no_event = refl;
      no_thread = unnamed 116 _ refl;
    })

spells-nodes : (thread : ℕ) (known : List (List ℕ)) (ips : List ℕ) → Spells thread (nodes_text known ips) [] thread
spells-nodes thread known [] = spells-none thread
spells-nodes thread known (ip ∷ outer) =
    spells-both thread thread thread (nodes_text known outer) (node_text (with_suffixes known outer) ip outer) [] []
    (spells-nodes thread known outer)
    (by (number_in (with_suffixes known outer) (ip ∷ outer) == 0))
  where
    by : (t : Bool)
        → Spells thread (cond t (line_of (node_line ip (number_in (with_suffixes known outer) outer))) []) [] thread
    by true = spells-node thread ip (number_in (with_suffixes known outer) outer)
    by false = spells-none thread

spells-action : (known : List (List ℕ)) (places : List Place) (thread : ℕ) (event : Event)
    → Spells thread (event_text known places thread event) (thread ∷ []) thread
spells-action known places thread (allocation id size ips) =
    let trace = number_in (with_suffixes known ips) ips in
    let ptr = next_address (class_of size) (released thread id places) in
    spells-both thread thread thread (nodes_text known ips) (line_of (raw_allocation_line size trace ptr)) []
    (thread ∷ []) (spells-nodes thread known ips)
    (spells-event thread (43 ∷ Rattle.ht_lines.specs.Written.spelled (size ∷ trace ∷ ptr ∷ []))
    (kind-text 43 (size ∷ trace ∷ ptr ∷ []) (λ e. omega (arith, e))) refl)
spells-action known places thread (free id rejoined) =
    let ptr = address_of thread id places in
    spells-event thread (45 ∷ Rattle.ht_lines.specs.Written.spelled (ptr ∷ []))
    (kind-text 45 (ptr ∷ []) (λ e. omega (arith, e))) refl

-- the line of the thread, where it is another than the last one's
abbrev last_or_0 : List Action → ℕ
last_or_0 before = unwrap_or (last_thread before) 0

spells-switch : (before : List Action) (thread : ℕ) → parsed_dec (decimal thread) ≡ Some thread
    → Spells (last_or_0 before) (switch_text (last_thread before) thread) [] thread
spells-switch [] thread reads = spells-thread 0 thread reads
spells-switch (action ∷ before) thread reads = by (action.thread == thread) refl
  where
    by : (t : Bool) → (action.thread == thread) ≡ t → Spells action.thread (cond t [] (thread_line thread)) [] thread
    by true p =
        let same : action.thread ≡ thread =
        grind (arith, nat_tests, p) in subst (λ (next : ℕ). Spells action.thread [] [] next) same
        (spells-none action.thread)
    by false p = spells-thread action.thread thread reads

-- lines that are quiet
spells-lines : (thread : ℕ) (lines : List (List ℕ)) → AllByRecursion IsQuiet lines
    → Spells thread (text_of_lines lines) [] thread
spells-lines thread [] quiet = spells-none thread
spells-lines thread (line ∷ lines) quiet =
    subst (λ (bytes : List ℕ). Spells thread bytes [] thread) (append_assoc line (10 ∷ []) (text_of_lines lines))
    (spells-both thread thread thread (line ++ (10 ∷ [])) (text_of_lines lines) [] [] (spells-quiet thread line quiet.0)
    (spells-lines thread lines quiet.1))

spells-opening : Spells 0 opening [] 0
unfolding named
spells-opening = λ more. refl

-- the threads of actions, in their order
abbrev pub threads_of : List Action → List ℕ
threads_of [] = []
threads_of (action ∷ before) = threads_of before ++ action.thread ∷ []

spells-trace : (modules : List ℕ) (acts : List Action) → AreQuiet modules
    → AllByRecursion (λ action. parsed_dec (decimal action.thread) ≡ Some action.thread) acts
    → Spells 0 (trace_text modules acts) (threads_of acts) (last_or_0 acts)
spells-trace modules [] quiet read =
    spells-both 0 0 0 opening modules [] [] spells-opening
    (subst (λ (bytes : List ℕ). Spells 0 bytes [] 0) (sym quiet.2) (spells-lines 0 quiet.0 quiet.1))
spells-trace modules (action ∷ before) quiet read =
    let event = event_text (stacks_after before) (places_after before) action.thread action.event in
    spells-both 0 (last_or_0 before) action.thread (trace_text modules before)
    (switch_text (last_thread before) action.thread ++ event) (threads_of before) (action.thread ∷ [])
    (spells-trace modules before quiet read.1)
    (spells-both (last_or_0 before) action.thread action.thread (switch_text (last_thread before) action.thread) event
    [] (action.thread ∷ [])
    (spells-switch before action.thread read.0)
    (spells-action (stacks_after before) (places_after before) action.thread action.event))

-- the threads of the actions that an order means are the order
pub there : {X : Type 0} (xs : List X) (k : ℕ) → k < length xs → (x : X) × (slice_get xs k ≡ Some x)
there [] k within = absurd (omega (arith, within))
there (x ∷ xs) zero within = (x, refl)
there (x ∷ xs) (suc k) within = there xs k (omega (arith, within))

pub none-at : (scripts : List (List Turn)) (thread : ℕ) → length scripts ≤ thread
    → length (events_at scripts thread) ≡ 0
none-at [] thread past = refl
none-at (script ∷ scripts) zero past = absurd (omega (arith, past))
none-at (script ∷ scripts) (suc thread) past = none-at scripts thread (omega (arith, past))

times-own : (thread : ℕ) (back : List ℕ) → times thread (thread ∷ back) ≡ 1 + times thread back
times-own thread back = by (thread == thread) refl
  where
    by : (b : Bool) → (thread == thread) ≡ b → cond (thread == thread) 1 0 + times thread back ≡ 1 + times thread back
    by true p = ap (λ (t : Bool). cond t 1 0 + times thread back) p
    by false p = absurd (grind (arith, nat_tests, p))

threads-back : (scripts : List (List Turn)) (back : List ℕ)
    → ((thread : ℕ) → times thread back ≤ length (events_at scripts thread))
    → threads_of (actions_back scripts back) ≡ reverse back
threads-back scripts [] few = refl
threads-back scripts (entry ∷ back) few =
    let within : times entry back < length (events_at scripts entry) = omega (arith, few entry, times-own entry back) in
    let found = there (events_at scripts entry) (times entry back) within in
    ap (λ (event : Option Event). threads_of (with_event entry event (actions_back scripts back))) found.1
    ∙ ap (λ (front : List ℕ). front ++ entry ∷ []) (threads-back scripts back (λ thread. omega (arith, few thread)))
    ∙ sym (reverse-append (entry ∷ []) back)

times-append : (thread : ℕ) (xs ys : List ℕ) → times thread (xs ++ ys) ≡ times thread xs + times thread ys
times-append thread [] ys = omega arith
times-append thread (x ∷ xs) ys = omega (arith, times-append thread xs ys)

times-reverse : (thread : ℕ) (xs : List ℕ) → times thread (reverse xs) ≡ times thread xs
times-reverse thread [] = refl
times-reverse thread (x ∷ xs) =
    ap (times thread) (reverse-append (x ∷ []) xs) ∙ times-append thread (reverse xs) (x ∷ [])
    ∙ omega (arith, times-reverse thread xs)

reverse-twice : (xs : List ℕ) → reverse (reverse xs) ≡ xs
reverse-twice [] = refl
reverse-twice (x ∷ xs) =
    ap (λ (ys : List ℕ). reverse ys) (reverse-append (x ∷ []) xs) ∙ reverse-append (reverse xs) (x ∷ [])
    ∙ ap (λ (ys : List ℕ). x ∷ ys) (reverse-twice xs)

pub threads-order : (scripts : List (List Turn)) (order : List ℕ) → IsUnder scripts order
    → threads_of (actions scripts order) ≡ order
unfolding actions
threads-order scripts order under =
    threads-back scripts (reverse order) (λ thread. omega (arith, times-reverse thread order, under.at_most thread))
    ∙ reverse-twice order

-- all threads are read again
read-back : (scripts : List (List Turn)) (back : List ℕ) → ((n : ℕ) → n < 2 ^ 64 → parsed_dec (decimal n) ≡ Some n)
    → length scripts ≤ 64
    → AllByRecursion (λ action. parsed_dec (decimal action.thread) ≡ Some action.thread) (actions_back scripts back)
read-back scripts [] reads few = tt
read-back scripts (entry ∷ back) reads few =
    by (read-back scripts back reads few) (slice_get (events_at scripts entry) (times entry back)) refl
  where
    small : (event : Event) → slice_get (events_at scripts entry) (times entry back) ≡ Some event
        → (entry < length scripts) ⊎ (length scripts ≤ entry) → entry < 2 ^ 64
    small event at (inl less) = omega (arith, less, few)
    small event at (inr past) =
        absurd (omega
        (arith, slice_get_within (events_at scripts entry) (times entry back) event at, none-at scripts entry past))

    by : AllByRecursion (λ action. parsed_dec (decimal action.thread) ≡ Some action.thread) (actions_back scripts back)
        → (event : Option Event)
        → slice_get (events_at scripts entry) (times entry back) ≡ event
        → AllByRecursion (λ action. parsed_dec (decimal action.thread) ≡ Some action.thread)
        (with_event entry event (actions_back scripts back))
    by rest None at = rest
    by rest (Some event) at = (reads entry (small event at (cases_lt entry (length scripts))), rest)

read-order : (scripts : List (List Turn)) (order : List ℕ) → ((n : ℕ) → n < 2 ^ 64 → parsed_dec (decimal n) ≡ Some n)
    → length scripts ≤ 64
    → AllByRecursion (λ action. parsed_dec (decimal action.thread) ≡ Some action.thread) (actions scripts order)
unfolding actions
read-order scripts order reads few = read-back scripts (reverse order) reads few

-- the laws
pub spelled-more : (job : Job) (order more : List ℕ) → ((n : ℕ) → n < 2 ^ 64 → parsed_dec (decimal n) ≡ Some n)
    → length job.scripts ≤ 64 → AreQuiet job.modules → IsUnder job.scripts order
    → AreQuiet more → spelled (recorded job order ++ more) ≡ order
spelled-more job order more reads few quiet under rest =
    let acts = actions job.scripts order in
    let behind_it : Spells (last_or_0 acts) more [] (last_or_0 acts) =
    subst (λ (bytes : List ℕ). Spells (last_or_0 acts) bytes [] (last_or_0 acts)) (sym rest.2)
    (spells-lines (last_or_0 acts) rest.0 rest.1) in
    spells-trace job.modules acts quiet (read-order job.scripts order reads few) more
    ∙ ap (λ (entries : List ℕ). threads_of acts ++ entries)
    (ap (λ (bytes : List ℕ). spelled_by (last_or_0 acts) (lines_of bytes)) (sym (append-nil more)) ∙ behind_it [])
    ∙ append-nil (threads_of acts) ∙ threads-order job.scripts order under

pub spelled-order : (job : Job) (order : List ℕ) → ((n : ℕ) → n < 2 ^ 64 → parsed_dec (decimal n) ≡ Some n)
    → length job.scripts ≤ 64 → AreQuiet job.modules → IsUnder job.scripts order
    → spelled (recorded job order) ≡ order
spelled-order job order reads few quiet under =
    ap (λ (bytes : List ℕ). spelled bytes) (sym (append-nil (recorded job order)))
    ∙ spelled-more job order [] reads few quiet under ([], tt, refl)
