-- The figures that are told of a recorded trace are those of its recording.
use Rattle.std.proofs.Common.{◌≡◌, ℕ, ◌+◌, ◌*◌, ◌^◌, ◌<◌, ◌≤◌, Bool, true, false, true≢false, List, [], ◌∷◌, ◌++◌}
use Rattle.std.proofs.Common.{length, map, Option, None, Some, refl, sym, ap, ap₂, ◌∙◌, subst, arith, append_assoc}
use Rattle.std.proofs.Common.{append-nil, length-append}
use Rattle.std.proofs.lemmas.List.{map-append}
use Rattle.std.specs.Prelude.{if◌then◌else◌, ◌==◌}
use Rattle.std.specs.List.{AllByRecursion}
use Rattle.hp_num.specs.Hexadecimal.{hexadecimal}
use Rattle.hp_num.specs.ParsedHex.{parsed_hex}
use Rattle.hp_outside.specs.Lines.{lines_of}
use Rattle.hp_outside.specs.WholeLines.{text_of_lines}
use Rattle.ht_lines.specs.Content.{Content, clear_line, module_line, node_line}
use Rattle.ht_lines.specs.Written.{written}
use Rattle.ht_print.specs.SummaryText as summary
use Rattle.ht_trace.specs.Contents as trace
use Rattle.ht_trace.specs.Gathered.{gathered}
use Rattle.ht_trace.specs.TraceEvents.{events}
use Rattle.ht_trace.specs.VersionLines.{missing_fault}
use Rattle.ht_trace.specs.TraceLists.{patterns}
use Rattle.interpret.specs.InterpretedSaid.{interpreted_events, interpreted_said}
use Rattle.interpret.specs.InterpretedTrace.{AreInterpretable, interpreted_trace}
use Rattle.interpret.specs.IpLists.{interpreted_ips, raw_ips, raw_nodes}
use Rattle.interpret.specs.Eventless.{IsEventless}
use Rattle.interpret.specs.RawContents.{IsRaw, contents, version_of}
use Rattle.interpret.specs.RawFault.{raw_end_fault, raw_fault}
use Rattle.interpret.specs.ReadAgain.{IsReadAgain, OfInterpretable}
use Rattle.interpret.specs.SymbolLine.{Symbol}
use Rattle.interpret.proofs.Laws.{event-allocated, event-freed, event-none, events-none as no-events}
use Rattle.live_ledger.specs.declared.event.Event.{Event as TraceEvent}
use Rattle.live_ledger.specs.LiveBytes.{allocated_bytes}
use Rattle.peak_costs.specs.FirstGreatest.{greatest}
use Rattle.peak_costs.specs.Totals.{totals}
use Rattle.record_scripts.specs.Events.{Event, allocation, free}
use Rattle.record_scripts.specs.Job.{Job}
use Rattle.record_scripts.specs.ModuleLine.{is_module}
use Rattle.record_scripts.specs.ModuleLines.{AreModuleLines, IsModuleSaid}
use Rattle.record_scripts.specs.Playable.{IsPlayable}
use Rattle.record_scripts.specs.Turns.{Turn}
use Rattle.record_book.specs.Actions.{Action, actions}
use Rattle.record_book.specs.Figures as own
use Rattle.record_book.specs.Figures.{bytes_asked, every, held_after}
use Rattle.record_book.specs.HeapPlaces.{places_after}
use Rattle.record_book.specs.NodeNumbers.{number_in, stacks_after, stacks_with, with_suffixes}
use Rattle.record_book.specs.Orders.{IsUnder}
use Rattle.record_book.specs.RecordedTrace.{last_thread, recorded, trace_text}
use Rattle.record_book.specs.SummaryText as recording
use Rattle.record_book.specs.SummaryText.{rec_summary}
use Rattle.record_book.proofs.Laws.{held-none, held-some, order-within, summary-text, text-append, threads-order}
use Rattle.record_book.proofs.Laws.{threads_of}
use Rattle.stack_table.specs.Stack.{stack}
use Rattle.sound_recordings.specs.ToldAgain.{IsToldAgain, TellAgain, TellSame, is_at}
use Rattle.sound_recordings.proofs.Blocks.{AreLive, live-allocated, live-freed, live-none, there}
use Rattle.sound_recordings.proofs.Figures.{AreEventsOf, events-allocated, events-freed, events-none}
use Rattle.sound_recordings.proofs.Names.{AreNamed, named, named-before, suffix-known}
use Rattle.sound_recordings.proofs.NoFault.{AreSound, IsHarmless, comment-harmless, says-all, sound-all, sound-trace}
use Rattle.sound_recordings.proofs.NoFault.{version-is}
use Rattle.sound_recordings.proofs.Played.{ArePlayed, Plays, places-only, summary-readable, trace-readable}
use Rattle.sound_recordings.proofs.Readable.{IsReadable, all-append, all-raw, all-short, lines-of, no-patterns}
use Rattle.sound_recordings.proofs.Said.{before_event, event_said, node_said, nodes_said, opening_said, summary-said}
use Rattle.sound_recordings.proofs.Said.{summary_said, switch-all, switch_said, text-of, trace-text, trace_said}
use Rattle.sound_recordings.proofs.StackFigures.{AreAt, at-allocated, at-freed, none-at}
use Rattle.sound_recordings.proofs.Turns.{are-played}

-- lines have brought what actions mean: their live blocks, and their figures, also those at any stacks
record Reached (symbols : List Symbol) (stack_at : ℕ → List ℕ) (said : List Content) (acts : List Action) : Type 0 where
  live : AreLive stack_at said (places_after acts) (held_after acts)
  figures : AreEventsOf (interpreted_events symbols said) acts
  stacks : (at : ℕ → Bool) (counted : List ℕ → Bool) → ((node : ℕ) → at node ≡ counted (stack_at node))
      → AreAt at counted (interpreted_events symbols said) acts

reached-nothing : (symbols : List Symbol) (stack_at : ℕ → List ℕ) → Reached symbols stack_at [] []
reached-nothing symbols stack_at = record {
  live = record { each = λ t i. tt; only = tt };
  figures = subst (λ (told : List TraceEvent). AreEventsOf told []) (sym (no-events symbols)) events-none;
  stacks =
      λ at counted is. subst (λ (told : List TraceEvent). AreAt at counted told []) (sym (no-events symbols))
      (none-at at counted);
}

-- lines without an event change nothing
reached-quiet : (symbols : List Symbol) (stack_at : ℕ → List ℕ) (said more : List Content) (acts : List Action)
    → AllByRecursion IsEventless more → Reached symbols stack_at said acts
    → Reached symbols stack_at (said ++ more) acts
reached-quiet symbols stack_at said [] acts all reached =
    subst (λ (l : List Content). Reached symbols stack_at l acts) (sym (append-nil said)) reached
reached-quiet symbols stack_at said (c ∷ more) acts all reached =
    let same = event-none symbols said c all.0 in
    let one : Reached symbols stack_at (said ++ c ∷ []) acts = record {
      live = live-none stack_at said c (places_after acts) (held_after acts) all.0 reached.live;
      figures = subst (λ (told : List TraceEvent). AreEventsOf told acts) (sym same) reached.figures;
      stacks =
          λ at counted is. subst (λ (told : List TraceEvent). AreAt at counted told acts) (sym same)
          (reached.stacks at counted is);
    } in
    subst (λ (l : List Content). Reached symbols stack_at l acts) (append_assoc said (c ∷ []) more)
    (reached-quiet symbols stack_at (said ++ c ∷ []) more acts all.1 one)

-- the line of an event
reached-event : (symbols : List Symbol) (stack_at : ℕ → List ℕ) (said : List Content) (before : List Action)
    (thread : ℕ) (event : Event)
    → AllByRecursion IsRaw said → Plays before thread event
    → AreNamed stack_at (stacks_with (stacks_after before) event) → Reached symbols stack_at said before
    → Reached symbols stack_at (said ++ event_said before thread event ∷ [])
    (record { thread = thread; event = event } ∷ before)
reached-event symbols stack_at said before thread (allocation id size ips) raw plays names reached =
    let trace = number_in (with_suffixes (stacks_after before) ips) ips in
    let acts : List Action = record { thread = thread; event = allocation id size ips } ∷ before in
    let told = event-allocated symbols said size trace _ raw in
    let stack_is : stack_at trace ≡ ips =
    named stack_at (with_suffixes (stacks_after before) ips) ips names (suffix-known (stacks_after before) ips) in
    record {
      live =
          live-allocated stack_at said (places_after before) (held_after before) thread id size trace ips reached.live
          stack_is
          (places-only (record { thread = thread; event = free id true } ∷ before)) (places-only acts);
      figures = subst (λ (told : List TraceEvent). AreEventsOf told acts) (sym told.1)
          (events-allocated (interpreted_events symbols said) before told.0 trace thread id size ips reached.figures
          plays.0);
      stacks = λ at counted is. subst (λ (told : List TraceEvent). AreAt at counted told acts) (sym told.1)
          (at-allocated at counted (interpreted_events symbols said) before told.0 trace thread id size ips
          (reached.stacks at counted is) (is trace ∙ ap counted stack_is)
          (held-none (held_after before) thread id plays.0));
    }
reached-event symbols stack_at said before thread (free id rejoined) raw plays names reached =
    let acts : List Action = record { thread = thread; event = free id rejoined } ∷ before in
    let found = held-some (held_after before) thread id plays.0 plays.1 in
    let here = there stack_at said (places_after before) (held_after before) thread id found.0 reached.live found.1 in
    let told = event-freed symbols said _ here.block raw here.stands in
    record {
      live =
          live-freed stack_at said (places_after before) (held_after before) thread id found.0 reached.live
          (places-only acts) here;
      figures = subst (λ (told : List TraceEvent). AreEventsOf told acts) (sym told.1)
          (events-freed (interpreted_events symbols said) before told.0 here.block.info.trace thread id
          here.block.info.size rejoined reached.figures (plays.1 ∙ ap Some (sym (here.size_is ∙ found.2))));
      stacks = λ at counted is. subst (λ (told : List TraceEvent). AreAt at counted told acts) (sym told.1)
          (at-freed at counted (interpreted_events symbols said) before told.0 here.block.info.trace thread id
          here.block.info.size rejoined found.0 (reached.stacks at counted is) found.1 here.size_is
          (is here.block.info.trace ∙ ap counted here.stack_is));
    }

-- which lines bring no event
switch-quiet : (last : Option ℕ) (thread : ℕ) → AllByRecursion IsEventless (switch_said last thread)
switch-quiet last thread = switch-all IsEventless last thread tt

nodes-quiet : (known : List (List ℕ)) (ips : List ℕ) → AllByRecursion IsEventless (nodes_said known ips)
nodes-quiet known [] = tt
nodes-quiet known (ip ∷ outer) =
    all-append IsEventless (nodes_said known outer) (node_said (with_suffixes known outer) ip outer)
    (nodes-quiet known outer) (by (number_in (with_suffixes known outer) (ip ∷ outer) == 0))
  where
    by : (b : Bool)
        → AllByRecursion IsEventless (if b then (node_line ip (number_in (with_suffixes known outer) outer) ∷ []) else
        [])
    by true = (tt, tt)
    by false = tt

before-quiet : (before : List Action) (thread : ℕ) (event : Event)
    → AllByRecursion IsEventless (before_event before thread event)
before-quiet before thread (allocation id size ips) =
    all-append IsEventless (switch_said (last_thread before) thread) (nodes_said (stacks_after before) ips)
    (switch-quiet (last_thread before) thread) (nodes-quiet (stacks_after before) ips)
before-quiet before thread (free id rejoined) = switch-quiet (last_thread before) thread

module-quiet : (said : Content) → is_module said ≡ true → IsEventless said
module-quiet (module_line name start ranges) is = tt
module-quiet clear_line is = tt
module-quiet _ is = absurd (true≢false (sym is))

modules-quiet : (modules : List Content) → AllByRecursion IsModuleSaid modules → AllByRecursion IsEventless modules
modules-quiet [] all = tt
modules-quiet (said ∷ more) all = (module-quiet said all.0.about, modules-quiet more all.1)

all-front : (xs ys : List Content) → AllByRecursion IsReadable (xs ++ ys) → AllByRecursion IsReadable xs
all-front [] ys all = tt
all-front (x ∷ xs) ys all = (all.0, all-front xs ys all.1)

-- the whole trace
reached-trace : (symbols : List Symbol) (stack_at : ℕ → List ℕ) (modules : List Content) (acts : List Action)
    → AllByRecursion IsModuleSaid modules → ArePlayed acts → AreNamed stack_at (stacks_after acts)
    → AllByRecursion IsReadable (trace_said modules acts) → Reached symbols stack_at (trace_said modules acts) acts
reached-trace symbols stack_at modules [] all played names readable =
    reached-quiet symbols stack_at [] (opening_said modules) [] (tt, (tt, modules-quiet modules all))
    (reached-nothing symbols stack_at)
reached-trace symbols stack_at modules (action ∷ before) all played names readable =
    let rest = before_event before action.thread action.event in
    let front =
    all-front (trace_said modules before ++ rest) (event_said before action.thread action.event ∷ []) readable in
    reached-event symbols stack_at (trace_said modules before ++ rest) before action.thread action.event
    (all-raw (trace_said modules before ++ rest) front) played.0 names
    (reached-quiet symbols stack_at (trace_said modules before) rest before
    (before-quiet before action.thread action.event)
    (reached-trace symbols stack_at modules before all played.1
    (named-before stack_at (stacks_after before) action.event names)
    (all-front (trace_said modules before) rest front)))

-- what actions allocate is within the limit of a ledger
allocated-few : (acts : List Action) → ArePlayed acts → own.allocated every acts ≤ 2 ^ 32 * length acts
allocated-few [] played = omega arith
allocated-few (action ∷ before) played = by action.event played.0 (allocated-few before played.1)
  where
    by : (event : Event) → Plays before action.thread event → own.allocated every before ≤ 2 ^ 32 * length before
        → bytes_asked every event + own.allocated every before ≤ 2 ^ 32 * length (action ∷ before)
    by (allocation id size ips) plays rest = let few = plays.1 in omega (arith, few, rest)
    by (free id rejoined) plays rest = omega (arith, rest)

-- the stack of a raw node
raw-stack : (said : List Content) (node : ℕ) → raw_ips said node ≡ stack (raw_nodes said) node
unfolding raw_ips
raw-stack said node = refl

-- what the summary of a trace of these events tells
tell-same : (told : List TraceEvent) (scripts : List (List Turn)) (order : List ℕ)
    → AreEventsOf told (actions scripts order) → length order ≡ length (actions scripts order)
    → TellSame told scripts order
unfolding summary.summary_of recording.summary_of
tell-same told scripts order are count = record {
  events = are.count ∙ sym count;
  calls = are.calls_are;
  allocated = are.allocated_are;
  leaked = omega (arith, are.bytes);
  blocks = omega (arith, are.blocks);
  peak = ap (λ (l : List TraceEvent). greatest (totals l)) are.counted_are ∙ are.peak_is;
}

threads-count : (acts : List Action) → length (threads_of acts) ≡ length acts
threads-count [] = refl
threads-count (action ∷ before) =
    let h = length-append (threads_of before) (action.thread ∷ []) in omega (arith, h, threads-count before)

module _ (back : (n : ℕ) → n < 2 ^ 64 → parsed_hex (hexadecimal n) ≡ Some n) (laws : OfInterpretable IsReadAgain) where
  -- lines that say this, and more of which no line brings an event or has a fault
  module _ (bytes : List ℕ) (scripts : List (List Turn)) (order : List ℕ) (modules more : List Content)
      (text : bytes ≡ text_of_lines (map (written 2) (trace_said modules (actions scripts order) ++ more)))
      (all : AllByRecursion IsModuleSaid modules) (played : ArePlayed (actions scripts order))
      (count : length order ≡ length (actions scripts order)) (few : length (actions scripts order) < 2 ^ 24)
      (readable : AllByRecursion IsReadable (trace_said modules (actions scripts order)))
      (readable_more : AllByRecursion IsReadable more) (quiet : AllByRecursion IsEventless more)
      (harmless : AllByRecursion IsHarmless more) where
    abbrev acts : List Action
    acts = actions scripts order

    abbrev said : List Content
    said = trace_said modules (actions scripts order) ++ more

    whole : AllByRecursion IsReadable said
    whole = all-append IsReadable (trace_said modules acts) more readable readable_more

    lines : lines_of bytes ≡ map (written 2) said
    lines = ap lines_of text ∙ lines-of said whole

    sound : AreSound said (stacks_after acts) (length acts)
    sound =
        sound-all back (trace_said modules acts) more (stacks_after acts) (length acts)
        (sound-trace back modules acts all played few readable) readable_more harmless

    says : contents (lines_of bytes) ≡ said
    says = ap contents lines ∙ says-all back said (stacks_after acts) (length acts) sound

    end : raw_end_fault (lines_of bytes) ≡ None
    end = ap missing_fault (ap version_of lines ∙ version-is back said (stacks_after acts) (length acts) sound)

    again : (symbols : List Symbol) → AreInterpretable symbols (lines_of bytes)
        → TellAgain (lines_of bytes) scripts order symbols
    again symbols may = record {
      figures =
          subst (λ (told : List TraceEvent). TellSame told scripts order) (sym told)
          (tell-same (interpreted_events symbols said) scripts order reached.figures count);
      stacks = λ counted.
          let are : AreAt (is_at (interpreted_trace symbols (lines_of bytes)) counted) (λ ips. counted (map Some ips))
          (events (interpreted_trace symbols (lines_of bytes))) acts =
          subst
          (λ (told : List TraceEvent). AreAt (is_at (interpreted_trace symbols (lines_of bytes)) counted)
          (λ ips. counted (map Some ips)) told acts)
          (sym told)
          (reached.stacks (is_at (interpreted_trace symbols (lines_of bytes)) counted) (λ ips. counted (map Some ips))
          (λ node. ap counted (ips-are node))) in
          record { calls = are.calls_are; allocated = are.allocated_are; bytes = are.bytes; blocks = are.blocks };
      read = λ frames. record {
        no_fault =
            (laws symbols (lines_of bytes) may).no_fault frames
            (let none = ap length (ap patterns says ∙ no-patterns said whole) in omega (arith, none));
        end = (laws symbols (lines_of bytes) may).end end;
        event_fault = (laws symbols (lines_of bytes) may).event_fault
            (let bytes_are = reached.figures.allocated_are in omega
            (arith, ap allocated_bytes told, bytes_are, allocated-few acts played, few));
      };
    }
      where
        told : events (interpreted_trace symbols (lines_of bytes)) ≡ interpreted_events symbols said
        told = (laws symbols (lines_of bytes) may).events ∙ ap (interpreted_events symbols) says

        reached : Reached symbols (stack (raw_nodes said)) said acts
        reached =
            reached-quiet symbols (stack (raw_nodes said)) (trace_said modules acts) more acts quiet
            (reached-trace symbols (stack (raw_nodes said)) modules acts all played sound.shallow.names readable)

        ips-are : (node : ℕ)
            → interpreted_ips (trace.contents (interpreted_trace symbols (lines_of bytes))) node
            ≡ map Some (stack (raw_nodes said) node)
        ips-are node =
            ap (λ (l : List Content). interpreted_ips l node) (laws symbols (lines_of bytes) may).reads_back
            ∙ (laws symbols (lines_of bytes) may).ledger.stacks node
            ∙ ap (λ (l : List Content). map Some (raw_ips l node)) says ∙ ap (map Some) (raw-stack said node)

    told-lines : IsToldAgain bytes scripts order
    told-lines =
        let short : AllByRecursion (λ line. length line < 2 ^ 32) (lines_of bytes) =
        subst (AllByRecursion (λ line. length line < 2 ^ 32)) (sym lines) (all-short said whole) in
        record {
          no_fault = ap (gathered (raw_fault []) []) lines ∙ sound.no_fault;
          end = end;
          short = short;
          again = λ symbols texts none. again symbols (record { texts = texts; short = short; no_fault = none });
        }

  module _ (job : Job) (order : List ℕ) (may : IsPlayable job) (modules : AreModuleLines job.modules)
      (under : IsUnder job.scripts order) where
    played : ArePlayed (actions job.scripts order)
    played = are-played job.scripts order may.in_turn may.bounded under.at_most

    count : length order ≡ length (actions job.scripts order)
    count = ap length (sym (threads-order job.scripts order under)) ∙ threads-count (actions job.scripts order)

    few : length (actions job.scripts order) < 2 ^ 24
    few = omega (arith, count, order-within job.scripts order under.at_most, may.few_events)

    readable : AllByRecursion IsReadable (trace_said modules.0 (actions job.scripts order))
    readable = trace-readable modules.0 (actions job.scripts order) modules.1 played few

    text : recorded job order ≡ text_of_lines (map (written 2) (trace_said modules.0 (actions job.scripts order)))
    text =
        ap (λ (front : List ℕ). trace_text front (actions job.scripts order)) modules.2
        ∙ trace-text modules.0 (actions job.scripts order)
        ∙ text-of (trace_said modules.0 (actions job.scripts order))

    pub told-trace : IsToldAgain (recorded job order) job.scripts order
    told-trace =
        told-lines (recorded job order) job.scripts order modules.0 []
        (text
        ∙ ap (λ (l : List Content). text_of_lines (map (written 2) l))
        (sym (append-nil (trace_said modules.0 (actions job.scripts order)))))
        modules.1 played count few readable tt tt tt

    pub told-summary : IsToldAgain (recorded job order ++ rec_summary job.scripts order) job.scripts order
    told-summary =
        let figures = recording.summary_of job.scripts order in
        let said = trace_said modules.0 (actions job.scripts order) in
        let six : AllByRecursion IsHarmless (summary_said figures) = (
          comment-harmless _,
          (
            comment-harmless _,
            (comment-harmless _, (comment-harmless _, (comment-harmless _, (comment-harmless _, tt)))),
          ),
        ) in
        told-lines (recorded job order ++ rec_summary job.scripts order) job.scripts order modules.0
        (summary_said figures)
        (ap₂ (λ (x y : List ℕ). x ++ y) text (summary-text job.scripts order ∙ ap text_of_lines (summary-said figures))
        ∙ sym (text-append (map (written 2) said) (map (written 2) (summary_said figures)))
        ∙ ap text_of_lines (sym (map-append (written 2) said (summary_said figures))))
        modules.1 played count few readable (summary-readable figures) (tt, (tt, (tt, (tt, (tt, (tt, tt)))))) six
