-- Without symbols, no line of a recorded trace has a fault after those before it.
use Rattle.std.proofs.Common.{◌≡◌, ◌≢◌, ℕ, ◌+◌, ◌^◌, ◌<◌, ◌≤◌, ◌==◌, Bool, true, false, cond, List, [], ◌∷◌, ◌++◌}
use Rattle.std.proofs.Common.{length, map, Option, Some, None, refl, sym, ap, ap₂, ◌∙◌, subst, arith, append_assoc}
use Rattle.std.proofs.Common.{append-nil, length-append, true≢false}
use Rattle.std.specs.Prelude.{codes, Result}
use Rattle.std.specs.List.{AllByRecursion, filter_map}
use Rattle.std.specs.Option.{option_to_list}
use Rattle.std.specs.Str.{bytes_eq}
use Rattle.std.proofs.lemmas.List.{map-append}
use Rattle.std.proofs.lemmas.Slice.Eq.{bytes_eq-Decides}
use Rattle.hp_num.specs.Hexadecimal.{hexadecimal}
use Rattle.hp_num.specs.ParsedHex.{parsed_hex}
use Rattle.ht_lines.specs.Content.{Content, clear_line, command_line, comment_line, module_line, node_line}
use Rattle.ht_lines.specs.Content.{raw_allocation_line, raw_free_line, version_line}
use Rattle.ht_lines.specs.Written.{written}
use Rattle.ht_lines.specs.declared.item.Form.TheVariants.{Raw}
use Rattle.ht_lines.specs.declared.item.Malformed.{Malformed}
use Rattle.ht_lines.proofs.Laws.{reading-written}
use Rattle.ht_trace.specs.declared.error.LineError.{LineError}
use Rattle.ht_trace.specs.Gathered.{gathered}
use Rattle.ht_trace.specs.LineFault.{most_nodes}
use Rattle.stack_table.specs.Node.{Node}
use Rattle.stack_table.specs.Stack.{frame_count, stack, stack_nodes}
use Rattle.stack_table.proofs.Laws.{frame_count-newest, frame_count-older, frame_count-zero, stack-newest, stack-older}
use Rattle.interpret.specs.declared.infos.AllocationInfo.{AllocationInfo}
use Rattle.interpret.specs.IpLists.{raw_node_in, raw_nodes}
use Rattle.interpret.specs.RawContents.{contents, version_of}
use Rattle.interpret.specs.RawFault.{content_fault, fault_in, raw_fault, reading_fault}
use Rattle.interpret.specs.RawTables.{RawTables, info_in, tables_of}
use Rattle.ht_trace.proofs.Laws.{filter_map-push, gathered-push}
use Rattle.interpret.proofs.Laws.{plain-allocation, plain-node}
use Rattle.record_scripts.specs.Events.{Event, allocation, free}
use Rattle.record_scripts.specs.ModuleLine.{is_module}
use Rattle.record_scripts.specs.ModuleLines.{IsModuleSaid}
use Rattle.record_book.specs.Actions.{Action}
use Rattle.record_book.specs.HeapPlaces.{address_of, class_of, next_address, places_after, released}
use Rattle.record_book.specs.NodeNumbers.{number_in, stacks_after, stacks_with, with_stack, with_suffixes}
use Rattle.record_book.specs.RecordedTrace.{last_thread}
use Rattle.sound_recordings.proofs.Names.{AreNamed, named, suffix-known}
use Rattle.sound_recordings.proofs.Played.{ArePlayed, Plays, number-few, stacks-few, suffixes-few}
use Rattle.sound_recordings.proofs.Readable.{IsReadable, all-append, contents-of, version-first}
use Rattle.sound_recordings.proofs.Said.{before_event, event_said, node_said, nodes_said, switch-all, switch_said}
use Rattle.sound_recordings.proofs.Said.{trace_said}

-- as many nodes as stacks, none of which is deeper than it is long: that of a stack's number is the stack
pub record AreShallow (known : List (List ℕ)) (nodes : List Node) : Type 0 where
  pub count : length nodes ≡ length known
  pub depth : (ips : List ℕ) → frame_count nodes (number_in known ips) ≤ length ips
  pub names : AreNamed (stack nodes) known

-- a stack more
shallow-more : (known : List (List ℕ)) (nodes : List Node) (ip : ℕ) (outer : List ℕ) → AreShallow known nodes
    → (outer ≢ [] → number_in known outer ≢ 0)
    → AreShallow ((ip ∷ outer) ∷ known) (nodes ++ record { ip = ip; parent = number_in known outer; frames = 1 } ∷ [])
shallow-more known nodes ip outer are there = record {
  count =
      let h =
      length-append nodes (record { ip = ip; parent = number_in known outer; frames = 1 } ∷ []) in omega
      (arith, h, are.count);
  depth = λ ips. by ips (bytes_eq (ip ∷ outer) ips) refl;
  names = record {
    empty =
        stack-older nodes (record { ip = ip; parent = number_in known outer; frames = 1 }) 0 (omega arith)
        ∙ are.names.empty;
    none = none (bytes_eq (ip ∷ outer) []) refl;
    stacks = λ ips some. stacks ips (bytes_eq (ip ∷ outer) ips) refl some;
  };
}
  where
    none : (b : Bool) → bytes_eq (ip ∷ outer) [] ≡ b → cond b (length known + 1) (number_in known []) ≡ 0
    none true is = let same : ip ∷ outer ≡ [] = (bytes_eq-Decides (ip ∷ outer) []).0 is in absurd (cc)
    none false is = are.names.none

    outer_is : stack nodes (number_in known outer) ≡ outer
    outer_is = named (stack nodes) known outer are.names there

    stacks : (ips : List ℕ) (b : Bool) → bytes_eq (ip ∷ outer) ips ≡ b
        → cond b (length known + 1) (number_in known ips) ≢ 0
        → stack (nodes ++ record { ip = ip; parent = number_in known outer; frames = 1 } ∷ [])
        (cond b (length known + 1) (number_in known ips))
        ≡ ips
    stacks ips true is some =
        stack-newest nodes (record { ip = ip; parent = number_in known outer; frames = 1 }) (length known + 1)
        (omega (arith, are.count))
        ∙ ap (λ (rest : List ℕ). ip ∷ rest) outer_is ∙ (bytes_eq-Decides (ip ∷ outer) ips).0 is
    stacks ips false is some =
        let few = number-few known ips in
        stack-older nodes (record { ip = ip; parent = number_in known outer; frames = 1 }) (number_in known ips)
        (omega (arith, few, are.count))
        ∙ are.names.stacks ips some

    by : (ips : List ℕ) (b : Bool) → bytes_eq (ip ∷ outer) ips ≡ b
        → frame_count (nodes ++ record { ip = ip; parent = number_in known outer; frames = 1 } ∷ [])
        (cond b (length known + 1) (number_in known ips))
        ≤ length ips
    by ips true is =
        let same : ip ∷ outer ≡ ips = (bytes_eq-Decides (ip ∷ outer) ips).0 is in
        let newest =
        frame_count-newest nodes (record { ip = ip; parent = number_in known outer; frames = 1 }) (length known + 1)
        (omega (arith, are.count)) in
        let deep = are.depth outer in
        omega (arith, newest, deep, ap length same)
    by ips false is =
        let few = number-few known ips in
        let older =
        frame_count-older nodes (record { ip = ip; parent = number_in known outer; frames = 1 }) (number_in known ips)
        (omega (arith, few, are.count)) in
        omega (arith, older, are.depth ips)

-- a line that brings neither a node nor an info has no fault
abbrev pub IsHarmless : Content → Type 0
IsHarmless said =
    (raw_node_in said ≡ None) × (info_in said ≡ None)
    × ((version : Option ℕ) (tables : RawTables) → content_fault [] version tables said ≡ None)

pub comment-harmless : (bytes : List ℕ) → IsHarmless (comment_line bytes)
unfolding content_fault
comment-harmless bytes = (refl, refl, λ version tables. refl)

command-harmless : (bytes : List ℕ) → IsHarmless (command_line bytes)
unfolding content_fault
command-harmless bytes = (refl, refl, λ version tables. refl)

free-harmless : (ptr : ℕ) → IsHarmless (raw_free_line ptr)
unfolding content_fault
free-harmless ptr = (refl, refl, λ version tables. refl)

module-harmless : (said : Content) → is_module said ≡ true → IsHarmless said
unfolding content_fault
module-harmless (module_line name start ranges) is = (refl, refl, λ version tables. refl)
module-harmless clear_line is = (refl, refl, λ version tables. refl)
module-harmless _ is = absurd (true≢false (sym is))

modules-harmless : (modules : List Content) → AllByRecursion IsModuleSaid modules → AllByRecursion IsHarmless modules
modules-harmless [] all = tt
modules-harmless (said ∷ more) all = (module-harmless said all.0.about, modules-harmless more all.1)

switch-harmless : (last : Option ℕ) (thread : ℕ) → AllByRecursion IsHarmless (switch_said last thread)
switch-harmless last thread = switch-all IsHarmless last thread (comment-harmless _)

-- lines of file version 2 without a fault, with these stacks and so many infos at most
pub record AreSound (said : List Content) (known : List (List ℕ)) (most : ℕ) : Type 0 where
  pub first : (more : List Content) × (said ≡ version_line 66816 2 ∷ more)
  pub readable : AllByRecursion IsReadable said
  pub no_fault : gathered (raw_fault []) [] (map (written 2) said) ≡ []
  pub shallow : AreShallow known (raw_nodes said)
  pub few : length (filter_map info_in said) ≤ most

all-parts : (xs ys : List Content) → AllByRecursion IsReadable (xs ++ ys)
    → AllByRecursion IsReadable xs × AllByRecursion IsReadable ys
all-parts [] ys all = (tt, all)
all-parts (x ∷ xs) ys all = let rest = all-parts xs ys all.1 in ((all.0, rest.0), rest.1)

module _ (back : (n : ℕ) → n < 2 ^ 64 → parsed_hex (hexadecimal n) ≡ Some n) where
  -- what they say
  pub says-all : (said : List Content) (known : List (List ℕ)) (most : ℕ) → AreSound said known most
      → contents (map (written 2) said) ≡ said
  says-all said known most are =
      subst (λ (l : List Content). contents (map (written 2) l) ≡ l) (sym are.first.1)
      (contents-of back 66816 are.first.0 (subst (AllByRecursion IsReadable) are.first.1 are.readable))

  pub version-is : (said : List Content) (known : List (List ℕ)) (most : ℕ) → AreSound said known most
      → version_of (map (written 2) said) ≡ Some 2
  version-is said known most are =
      subst (λ (l : List Content). version_of (map (written 2) l) ≡ Some 2) (sym are.first.1)
      (version-first back 66816 (map (written 2) are.first.0) (omega arith))

  -- a line more
  fault-none : (said : List Content) (known : List (List ℕ)) (most : ℕ) (c : Content) → AreSound said known most
      → IsReadable c → content_fault [] (Some 2) (tables_of [] said) c ≡ None
      → raw_fault [] (map (written 2) said) (written 2 c) ≡ None
  unfolding raw_fault
  fault-none said known most c are readable good =
      ap₂ (λ (v : Option ℕ) (l : List Content). fault_in [] v (tables_of [] l) (written 2 c))
      (version-is said known most are) (says-all said known most are)
      ∙ ap (λ (r : Result Content Malformed). reading_fault [] (Some 2) (tables_of [] said) r)
      (reading-written back Raw 2 c readable.writable)
      ∙ good

  sound-more : (said : List Content) (known more : List (List ℕ)) (most next : ℕ) (c : Content)
      → AreSound said known most → IsReadable c → content_fault [] (Some 2) (tables_of [] said) c ≡ None
      → AreShallow more (raw_nodes (said ++ c ∷ [])) → length (filter_map info_in (said ++ c ∷ [])) ≤ next
      → AreSound (said ++ c ∷ []) more next
  sound-more said known more most next c are readable good shallow few = record {
    first = (are.first.0 ++ c ∷ [], ap (λ (l : List Content). l ++ c ∷ []) are.first.1);
    readable = all-append IsReadable said (c ∷ []) are.readable (readable, tt);
    no_fault =
        ap (gathered (raw_fault []) []) (map-append (written 2) said (c ∷ []))
        ∙ gathered-push (raw_fault []) [] (map (written 2) said) (written 2 c)
        ∙ ap₂ (λ (l : List LineError) (o : Option LineError). l ++ option_to_list o) are.no_fault
        (fault-none said known most c are readable good);
    shallow = shallow;
    few = few;
  }

  sound-harmless : (said : List Content) (known : List (List ℕ)) (most : ℕ) (c : Content) → AreSound said known most
      → IsReadable c → IsHarmless c → AreSound (said ++ c ∷ []) known most
  sound-harmless said known most c are readable harmless =
      let nodes : raw_nodes (said ++ c ∷ []) ≡ raw_nodes said =
      filter_map-push raw_node_in said c ∙ ap (λ (o : Option Node). raw_nodes said ++ option_to_list o) harmless.0
      ∙ append-nil (raw_nodes said) in
      let infos =
      ap length
      (filter_map-push info_in said c
      ∙ ap (λ (o : Option AllocationInfo). filter_map info_in said ++ option_to_list o) harmless.1
      ∙ append-nil (filter_map info_in said)) in
      sound-more said known known most most c are readable (harmless.2 (Some 2) (tables_of [] said))
      (subst (AreShallow known) (sym nodes) are.shallow) (omega (arith, infos, are.few))

  pub sound-all : (said more : List Content) (known : List (List ℕ)) (most : ℕ) → AreSound said known most
      → AllByRecursion IsReadable more → AllByRecursion IsHarmless more → AreSound (said ++ more) known most
  sound-all said [] known most are readable harmless =
      subst (λ (l : List Content). AreSound l known most) (sym (append-nil said)) are
  sound-all said (c ∷ more) known most are readable harmless =
      subst (λ (l : List Content). AreSound l known most) (append_assoc said (c ∷ []) more)
      (sound-all (said ++ c ∷ []) more known most (sound-harmless said known most c are readable.0 harmless.0)
      readable.1 harmless.1)

  -- a node, where it is new
  sound-node : (said : List Content) (known : List (List ℕ)) (most ip : ℕ) (outer : List ℕ) → AreSound said known most
      → AllByRecursion IsReadable (node_said known ip outer) → length outer < 4096
      → length known < most_nodes → most < 2 ^ 24 → (outer ≢ [] → number_in known outer ≢ 0)
      → AreSound (said ++ node_said known ip outer) (with_stack known (ip ∷ outer)) most
  sound-node said known most ip outer are readable short room few there =
      by (number_in known (ip ∷ outer) == 0) readable
    where
      by : (b : Bool) → AllByRecursion IsReadable (cond b (node_line ip (number_in known outer) ∷ []) [])
          → AreSound (said ++ cond b (node_line ip (number_in known outer) ∷ []) [])
          (cond b ((ip ∷ outer) ∷ known) known) most
      by false readable = subst (λ (l : List Content). AreSound l known most) (sym (append-nil said)) are
      by true readable =
          let c = node_line ip (number_in known outer) in
          let number = number-few known outer in
          let count = are.shallow.count in
          let good =
          plain-node (Some 2) said ip (number_in known outer) (omega (arith, number, count))
          (omega (arith, are.shallow.depth outer, short)) (omega (arith, room, count))
          (omega (arith, are.few, few)) in
          let nodes : raw_nodes (said ++ c ∷ [])
          ≡ raw_nodes said ++ record { ip = ip; parent = number_in known outer; frames = 1 } ∷ [] =
          filter_map-push raw_node_in said c in
          let infos = ap length (filter_map-push info_in said c ∙ append-nil (filter_map info_in said)) in
          sound-more said known ((ip ∷ outer) ∷ known) most most c are readable.0 good
          (subst (AreShallow ((ip ∷ outer) ∷ known)) (sym nodes)
          (shallow-more known (raw_nodes said) ip outer are.shallow there))
          (omega (arith, infos, are.few))

  sound-nodes : (said : List Content) (known : List (List ℕ)) (most : ℕ) (ips : List ℕ) → AreSound said known most
      → AllByRecursion IsReadable (nodes_said known ips) → length ips ≤ 256
      → length known + length ips ≤ most_nodes → most < 2 ^ 24
      → AreSound (said ++ nodes_said known ips) (with_suffixes known ips) most
  sound-nodes said known most [] are readable short room few =
      subst (λ (l : List Content). AreSound l known most) (sym (append-nil said)) are
  sound-nodes said known most (ip ∷ outer) are readable short room few =
      let own = node_said (with_suffixes known outer) ip outer in
      let parts = all-parts (nodes_said known outer) own readable in
      let rest = sound-nodes said known most outer are parts.0 (omega (arith, short)) (omega (arith, room)) few in
      let count = suffixes-few known outer in
      subst (λ (l : List Content). AreSound l (with_suffixes known (ip ∷ outer)) most)
      (append_assoc said (nodes_said known outer) own)
      (sound-node (said ++ nodes_said known outer) (with_suffixes known outer) most ip outer rest parts.1
      (omega (arith, short)) (omega (arith, count, room)) few (suffix-known known outer))

  -- the lines of an event
  sound-event : (said : List Content) (before : List Action) (thread : ℕ) (event : Event)
      → AreSound said (stacks_after before) (length before) → ArePlayed before → Plays before thread event
      → AllByRecursion IsReadable (before_event before thread event) → IsReadable (event_said before thread event)
      → length before + 1 < 2 ^ 24
      → AreSound ((said ++ before_event before thread event) ++ event_said before thread event ∷ [])
      (stacks_with (stacks_after before) event) (length before + 1)
  sound-event said before thread (allocation id size ips) are played plays readable own few =
      let switch = switch_said (last_thread before) thread in
      let nodes = nodes_said (stacks_after before) ips in
      let parts = all-parts switch nodes readable in
      let count = stacks-few before played in
      let switched =
      sound-all said switch (stacks_after before) (length before) are parts.0
      (switch-harmless (last_thread before) thread) in
      let noded : AreSound (said ++ (switch ++ nodes)) (with_suffixes (stacks_after before) ips) (length before) =
      subst (λ (l : List Content). AreSound l (with_suffixes (stacks_after before) ips) (length before))
      (append_assoc said switch nodes)
      (sound-nodes (said ++ switch) (stacks_after before) (length before) ips switched parts.1 plays.2
      (omega (arith, count, few, plays.2)) (omega (arith, few))) in
      let all : List Content = said ++ (switch ++ nodes) in
      let trace = number_in (with_suffixes (stacks_after before) ips) ips in
      let ptr = next_address (class_of size) (released thread id (places_after before)) in
      let c = raw_allocation_line size trace ptr in
      let number = number-few (with_suffixes (stacks_after before) ips) ips in
      let more = suffixes-few (stacks_after before) ips in
      let held = noded.shallow.count in
      let good =
      plain-allocation (Some 2) all size trace ptr (omega (arith, number, held))
      (omega (arith, held, more, count, few, plays.2)) (omega (arith, noded.few, few)) in
      let same : raw_nodes (all ++ c ∷ []) ≡ raw_nodes all =
      filter_map-push raw_node_in all c ∙ append-nil (raw_nodes all) in
      let infos =
      ap length (filter_map-push info_in all c)
      ∙ length-append (filter_map info_in all) (record { size = size; trace = trace } ∷ []) in
      sound-more all (with_suffixes (stacks_after before) ips) (with_suffixes (stacks_after before) ips) (length before)
      (length before + 1) c noded own good
      (subst (AreShallow (with_suffixes (stacks_after before) ips)) (sym same) noded.shallow)
      (omega (arith, infos, noded.few))
  sound-event said before thread (free id rejoined) are played plays readable own few =
      let switched =
      sound-all said (switch_said (last_thread before) thread) (stacks_after before) (length before) are readable
      (switch-harmless (last_thread before) thread) in
      let all : List Content = said ++ switch_said (last_thread before) thread in
      let c = raw_free_line (address_of thread id (places_after before)) in
      let freed = sound-harmless all (stacks_after before) (length before) c switched own (free-harmless _) in
      record {
        first = freed.first;
        readable = freed.readable;
        no_fault = freed.no_fault;
        shallow = freed.shallow;
        few = omega (arith, freed.few);
      }

  -- the version line alone
  sound-version : IsReadable (version_line 66816 2) → AreSound (version_line 66816 2 ∷ []) [] 0
  unfolding raw_fault content_fault stack stack_nodes
  sound-version readable = record {
    first = ([], refl);
    readable = (readable, tt);
    no_fault =
        ap (λ (r : Result Content Malformed). option_to_list (reading_fault [] None (tables_of [] []) r) ++ [])
        (reading-written back Raw 1 (version_line 66816 2) (omega arith, omega arith, omega arith));
    shallow = record {
      count = refl;
      depth = λ ips. let h = frame_count-zero [] in omega (arith, h);
      names = record { empty = refl; none = refl; stacks = λ ips some. absurd (some refl) };
    };
    few = omega arith;
  }

  -- the whole trace
  pub sound-trace : (modules : List Content) (acts : List Action) → AllByRecursion IsModuleSaid modules → ArePlayed acts
      → length acts < 2 ^ 24 → AllByRecursion IsReadable (trace_said modules acts)
      → AreSound (trace_said modules acts) (stacks_after acts) (length acts)
  sound-trace modules [] all played few readable =
      sound-all (version_line 66816 2 ∷ []) (command_line (codes "heaprec") ∷ modules) [] 0 (sound-version readable.0)
      readable.1 (command-harmless (codes "heaprec"), modules-harmless modules all)
  sound-trace modules (action ∷ before) all played few readable =
      let rest = before_event before action.thread action.event in
      let own = event_said before action.thread action.event in
      let outer = all-parts (trace_said modules before ++ rest) (own ∷ []) readable in
      let inner = all-parts (trace_said modules before) rest outer.0 in
      let done =
      sound-event (trace_said modules before) before action.thread action.event
      (sound-trace modules before all played.1 (omega (arith, few)) inner.0) played.1 played.0 inner.1 outer.1.0
      (omega (arith, few)) in
      let up : length before + 1 ≡ length (action ∷ before) = omega arith in
      subst (λ (n : ℕ). AreSound (trace_said modules (action ∷ before)) (stacks_after (action ∷ before)) n) up done
