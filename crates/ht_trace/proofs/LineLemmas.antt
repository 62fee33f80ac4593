-- What one line more adds to the lists of a trace.
use Rattle.std.proofs.Common.{◌≡◌, ℕ, true, List, [], ◌∷◌, ◌++◌, Option, Some, None, Ok, refl, sym, ap, ◌∙◌, arith}
use Rattle.std.proofs.Common.{append_assoc, append-nil, length, length-append, subst}
use Rattle.std.specs.Prelude.{◌||◌, is_some, slice_get, unwrap_or}
use Rattle.std.specs.Option.{option_or, option_to_list}
use Rattle.std.specs.List.{filter_map}
use Rattle.ht_lines.specs.Content.{Content, version_line, executable_line, command_line, system_line, string_line}
use Rattle.ht_lines.specs.Content.{clear_line, module_line, instruction_line, node_line, info_line, allocation_line}
use Rattle.ht_lines.specs.Content.{free_line, raw_allocation_line, raw_free_line, clock_line, resident_line}
use Rattle.ht_lines.specs.Content.{attached_line, suppression_line, comment_line, other_line}
use Rattle.ht_lines.specs.declared.item.Form.TheVariants.{Interpreted}
use Rattle.ht_lines.specs.Reading.{reading}
use Rattle.live_ledger.specs.LedgerState.{HeldInfo}
use Rattle.live_ledger.specs.declared.event.Event.{Event}
use Rattle.ht_trace.specs.declared.step.Step.{Step}
use Rattle.ht_trace.specs.Contents.{contents, version_of}
use Rattle.ht_trace.specs.FormContents.{version_in}
use Rattle.ht_trace.specs.Gathered.{gathered}
use Rattle.ht_trace.specs.declared.error.LineError.{LineError}
use Rattle.ht_trace.specs.LineFault.{Tells, content_fault, fault_in, line_fault_after}
use Rattle.ht_trace.specs.VersionLines.{may_stand_first}
use Rattle.ht_trace.specs.StandsFor.{StandsAfter}
use Rattle.ht_trace.specs.StateAfter.{Takes, state_after}
use Rattle.ht_trace.specs.StepOf.{event_in, event_of, event_step, step_in}
use Rattle.ht_trace.specs.TableState.{TableState, tables_after}
use Rattle.ht_trace.specs.Pattern.{pattern_of, patterns_of}
use Rattle.ht_trace.proofs.Growing.{filter_map-push, first-push, gathered-push, or-none}
use Rattle.ht_trace.proofs.VersionLemmas.{Reads, reads-by}
use Rattle.ht_trace.specs.LedgerFits.{Grows}
use Rattle.ht_trace.specs.TraceEvents.{events}
use Rattle.ht_trace.specs.TraceLists.{strings, string_in, instructions, instruction_in, nodes, node_in, infos, info_in}
use Rattle.ht_trace.specs.TraceLists.{command, command_in, patterns, pattern_in}

-- the tables with these lists
abbrev tables_from : List (List ℕ) → Option ℕ → List Content → TableState
tables_from given version said = record {
  version = version;
  strings = strings said;
  instructions = instructions said;
  nodes = nodes said;
  infos = infos said;
  command = command said;
  patterns = patterns_of given ++ patterns said;
}

-- the tables with what one more content gives at the end of each list
abbrev grown : List (List ℕ) → Option ℕ → List Content → Content → TableState
grown given version said more = record {
  version = option_or version (version_in more);
  strings = strings said ++ option_to_list (string_in more);
  instructions = instructions said ++ option_to_list (instruction_in more);
  nodes = nodes said ++ option_to_list (node_in (instructions said) more);
  infos = infos said ++ option_to_list (info_in more);
  command = option_or (command said) (command_in more);
  patterns = patterns_of given ++ (patterns said ++ option_to_list (pattern_in more));
}

tables-grown : (given : List (List ℕ)) (version : Option ℕ) (said : List Content) (more : Content)
    → tables_from given (option_or version (version_in more)) (said ++ more ∷ []) ≡ grown given version said more
tables-grown given version said more =
    let a = filter_map-push string_in said more in
    let b = filter_map-push instruction_in said more in
    let c = gathered-push (λ earlier. node_in (instructions earlier)) [] said more in
    let d = filter_map-push info_in said more in
    let e =
    ap (λ (all : List (List ℕ)). slice_get all 0) (filter_map-push command_in said more)
    ∙ first-push (filter_map command_in said) (command_in more) in
    let f = filter_map-push pattern_in said more in
    rw (a, b, c, d, e, f) refl

grown-after : (given : List (List ℕ)) (version : Option ℕ) (said : List Content) (more : Content)
    → grown given version said more ≡ state_after (tables_from given version said) more
grown-after given version said (version_line heaptrack file) = simp (append-nil, or-none)
grown-after given version said (executable_line bytes) = simp (append-nil, or-none)
grown-after given version said (command_line bytes) = simp (append-nil, or-none)
grown-after given version said (system_line page pages) = simp (append-nil, or-none)
grown-after given version said (string_line bytes) = simp (append-nil, or-none)
grown-after given version said clear_line = simp (append-nil, or-none)
grown-after given version said (module_line name start ranges) = simp (append-nil, or-none)
grown-after given version said (instruction_line ip module_string frames) = simp (append-nil, or-none)
grown-after given version said (node_line ip parent) = simp (append-nil, or-none)
grown-after given version said (info_line size trace) = simp (append-nil, or-none)
grown-after given version said (allocation_line info) = simp (append-nil, or-none)
grown-after given version said (free_line info) = simp (append-nil, or-none)
grown-after given version said (raw_allocation_line size trace ptr) = simp (append-nil, or-none)
grown-after given version said (raw_free_line ptr) = simp (append-nil, or-none)
grown-after given version said (clock_line ms) = simp (append-nil, or-none)
grown-after given version said (resident_line pages) = simp (append-nil, or-none)
grown-after given version said attached_line = simp (append-nil, or-none)
grown-after given version said (suppression_line bytes) = simp (append-nil, or-none, ← append_assoc)
grown-after given version said (comment_line bytes) = simp (append-nil, or-none)
grown-after given version said (other_line bytes) = simp (append-nil, or-none)

reads-next : (tables : TableState) (given lines : List (List ℕ)) (line : List ℕ) (said : Content)
    → StandsAfter tables given lines → (is_some tables.version || may_stand_first line) ≡ true
    → reading Interpreted (unwrap_or tables.version 1) line ≡ Ok said
    → Reads Interpreted lines line said
reads-next tables given lines line said stands may read =
    reads-by Interpreted tables.version lines line said (ap (λ (t : TableState). t.version) stands.tables_is)
    stands.first may read

-- a line that may stand there and says something without a fault has none
pub no_fault_in : (tables : TableState) (said : Content) (line : List ℕ)
    → (is_some tables.version || may_stand_first line) ≡ true
    → reading Interpreted (unwrap_or tables.version 1) line ≡ Ok said → content_fault tables said ≡ None
    → fault_in tables line ≡ None
no_fault_in tables said line may read good = rw (may, read) good

-- where no line has a fault, one more without a fault leaves it so
no_faults-push : (given lines : List (List ℕ)) (line : List ℕ) → gathered (line_fault_after given) [] lines ≡ []
    → line_fault_after given lines line ≡ None → gathered (line_fault_after given) [] (lines ++ line ∷ []) ≡ []
no_faults-push given lines line before good =
    gathered-push (line_fault_after given) [] lines line
    ∙ (ap (λ (found : Option LineError). gathered (line_fault_after given) [] lines ++ option_to_list found) good
    ∙ (append-nil (gathered (line_fault_after given) [] lines) ∙ before))

-- the tables stand for one more line, once what it says is added
pub stands-push : (old new : TableState) (said : Content) (step : Step) (line : List ℕ)
    → (is_some old.version || may_stand_first line) ≡ true
    → reading Interpreted (unwrap_or old.version 1) line ≡ Ok said → Takes old said step new
    → (given lines : List (List ℕ)) → StandsAfter old given lines → StandsAfter new given (lines ++ line ∷ [])
stands-push old new said step line may read takes given lines stands =
    let reads = reads-next old given lines line said stands may read in
    let before = takes.added ∙ ap (λ (t : TableState). state_after t said) stands.tables_is in
    let lists =
    tables-grown given (version_of lines) (contents lines) said
    ∙ grown-after given (version_of lines) (contents lines) said in
    let after : tables_after given (lines ++ line ∷ []) ≡ state_after (tables_after given lines) said =
    ap (λ (v : Option ℕ). tables_from given v (contents (lines ++ line ∷ []))) reads.version
    ∙ ap (λ (all : List Content). tables_from given (option_or (version_of lines) (version_in said)) all) reads.said_is
    ∙ lists in
    let is : new ≡ tables_after given (lines ++ line ∷ []) = before ∙ sym after in
    let good : line_fault_after given lines line ≡ None =
    ap (λ (t : TableState). fault_in t line) (sym stands.tables_is)
    ∙ no_fault_in old said line may read takes.no_fault in
    record {
      tables_is = is;
      no_fault = no_faults-push given lines line stands.no_fault good;
      first = λ none. reads.first (ap (λ (t : TableState). is_some t.version) (sym is) ∙ none);
    }

event_of-step : (o : Option Event) → event_of (event_step o) ≡ o
event_of-step None = refl
event_of-step (Some event) = refl

-- the event of a step is that of what the line says
event_of-content : (held : List HeldInfo) (said : Content) → event_of (step_in held said) ≡ event_in held said
event_of-content held (node_line ip parent) = refl
event_of-content held (info_line size trace) = refl
event_of-content held (allocation_line info) = event_of-step (event_in held (allocation_line info))
event_of-content held (free_line info) = event_of-step (event_in held (free_line info))
event_of-content held _ = refl

-- the events with that of one more line
pub events-push : (old new : TableState) (said : Content) (step : Step) (line : List ℕ)
    → (is_some old.version || may_stand_first line) ≡ true
    → reading Interpreted (unwrap_or old.version 1) line ≡ Ok said → Takes old said step new
    → (given lines : List (List ℕ)) → StandsAfter old given lines
    → events (lines ++ line ∷ []) ≡ events lines ++ option_to_list (event_of step)
events-push old new said step line may read takes given lines stands =
    let reads = reads-next old given lines line said stands may read in
    let event_after = λ (earlier : List Content). event_in (infos earlier) in
    let same : infos (contents lines) ≡ old.infos = sym (ap (λ (t : TableState). t.infos) stands.tables_is) in
    let brings : event_of step ≡ event_in old.infos said =
    ap event_of takes.step_is ∙ event_of-content old.infos said in
    ap (gathered event_after []) reads.said_is ∙ gathered-push event_after [] (contents lines) said
    ∙ ap (λ (o : Option Event). events lines ++ option_to_list o)
    (ap (λ (held : List HeldInfo). event_in held said) same ∙ sym brings)

-- the fault of what a line says is that of the line
pub fault-told : (old : TableState) (said : Content) (line : List ℕ) (error : LineError)
    → (is_some old.version || may_stand_first line) ≡ true
    → reading Interpreted (unwrap_or old.version 1) line ≡ Ok said → Tells error (content_fault old said)
    → (given lines : List (List ℕ)) → StandsAfter old given lines → Tells error (line_fault_after given lines line)
fault-told old said line error may read told given lines stands = λ other.
    let here : fault_in old line ≡ content_fault old said = rw (may, read) refl in
    ap (λ (t : TableState). fault_in t line) (sym stands.tables_is) ∙ here ∙ told other

-- the texts of suppressions with one more, before there are lines
pub stands-given : (old : TableState) (patterns : List (List ℕ)) (text : List ℕ) (given : List (List ℕ))
    → patterns ≡ old.patterns ++ option_to_list (pattern_of text) → StandsAfter old given []
    → StandsAfter (record old { patterns = patterns }) (given ++ text ∷ []) []
stands-given old patterns text given added stands =
    let before : old.patterns ≡ patterns_of given ++ [] = ap (λ (t : TableState). t.patterns) stands.tables_is in
    let more : patterns ≡ patterns_of (given ++ text ∷ []) ++ [] =
    added
    ∙ ap (λ (all : List (List ℕ)). all ++ option_to_list (pattern_of text)) (before ∙ append-nil (patterns_of given))
    ∙ sym (filter_map-push pattern_of given text) ∙ sym (append-nil (patterns_of (given ++ text ∷ []))) in
    record {
      tables_is =
          ap (λ (t : TableState). record t { patterns = patterns }) stands.tables_is
          ∙ ap (λ (all : List (List ℕ)). record (tables_after given []) { patterns = all }) more;
      no_fault = refl;
      first = λ none. tt;
    }

-- an event adds neither stack nor info
grows-event : (old new : TableState) (event : Option Event) → new.nodes ≡ old.nodes → new.infos ≡ old.infos
    → Grows old (event_step event) new
grows-event old new None nodes infos =
    record { stacks = omega (arith, ap length nodes); infos = infos ∙ sym (append-nil old.infos) }
grows-event old new (Some event) nodes infos =
    record { stacks = omega (arith, ap length nodes); infos = infos ∙ sym (append-nil old.infos) }

grows-state : (old : TableState) (said : Content) → Grows old (step_in old.infos said) (state_after old said)
grows-state old (node_line instruction parent) =
    record { stacks = length-append old.nodes _; infos = sym (append-nil old.infos) }
grows-state old (info_line size trace) = record { stacks = omega arith; infos = refl }
grows-state old said = grows-event old (state_after old said) (event_in old.infos said) refl refl

-- the tables grow by the step of what a line says
pub grows-after : (old new : TableState) (said : Content) (step : Step) → Takes old said step new → Grows old step new
grows-after old new said step takes =
    subst (λ (t : TableState). Grows old step t) (sym takes.added)
    (subst (λ (step : Step). Grows old step (state_after old said)) (sym takes.step_is) (grows-state old said))
