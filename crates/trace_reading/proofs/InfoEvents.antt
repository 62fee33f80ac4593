-- The line of an event of an info, read without its text.
use Rattle.std.proofs.Common.{◌≡◌, ℕ, ◌+◌, ◌^◌, ◌<◌, ◌≤◌, false, List, [], ◌∷◌, ◌++◌, length, Option, None, Some}
use Rattle.std.proofs.Common.{Ok, Err, slice_get, refl, ap, sym, subst, ◌∙◌, append-nil, arith}
use Rattle.std.proofs.lemmas.Bool.{le-ltb}
use Rattle.std.specs.Option.{option_map, option_or}
use Rattle.hp_num.specs.Hexadecimal.{hexadecimal}
use Rattle.hp_num.specs.ParsedHex.{parsed_hex}
use Rattle.live_ledger.specs.declared.event.Event.{Event}
use Rattle.live_ledger.specs.declared.event.EventFault.{EventFault}
use Rattle.live_ledger.specs.LedgerState.{HeldInfo, LedgerState, without_figures}
use Rattle.live_ledger.specs.TotalsState.{TotalsState, ledger_of}
use Rattle.ht_lines.specs.declared.event.EventKind.{EventKind}
use Rattle.ht_lines.specs.declared.event.EventKind.TheVariants.{Allocation, Free as FreeKind}
use Rattle.ht_lines.specs.declared.item.Form.TheVariants.{Interpreted}
use Rattle.ht_lines.specs.Content.{allocation_line, free_line}
use Rattle.ht_lines.specs.EventLine.{event_content}
use Rattle.ht_lines.specs.Reading.{reading}
use Rattle.ht_lines.proofs.Laws.{reading-written}
use Rattle.ht_trace.specs.declared.error.LineError.TheVariants.{UnknownAllocation}
use Rattle.ht_trace.specs.declared.step.Step.TheVariants as step
use Rattle.ht_trace.specs.LineFault.{content_fault as said_fault, fault_in}
use Rattle.ht_trace.specs.LedgerFits.{IsBeside}
use Rattle.ht_trace.specs.PassesLine.{PassesLine, event_of_info}
use Rattle.ht_trace.specs.StepOf.{event_of, step_of}
use Rattle.ht_trace.specs.TableState.{TableState}
use Rattle.ht_trace.specs.TraceEvents.{events}
use Rattle.ht_trace.specs.VersionLines.{may_stand_first}
use Rattle.ht_trace.proofs.Laws.{passes_event}
use Rattle.command_frame.specs.declared.taker.LineRefusal.{LineRefusal}
use Rattle.command_frame.specs.declared.taker.LineRefusal.TheVariants.{Fault}
use Rattle.trace_reading.specs.EventText.{event_text, unheld_fault}
use Rattle.trace_reading.specs.Following.{AnswersEvent, AnswersFault, Following, HasFollowed}
use Rattle.trace_reading.specs.Reading.{HasRead, HasReadLine, IsSound, measure_of}
use Rattle.trace_reading.specs.TraceFault.{told}
use Rattle.trace_reading.specs.TraceReport.{EventFaults, content_fault, fault_among, tables_behind}
use Rattle.trace_reading.specs.declared.fault.TraceFault.TheVariants.{Line, Event as event_fault}
use Rattle.trace_reading.proofs.EventLemmas.{beside_whole}
use Rattle.trace_reading.proofs.ReadingLemmas.{has_read, same_tables, sound_still, tables_are, taken_line}

-- the line says the event in every file version
module _ (back : (n : ℕ) → n < 2 ^ 64 → parsed_hex (hexadecimal n) ≡ Some n) where
  pub text_says : (kind : EventKind) (info : ℕ) → info < 2 ^ 32 → (version : ℕ)
      → reading Interpreted version (event_text kind info) ≡ Ok (event_content kind info)
  text_says Allocation info fits version =
      ap (λ digits. reading Interpreted version (43 ∷ 32 ∷ digits)) (sym (append-nil (hexadecimal info)))
      ∙ reading-written back Interpreted version (allocation_line info) (omega (arith, fits), refl)
  text_says FreeKind info fits version =
      ap (λ digits. reading Interpreted version (45 ∷ 32 ∷ digits)) (sym (append-nil (hexadecimal info)))
      ∙ reading-written back Interpreted version (free_line info) (omega (arith, fits), refl)

  -- and where the info isn't held, its fault is that
  unheld_in : (now : TableState) (kind : EventKind) (info : ℕ) → info < 2 ^ 32 → length now.infos ≤ info
      → fault_in now (event_text kind info) ≡ Some (unheld_fault now.version)
  unheld_in now kind info fits past = by now.version refl
    where
      not_first : (k : EventKind) → may_stand_first (event_text k info) ≡ false
      not_first Allocation = refl
      not_first FreeKind = refl

      unknown : (k : EventKind) (t : TableState) → length t.infos ≤ info
          → said_fault t (event_content k info) ≡ Some UnknownAllocation
      unknown Allocation t past = rw (le-ltb info (length t.infos) past) refl
      unknown FreeKind t past = rw (le-ltb info (length t.infos) past) refl

      by : (version : Option ℕ) → now.version ≡ version
          → fault_in now (event_text kind info) ≡ Some (unheld_fault now.version)
      by None is = rw (is, not_first kind) refl
      by (Some file) is = rw (is, text_says kind info fits file) (unknown kind (record now { version = Some file }) past)

  -- and where a ledger beside them holds it, tables pass the line
  pub info_passes : (now : TableState) (ledger : LedgerState) (whole : TotalsState)
      → ledger_of whole ≡ without_figures ledger → IsBeside now ledger
      → (kind : EventKind) (info : ℕ) (held : HeldInfo) (event : Event) → info < 2 ^ 32
      → slice_get (ledger_of whole).infos info ≡ Some held → event ≡ event_of_info kind info held
      → PassesLine now (event_text kind info) event
  info_passes now ledger whole is beside kind info held event fits found event_is =
      let infos = (beside_whole now ledger whole is beside).infos in
      subst (PassesLine now (event_text kind info)) (sym event_is)
      (passes_event now (event_text kind info) kind info held (text_says kind info fits)
      (ap (λ list. slice_get list info) (sym infos) ∙ found))

-- the line has at least three bytes
pub least_text : (kind : EventKind) (info : ℕ) → 0 < length (hexadecimal info) → 3 ≤ length (event_text kind info)
least_text kind info some = omega (arith, some)

-- the fault of a line that the tables pass is that of its event
passed_fault : (faults : EventFaults) (now : TableState) (follower : Following) (line : List ℕ) (event : Event)
    → PassesLine now line event → (patterns lines : List (List ℕ)) → HasRead now follower patterns lines
    → content_fault faults patterns lines line
    ≡ option_map (λ fault. told (event_fault fault)) (faults now (events lines) event)
passed_fault faults now follower line event passes patterns lines has =
    taken_line faults now has.given patterns lines line (step.Event event) has.patterns_are
    (passes.no_fault has.given lines has.tables_of) (passes.stands has.given lines has.tables_of)
    (sym (passes.brings has.given lines has.tables_of))

-- such a line was read where the follower took its event
pub event_read : (faults : EventFaults) (now : TableState) (follower grown : Following) (line : List ℕ) (event : Event)
    → IsSound now follower → PassesLine now line event → 3 ≤ length line → measure_of now follower + 3 ≤ 2 ^ 34
    → HasFollowed now follower grown (step.Event event)
    → ((taken : List Event) → follower.stands now taken → faults now taken event ≡ None)
    → HasReadLine faults now follower now grown line
event_read faults now follower grown line event sound passes least room followed none =
    let measure : measure_of now grown ≤ measure_of now follower + 4 = omega (arith, followed.events) in
    record {
      sound =
          sound_still now now follower grown (step.Event event) sound (same_tables now event) followed sound.stands
          (omega (arith, measure, room));
      measure = omega (arith, measure, least);
      no_fault = λ patterns lines has.
          passed_fault faults now follower line event passes patterns lines has
          ∙ ap (option_map (λ fault. told (event_fault fault))) (none (events lines) has.stands);
      read =
          has_read now now follower grown line (step.Event event) followed (λ taken stands. stands) passes.stands
          passes.events;
    }

-- and it has the event's fault, where that has one
pub event_refused : (faults : EventFaults) (now : TableState) (follower : Following) (line : List ℕ)
    (event : Event) (refusal : LineRefusal EventFault) (fault : EventFault)
    → PassesLine now line event → refusal ≡ Fault fault → AnswersEvent {T = Unit {0}} faults now follower event (Err refusal)
    → (patterns lines : List (List ℕ)) → HasRead now follower patterns lines
    → content_fault faults patterns lines line ≡ Some (told (event_fault fault))
event_refused faults now follower line event refusal fault passes is answers patterns lines has =
    passed_fault faults now follower line event passes patterns lines has
    ∙ ap (option_map (λ fault. told (event_fault fault)))
    (subst (λ r. AnswersFault {T = Unit {0}} (Err r) (faults now (events lines) event)) is (answers (events lines) has.stands))

-- the line of an event whose info isn't held has the tables' fault
pub unheld_refused : ((n : ℕ) → n < 2 ^ 64 → parsed_hex (hexadecimal n) ≡ Some n) → (faults : EventFaults)
    (now : TableState) (follower : Following) (kind : EventKind) (info : ℕ)
    → info < 2 ^ 32 → length now.infos ≤ info
    → (patterns lines : List (List ℕ)) → HasRead now follower patterns lines
    → content_fault faults patterns lines (event_text kind info) ≡ Some (told (Line (unheld_fault now.version)))
unheld_refused back faults now follower kind info fits past patterns lines has =
    let line : List ℕ = event_text kind info in
    let found : fault_in (tables_behind patterns lines) line ≡ Some (unheld_fault now.version) =
    ap (λ (t : TableState). fault_in t line) (sym (tables_are now has.given patterns lines has.patterns_are has.tables_of))
    ∙ unheld_in back now kind info fits past in
    ap (λ error. option_or (option_map (λ e. told (Line e)) error)
    (option_map (λ fault. told (event_fault fault))
    (fault_among faults (tables_behind patterns (lines ++ line ∷ [])) (events lines) (event_of (step_of lines line)))))
    found
