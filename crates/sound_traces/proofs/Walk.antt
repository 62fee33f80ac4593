-- From lines that say something without a fault to a trace without one.
use Rattle.std.proofs.Common.{◌≡◌, ℕ, suc, zero, ◌+◌, ◌^◌, ◌<◌, ◌||◌, true, List, [], ◌∷◌, ◌++◌, Option, Some, None}
use Rattle.std.proofs.Common.{is_some, unwrap_or, Ok, refl, ap, sym, subst, ◌∙◌, arith}
use Rattle.std.specs.Option.{option_to_list}
use Rattle.hp_num.specs.Hexadecimal.{hexadecimal}
use Rattle.hp_num.specs.ParsedHex.{parsed_hex}
use Rattle.live_ledger.specs.declared.event.Event.{Event}
use Rattle.ht_lines.specs.Content.{Content}
use Rattle.ht_lines.specs.declared.item.Form.TheVariants.{Interpreted}
use Rattle.ht_lines.specs.Reading.{reading}
use Rattle.ht_lines.specs.Written.{IsWritable, written}
use Rattle.ht_lines.proofs.Laws.{reading-written}
use Rattle.ht_trace.specs.LineFault.{content_fault, fault_in}
use Rattle.ht_trace.specs.VersionLines.{may_stand_first}
use Rattle.ht_trace.specs.StandsFor.{StandsFor}
use Rattle.ht_trace.specs.StateAfter.{Takes, state_after}
use Rattle.ht_trace.specs.StepOf.{event_of, reading_step, step_in}
use Rattle.ht_trace.specs.TableState.{TableState}
use Rattle.ht_trace.specs.TraceEvents.{events}
use Rattle.ht_trace.proofs.Laws.{events-push, no_fault_in, stands-push}
use Rattle.trace_gen.specs.GeneratedTrace.{lines_from}
use Rattle.sound_traces.specs.NoFault.{HasNoFault, IsGood, event_fault}

-- what holds of the tables and the events of some lines
abbrev pub Holds : Type 1
Holds = TableState → List Event → Type 0

-- the tables stand for the lines, whose file version is 2
pub record Reached (P : TableState → List Event → Type 0) (earlier : List (List ℕ)) : Type 0 where
  pub tables : TableState
  pub stands : StandsFor tables earlier
  pub version : tables.version ≡ Some 2
  pub holds : P tables (events earlier)

-- what a line says has no fault, and leads further
pub record Follows (Q : TableState → List Event → Type 0) (said : Content) (tables : TableState)
    (taken : List Event) : Type 0 where
  pub no_fault : content_fault tables said ≡ None
  pub event : Option Event
  pub brings : event_of (step_in tables.infos said) ≡ event
  pub no_event_fault : event_fault taken event ≡ None
  pub version : (state_after tables said).version ≡ Some 2
  pub holds : Q (state_after tables said) (taken ++ option_to_list event)

module _ (back : (n : ℕ) → n < 2 ^ 64 → parsed_hex (hexadecimal n) ≡ Some n) where
  -- a line that says something in the file version of the tables
  pub one_line : (Q : TableState → List Event → Type 0) (tables : TableState) (file : ℕ) (line : List ℕ)
      (said : Content) (earlier : List (List ℕ))
      → StandsFor tables earlier
      → unwrap_or tables.version 1 ≡ file → (is_some tables.version || may_stand_first line) ≡ true
      → line ≡ written file said → IsWritable Interpreted file said
      → Follows Q said tables (events earlier) → IsGood earlier line × Reached Q (earlier ++ line ∷ [])
  one_line Q tables file line said earlier stands version may line_is writable follows =
      let read : reading Interpreted (unwrap_or tables.version 1) line ≡ Ok said =
      ap (λ v. reading Interpreted v line) version
      ∙ (ap (reading Interpreted file) line_is ∙ reading-written back Interpreted file said writable) in
      let takes : Takes tables said (step_in tables.infos said) (state_after tables said) =
      record { no_fault = follows.no_fault; step_is = refl; added = refl } in
      let after : events (earlier ++ line ∷ []) ≡ events earlier ++ option_to_list follows.event =
      events-push tables (state_after tables said) said (step_in tables.infos said) line may read takes [] earlier
      stands
      ∙ ap (λ event. events earlier ++ option_to_list event) follows.brings in
      let good =
      ap (λ (t : TableState). fault_in t line) (sym stands.tables_is)
      ∙ no_fault_in tables said line may read follows.no_fault in
      let brings =
      ap (λ (t : TableState). event_of (reading_step t.infos (reading Interpreted (unwrap_or t.version 1) line)))
      (sym stands.tables_is)
      ∙ (ap (λ r. event_of (reading_step tables.infos r)) read ∙ follows.brings) in (
        (good, ap (event_fault (events earlier)) brings ∙ follows.no_event_fault),
        record {
          tables = state_after tables said;
          stands =
              stands-push tables (state_after tables said) said
              (step_in tables.infos said) line may read takes [] earlier
              stands;
          version = follows.version;
          holds = subst (Q (state_after tables said)) (sym after) follows.holds;
        },
      )

  -- the same behind the version line
  pub next_line : (P Q : TableState → List Event → Type 0) (line : List ℕ) (said : Content) → line ≡ written 2 said
      → IsWritable Interpreted 2 said
      → ((tables : TableState) (taken : List Event) → tables.version ≡ Some 2 → P tables taken
      → Follows Q said tables taken)
      → (earlier : List (List ℕ)) → Reached P earlier → IsGood earlier line × Reached Q (earlier ++ line ∷ [])
  next_line P Q line said line_is writable follows earlier reached =
      one_line Q reached.tables 2 line said earlier reached.stands (ap (λ v. unwrap_or v 1) reached.version)
      (ap (λ v. is_some v || may_stand_first line) reached.version) line_is writable
      (follows reached.tables (events earlier) reached.version reached.holds)

  -- all lines of a group, of which each leads from its number to the next
  pub walk : (P : ℕ → TableState → List Event → Type 0) (line : ℕ → List ℕ) (says : ℕ → Content) (size : ℕ)
      (rest : List (List ℕ))
      → ((k : ℕ) → k < size → (line k ≡ written 2 (says k)) × IsWritable Interpreted 2 (says k))
      → ((k : ℕ) → k < size → (tables : TableState) (taken : List Event) → tables.version ≡ Some 2 → P k tables taken
      → Follows (P (k + 1)) (says k) tables taken)
      → ((before : List (List ℕ)) → Reached (P size) before → HasNoFault before rest)
      → (count first : ℕ) → first + count ≡ size → (earlier : List (List ℕ)) → Reached (P first) earlier
      → HasNoFault earlier (lines_from line first count ++ rest)
  walk P line says size rest reads follows ends zero first all earlier reached =
      let end : first ≡ size = omega (arith, all) in ends earlier (subst (λ n. Reached (P n) earlier) end reached)
  walk P line says size rest reads follows ends (suc count) first all earlier reached =
      let some : first < size = omega (arith, all) in
      let one =
      next_line (P first) (P (first + 1)) (line first) (says first) (reads first some).0 (reads first some).1
      (follows first some) earlier reached in (
        one.0,
        walk P line says size rest reads follows ends count (first + 1) (omega (arith, all))
            (earlier ++ line first ∷ []) one.1,
      )
