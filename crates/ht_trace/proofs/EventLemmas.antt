-- Lines of events of held infos.
use Rattle.std.proofs.Common.{◌≡◌, ℕ, true, false, List, [], length, Option, Some, Ok, refl, sym, ap, ◌∙◌, arith}
use Rattle.std.specs.Prelude.{◌||◌, Bool, is_some, slice_get, unwrap_or}
use Rattle.std.specs.Option.{option_map}
use Rattle.std.proofs.lemmas.Bool.Decides.{nat_tests}
use Rattle.std.proofs.lemmas.Option.{slice_get_within}
use Rattle.ht_lines.specs.declared.event.EventKind.{EventKind}
use Rattle.ht_lines.specs.declared.event.EventKind.TheVariants.{Allocation, Free as FreeKind}
use Rattle.ht_lines.specs.declared.item.Form.TheVariants.{Interpreted}
use Rattle.ht_lines.specs.Content.{Content}
use Rattle.ht_lines.specs.EventLine.{event_content}
use Rattle.ht_lines.specs.Reading.{reading}
use Rattle.live_ledger.specs.declared.event.Event.{Event}
use Rattle.live_ledger.specs.declared.event.Event.TheVariants.{Alloc, Free}
use Rattle.live_ledger.specs.LedgerState.{HeldInfo}
use Rattle.ht_trace.specs.declared.step.Step.TheVariants as step
use Rattle.ht_trace.specs.Contents.{contents, file_version}
use Rattle.ht_trace.specs.LineFault.{fault_in}
use Rattle.ht_trace.specs.VersionLines.{may_stand_first}
use Rattle.ht_trace.specs.PassesLine.{PassesLine, event_of_info}
use Rattle.ht_trace.specs.StandsFor.{StandsAfter}
use Rattle.ht_trace.specs.StateAfter.{Takes}
use Rattle.ht_trace.specs.StepOf.{event_step, reading_step, step_in}
use Rattle.ht_trace.specs.TableState.{TableState}
use Rattle.ht_trace.specs.TraceLists.{infos}
use Rattle.ht_trace.proofs.FirstLemmas.{first_bring_none}
use Rattle.ht_trace.proofs.LineLemmas.{events-push, no_fault_in, stands-push}

-- the tables take what such a line says, and stay as they are
takes-event : (tables : TableState) (kind : EventKind) (info : ℕ) (held : HeldInfo)
    → slice_get tables.infos info ≡ Some held
    → Takes tables (event_content kind info) (step.Event (event_of_info kind info held)) tables
takes-event tables Allocation info held at = record {
  no_fault = grind (arith, nat_tests, slice_get_within tables.infos info held at);
  step_is =
      sym (ap (λ (o : Option HeldInfo). event_step (option_map (λ found. Alloc info found.stack found.size) o)) at);
  added = refl;
}
takes-event tables FreeKind info held at = record {
  no_fault = grind (arith, nat_tests, slice_get_within tables.infos info held at);
  step_is =
      sym (ap (λ (o : Option HeldInfo). event_step (option_map (λ found. Free info found.stack found.size) o)) at);
  added = refl;
}

-- so a line that says it is taken, whatever the lines before it
passes-line : (tables : TableState) (line : List ℕ) (said : Content) (event : Event) → is_some tables.version ≡ true
    → ((version : ℕ) → reading Interpreted version line ≡ Ok said) → Takes tables said (step.Event event) tables
    → PassesLine tables line event
passes-line tables line said event versioned says takes =
    let may = ap (λ (b : Bool). b || may_stand_first line) versioned in
    let read = says (unwrap_or tables.version 1) in
    record {
      no_fault =
          λ given lines stands. ap (λ (t : TableState). fault_in t line) (sym stands.tables_is)
          ∙ no_fault_in tables said line may read takes.no_fault;
      brings = λ given lines stands.
          let same : infos (contents lines) ≡ tables.infos = sym (ap (λ (t : TableState). t.infos) stands.tables_is) in
          ap (reading_step (infos (contents lines))) (says (file_version lines))
          ∙ ap (λ (held : List HeldInfo). step_in held said) same ∙ sym takes.step_is;
      stands =
          λ given lines stands. stands-push tables tables said
          (step.Event event) line may read takes given lines stands;
      events =
          λ given lines stands. events-push tables tables said
          (step.Event event) line may read takes given lines stands;
    }

-- before it there is no info
no_info : (tables : TableState) (given lines : List (List ℕ)) (info : ℕ) (held : HeldInfo)
    → is_some tables.version ≡ false → slice_get tables.infos info ≡ Some held → StandsAfter tables given lines → ⊥
no_info tables given lines info held unversioned at stands =
    let none : tables.infos ≡ [] =
    ap (λ (t : TableState). t.infos) stands.tables_is
    ∙ first_bring_none (file_version lines) lines (stands.first unversioned) in
    let within = slice_get_within tables.infos info held at in
    omega (arith, within, ap length none)

-- so all such lines are taken, of any tables
pub passes_event : (tables : TableState) (line : List ℕ) (kind : EventKind) (info : ℕ) (held : HeldInfo)
    → ((version : ℕ) → reading Interpreted version line ≡ Ok (event_content kind info))
    → slice_get tables.infos info ≡ Some held → PassesLine tables line (event_of_info kind info held)
passes_event tables line kind info held says at = by (is_some tables.version) refl
  where
    by : (versioned : Bool) → is_some tables.version ≡ versioned → PassesLine tables line (event_of_info kind info held)
    by true is =
        passes-line tables line (event_content kind info) (event_of_info kind info held) is says
        (takes-event tables kind info held at)
    by false is =
        let never : (given lines : List (List ℕ)) → StandsAfter tables given lines → ⊥ =
        λ given lines stands. no_info tables given lines info held is at stands in
        record {
          no_fault = λ given lines stands. absurd (never given lines stands);
          brings = λ given lines stands. absurd (never given lines stands);
          stands = λ given lines stands. absurd (never given lines stands);
          events = λ given lines stands. absurd (never given lines stands);
        }
