-- One step of tables and of a follower beside them.
use Rattle.std.proofs.Common.{◌≡◌, ℕ, ◌+◌, ◌*◌, ◌^◌, ◌<◌, ◌≤◌, List, [], ◌∷◌, ◌++◌, length, take, length-append, None}
use Rattle.std.proofs.Common.{Some, refl, ap, ap₂, sym, subst, ◌∙◌, append-nil, arith}
use Rattle.std.proofs.lemmas.List.{take-append-le, take_all}
use Rattle.std.specs.Option.{option_map, option_or, option_to_list}
use Rattle.live_ledger.specs.declared.event.Event.{Event}
use Rattle.live_ledger.specs.declared.event.Event.TheVariants.{Alloc, Free, Tick}
use Rattle.peak_costs.specs.Peak as peaks
use Rattle.peak_costs.specs.PeakState.{PeakState}
use Rattle.peak_costs.specs.PeakTotals as totals
use Rattle.peak_costs.specs.PeakTotals.{PeakTotalsState}
use Rattle.ht_trace.specs.declared.step.Step.{Step}
use Rattle.ht_trace.specs.declared.step.Step.TheVariants as step
use Rattle.ht_trace.specs.Continues.{Extends}
use Rattle.ht_trace.specs.HeldStack.{HasHeldEvent}
use Rattle.ht_trace.specs.LedgerFits.{CanTake, Grows, IsBeside, infos_in, least_length, least_length_of, stacks_in}
use Rattle.ht_trace.specs.HeldStack.{HasHeldStack}
use Rattle.ht_trace.specs.LineFault as tables
use Rattle.ht_trace.specs.Pattern.{patterns_of}
use Rattle.ht_trace.specs.StandsFor.{StandsAfter, StandsFor}
use Rattle.ht_trace.specs.StepOf.{event_of, step_of}
use Rattle.ht_trace.specs.TableState.{TableState}
use Rattle.ht_trace.specs.TraceEvents.{events}
use Rattle.live_ledger.specs.LedgerState.{IsHeld, LedgerState}
use Rattle.trace_reading.specs.PassesFront.{PassesFront}
use Rattle.trace_reading.specs.Following.{Following, HasFollowed, IsAsBefore, IsNew, MayTake, events_in}
use Rattle.trace_reading.specs.PeaksView.{peaks_view}
use Rattle.trace_reading.specs.Reading.{HasRead, HasReadFirst, IsSound, measure_of}
use Rattle.trace_reading.specs.TotalsView.{totals_view}
use Rattle.trace_reading.specs.TraceFault.{told}
use Rattle.trace_reading.specs.TraceReport.{EventFaults, content_fault, fault_among, patterns_before, tables_behind}
use Rattle.trace_reading.specs.TraceReport.{trace_report}
use Rattle.trace_reading.specs.declared.fault.TraceFault.TheVariants.{Line, Event as event_fault}

-- peaks of no events have followed nothing
pub new_peaks : (made : PeakState) → peaks.StandsFor made [] → made.ledger.stacks ≡ 1 → made.ledger.infos ≡ []
    → (now : TableState) → IsNew now (peaks_view made)
new_peaks made stands stacks infos now = record {
  sound = tt;
  stacks = stacks;
  infos = infos;
  events = stands.ledger.whole.figures.events_is;
  stands = stands;
}

-- and so have totals of no events
pub new_totals : (made : PeakTotalsState) → totals.StandsFor made [] → made.ledger.stacks ≡ 1 → made.ledger.infos ≡ []
    → (now : TableState) → IsNew now (totals_view made)
new_totals made stands stacks infos now = record {
  sound = tt;
  stacks = stacks;
  infos = infos;
  events = stands.ledger.figures.events_is;
  stands = stands;
}

-- a trace of which no line was read is sound
pub new_sound : (now : TableState) (follower : Following) → now.nodes ≡ [] → now.infos ≡ [] → IsNew now follower
    → IsSound now follower
new_sound now follower nodes infos fresh = record {
  beside = record {
    stacks = omega (arith, fresh.stacks, ap length nodes);
    infos = fresh.infos ∙ sym infos;
  };
  follower_sound = fresh.sound;
  taken = [];
  stands = fresh.stands;
  few = omega (arith, fresh.events, ap length nodes);
}

-- and weighs nothing
pub new_measure : (now : TableState) (follower : Following) → now.nodes ≡ [] → IsNew now follower
    → measure_of now follower ≡ 0
new_measure now follower nodes fresh = omega (arith, fresh.events, ap length nodes)

-- no line was read of it, behind the patterns that its tables hold
pub new_read : (now : TableState) (follower : Following) (given : List (List ℕ)) → IsNew now follower
    → StandsAfter now given [] → HasRead now follower now.patterns []
new_read now follower given fresh stands = record {
  given = given;
  patterns_are = ap (λ (t : TableState). t.patterns) stands.tables_is ∙ append-nil (patterns_of given);
  tables_of = stands;
  stands = fresh.stands;
}

-- where no patterns were given before, what is made of a trace is that of its lines alone, by the
-- writer that was handed in
pub new_report : {W : Type 0} (faults : EventFaults) (text : W → List (List ℕ) → List (List ℕ) → List ℕ)
    (before : List (List ℕ)) (now : TableState) (given handed : W)
    → StandsFor now [] → before ≡ now.patterns
    → given ≡ handed → trace_report faults before (text given before) ≡ trace_report faults [] (text handed [])
new_report faults text before now given handed stands patterns writer =
    let none : before ≡ [] = patterns ∙ ap (λ (t : TableState). t.patterns) stands.tables_is in
    ap (λ patterns. trace_report faults patterns (text given patterns)) none
    ∙ ap (λ writer. trace_report faults [] (text writer [])) writer

-- patterns that were given before stay where more come
pub before_stays : (given : ℕ) (old new : List (List ℕ)) → Extends old new → given ≤ length old
    → take given new ≡ take given old
before_stays given old new more held = ap (take given) more.1 ∙ take-append-le given old more.0 held

-- and they are held still
pub held_still : (given : ℕ) (old new : List (List ℕ)) → Extends old new → given ≤ length old → given ≤ length new
held_still given old new more held = omega (arith, ap length more.1, length-append old more.0, held)

-- at the first line, the patterns that were given are all
pub before_all : (given : ℕ) (now : TableState) → given ≡ length now.patterns → patterns_before given now ≡ now.patterns
before_all given now count = take_all given now.patterns (omega arith)

-- tables that stand for lines are those behind the patterns
pub tables_are : (now : TableState) (given patterns lines : List (List ℕ)) → patterns ≡ patterns_of given
    → StandsAfter now given lines → now ≡ tables_behind patterns lines
tables_are now given patterns lines are stands = stands.tables_is ∙ ap (λ before. tables_behind before lines) (sym are)

-- the fault of a line beside the tables is that behind the texts of suppressions that were given
pub fault_behind : (given patterns lines : List (List ℕ)) (line : List ℕ) → patterns ≡ patterns_of given
    → tables.fault_in (tables_behind patterns lines) line ≡ tables.line_fault_after given lines line
fault_behind given patterns lines line are = ap (λ before. tables.fault_in (tables_behind before lines) line) are

-- the fault of a line that the tables take is that of what it brings
pub taken_line : (faults : EventFaults) (now : TableState) (given patterns earlier : List (List ℕ)) (line : List ℕ)
    (brought : Step)
    → patterns ≡ patterns_of given
    → tables.line_fault_after given earlier line ≡ None → StandsAfter now given (earlier ++ line ∷ [])
    → brought ≡ step_of earlier line
    → content_fault faults patterns earlier line
    ≡ option_map (λ fault. told (event_fault fault)) (fault_among faults now (events earlier) (event_of brought))
taken_line faults now given patterns earlier line brought are none stands is =
    ap₂ (λ found followed. option_or (option_map (λ error. told (Line error)) found)
    (option_map (λ fault. told (event_fault fault)) followed))
    (fault_behind given patterns earlier line are ∙ none)
    (ap₂ (λ state says. fault_among faults state (events earlier) (event_of says))
    (sym (tables_are now given patterns (earlier ++ line ∷ []) are stands)) (sym is))

-- what a step adds to the measure is within its line
event_measure : (event : Event) → 4 ≤ least_length_of event + 1
event_measure (Alloc info stack size) = omega arith
event_measure (Free info stack size) = omega arith
event_measure (Tick ms) = omega arith

step_measure : (brought : Step) → 4 * events_in brought + stacks_in brought ≤ least_length brought + 1
step_measure step.Nothing = omega arith
step_measure step.Stack = omega arith
step_measure (step.Info stack size) = omega arith
step_measure (step.Event event) = omega (arith, event_measure event)

pub measure_still : (old new : TableState) (follower grown : Following) (brought : Step) (size : ℕ)
    → Grows old brought new → HasFollowed new follower grown brought → least_length brought ≤ size
    → measure_of new grown ≤ measure_of old follower + size + 1
measure_still old new follower grown brought size grows followed least =
    omega (arith, step_measure brought, grows.stacks, followed.events, least)

-- tables and a follower that took a step are sound still
pub sound_still : (old new : TableState) (follower grown : Following) (brought : Step) (sound : IsSound old follower)
    → Grows old brought new → HasFollowed new follower grown brought
    → follower.stands new sound.taken → measure_of new grown ≤ 2 ^ 34 + 1 → IsSound new grown
sound_still old new follower grown brought sound grows followed stands few = record {
  beside = record {
    stacks = omega (arith, followed.stacks, sound.beside.stacks, grows.stacks);
    infos = followed.infos ∙ (ap (λ infos. infos ++ infos_in brought) sound.beside.infos ∙ sym grows.infos);
  };
  follower_sound = followed.sound;
  taken = sound.taken ++ option_to_list (event_of brought);
  stands = followed.stands sound.taken stands;
  few = few;
}

-- what a line brings may be taken, beside the tables with it
pub may_take : (old new : TableState) (follower : Following) (brought : Step) (size : ℕ) (sound : IsSound old follower)
    → CanTake follower.ledger brought → HasHeldStack new brought → Grows old brought new
    → follower.stands new sound.taken → least_length brought ≤ size → measure_of old follower + size ≤ 2 ^ 34
    → MayTake new follower brought
may_take old new follower brought size sound can held grows stands least room = record {
  sound = sound.follower_sound;
  taken = sound.taken;
  stands = stands;
  can = can;
  stacks = omega (arith, sound.beside.stacks, grows.stacks);
  stack_held = held;
  room = omega (arith, least, room);
}

-- what tables and follower have read, with one line more
pub has_read : (old new : TableState) (follower grown : Following) (line : List ℕ) (brought : Step)
    → HasFollowed new follower grown brought
    → ((taken : List Event) → follower.stands old taken → follower.stands new taken)
    → ((given lines : List (List ℕ)) → StandsAfter old given lines → StandsAfter new given (lines ++ line ∷ []))
    → ((given lines : List (List ℕ)) → StandsAfter old given lines
    → events (lines ++ line ∷ []) ≡ events lines ++ option_to_list (event_of brought))
    → (patterns lines : List (List ℕ)) → HasRead old follower patterns lines
    → HasRead new grown patterns (lines ++ line ∷ [])
has_read old new follower grown line brought followed goes stands brings patterns lines has = record {
  given = has.given;
  patterns_are = has.patterns_are;
  tables_of = stands has.given lines has.tables_of;
  stands =
      subst (grown.stands new) (sym (brings has.given lines has.tables_of))
      (followed.stands (events lines) (goes (events lines) has.stands));
}

-- tables that pass the line of an event don't grow
pub same_tables : (now : TableState) (event : Event) → Grows now (step.Event event) now
same_tables now event = record { stacks = omega arith; infos = sym (append-nil now.infos) }

-- the line of an event at the front may be taken
pub may_take_event : (now : TableState) (follower : Following) (event : Event) (size : ℕ) → IsSound now follower
    → IsHeld follower.ledger event → HasHeldEvent now event → least_length_of event ≤ size
    → measure_of now follower + size ≤ 2 ^ 34 → MayTake now follower (step.Event event)
may_take_event now follower event size sound held stack least room =
    may_take now now follower (step.Event event) size sound held stack (same_tables now event) sound.stands least room

-- and it was read where the follower took it
pub first_read : (faults : EventFaults) (now : TableState) (follower grown : Following) (ready : List ℕ) (bytes : ℕ)
    (event : Event)
    → IsSound now follower → PassesFront now ready bytes event → 3 < bytes
    → bytes ≤ length ready → measure_of now follower + length ready ≤ 2 ^ 34
    → HasFollowed now follower grown (step.Event event)
    → ((taken : List Event) → follower.stands now taken → faults now taken event ≡ None)
    → HasReadFirst faults now follower grown ready (Some bytes)
first_read faults now follower grown ready bytes event sound front least held room followed none =
    let measure : measure_of now grown ≤ measure_of now follower + bytes = omega (arith, followed.events, least) in
    record {
      sound =
          sound_still now now follower grown (step.Event event) sound (same_tables now event) followed sound.stands
          (omega (arith, measure, held, room));
      held = held;
      measure = measure;
      taken = λ patterns text output. record {
        line = front.line;
        one_line = front.one_line;
        short = front.short;
        rest = front.rest;
        split = front.split;
        size = front.size;
        no_fault = λ earlier has.
            taken_line faults now has.given patterns earlier front.line (step.Event event) has.patterns_are
            (front.passes.no_fault has.given earlier has.tables_of)
            (front.passes.stands has.given earlier has.tables_of)
            (sym (front.passes.brings has.given earlier has.tables_of))
            ∙ ap (option_map (λ fault. told (event_fault fault))) (none (events earlier) has.stands);
        gained = λ earlier has. sym (append-nil output);
        taken =
            has_read now now follower grown front.line (step.Event event) followed (λ taken stands. stands)
            front.passes.stands front.passes.events patterns;
      };
    }

-- nothing changed
pub as_before : (follower : Following) → IsAsBefore follower follower
as_before follower = record { ledger = refl; sound = λ sound. sound; stands = λ tables taken stands. stands }

-- no line was read, where the follower is as before
pub first_unread : (faults : EventFaults) (now : TableState) (old new : Following) (ready : List ℕ) → IsSound now old
    → IsAsBefore old new → HasReadFirst faults now old new ready None
first_unread faults now old new ready sound kept = record {
  sound = record {
    beside = subst (IsBeside now) (sym kept.ledger) sound.beside;
    follower_sound = kept.sound sound.follower_sound;
    taken = sound.taken;
    stands = kept.stands now sound.taken sound.stands;
    few =
        subst (λ (ledger : LedgerState). 4 * ledger.totals.events + length now.nodes ≤ 2 ^ 34 + 1) (sym kept.ledger)
        sound.few;
  };
  held = omega arith;
  measure =
      subst (λ (ledger : LedgerState). 4 * ledger.totals.events + length now.nodes ≤ measure_of now old + 0)
      (sym kept.ledger) (omega arith);
  taken = λ patterns text output. record {
    kept = λ lines read. record {
      given = read.given;
      patterns_are = read.patterns_are;
      tables_of = read.tables_of;
      stands = kept.stands now (events lines) read.stands;
    };
    same = refl;
  };
}
