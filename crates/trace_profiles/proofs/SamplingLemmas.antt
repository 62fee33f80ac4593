-- A ledger and a sampler that take a step together.
use Rattle.std.proofs.Common.{◌≡◌, ◌⊎◌, inl, inr, ℕ, ◌+◌, List, [], ◌∷◌, ◌++◌, Bool, Option, None, Some, Err, Result}
use Rattle.std.proofs.Common.{◌≢◌, IfSome, length, ap, sym, subst, ◌∙◌, append-nil, arith}
use Rattle.cost_tree.specs.declared.frame_test.FrameTest.{FrameTest}
use Rattle.ht_trace.specs.StandsFor.{StandsFor}
use Rattle.ht_trace.specs.TableState.{TableState}
use Rattle.ht_trace.specs.TraceEvents.{events}
use Rattle.ht_trace.specs.declared.step.Step.TheVariants as step
use Rattle.live_ledger.specs.declared.event.Event.{Event}
use Rattle.live_ledger.specs.declared.event.EventFault.{EventFault}
use Rattle.live_ledger.specs.declared.totals.Totals.{Totals}
use Rattle.live_ledger.specs.LedgerState.{LedgerState, no_figures}
use Rattle.live_ledger.specs.StandsFor as ledger_spec
use Rattle.live_ledger.specs.Taken.{HasTaken}
use Rattle.massif_file.specs.declared.profile.Profile.{Profile}
use Rattle.massif_file.specs.MassifText.{massif_text}
use Rattle.massif_sample.specs.declared.fault.SampleFault.{SampleFault}
use Rattle.massif_sample.specs.declared.fault.SampleFault.TheVariants as sample
use Rattle.massif_sample.specs.declared.options.MassifOptions.{MassifOptions}
use Rattle.massif_sample.specs.declared.sampler.Sampler.{Sampler}
use Rattle.massif_sample.specs.FunctionNames.{ignores}
use Rattle.massif_sample.specs.MassifSettings.{MassifSettings}
use Rattle.massif_sample.specs.SampleFault.{Tells, sample_fault}
use Rattle.massif_sample.specs.Sampled.{sampled}
use Rattle.massif_sample.specs.SamplerCalls.{LeavesSampler}
use Rattle.massif_sample.specs.SamplesState.{SamplesState}
use Rattle.massif_sample.specs.StandsFor as sample_spec
use Rattle.massif_sample.specs.Taking.{TellsFault}
use Rattle.trace_reading.specs.Following.{HasFollowed, IsAsBefore, IsNew}
use Rattle.trace_reading.specs.TraceReport.{tables_behind}
use Rattle.trace_profiles.specs.MassifReport.{command_in, massif_written, sampler_faults}
use Rattle.trace_profiles.specs.SamplingView.{IsSettled, StandFor, sampling_view}

-- what is true of the one that there is, if there is one
pub at_some : {X : Type 0} (o : Option X) (x : X) (P : X → Type 0) → o ≡ Some x → IfSome o P → P x
at_some o x P is has = subst (λ q. IfSome q P) is has

-- tables of which no line was read are all the same, so what stands for no event beside some does so beside others
pub new_followed : {A I : Type 0} (settings : MassifSettings) (means : FrameTest A → FrameTest I → Type 0)
    (ledger : LedgerState) (sampler : Sampler A I) (fresh : TableState)
    → StandsFor fresh []
    → IsSettled settings means ledger sampler → StandFor settings ledger sampler fresh [] → ledger.stacks ≡ 1
    → ledger.infos ≡ [] → (tables : TableState) → StandsFor tables []
    → IsNew tables (sampling_view settings means ledger (Some sampler))
new_followed settings means ledger sampler fresh first settled stands stacks infos tables none = record {
  sound = settled;
  stacks = stacks;
  infos = infos;
  events = stands.figures.whole.figures.events_is;
  stands =
      subst (λ (state : TableState). StandFor settings ledger sampler state []) (first.tables_is ∙ sym none.tables_is)
      stands;
}

-- they stand for the same events beside tables that have grown
pub stand_still : {A I : Type 0} (settings : MassifSettings) (ledger : LedgerState) (sampler : Option (Sampler A I))
    (before after : TableState) (taken : List Event)
    → ((flags : List Bool) (samples : SamplesState) → sample_spec.StandsFor flags samples settings.names before taken
    → sample_spec.StandsFor flags samples settings.names after taken)
    → IfSome sampler (λ held. StandFor settings ledger held before taken)
    → IfSome sampler (λ held. StandFor settings ledger held after taken)
stand_still settings ledger (Some held) before after taken goes stands =
    record { figures = stands.figures; sampling = goes held.judged.items held.samples stands.sampling }
stand_still settings ledger None before after taken goes stands = tt

-- a stack more
pub stack_followed : {A I : Type 0} (settings : MassifSettings) (means : FrameTest A → FrameTest I → Type 0)
    (tables : TableState) (ledger grown : LedgerState) (held : Option (Sampler A I)) (old new : Sampler A I)
    → held ≡ Some old → IsSettled settings means ledger old
    → grown ≡ record ledger { stacks = ledger.stacks + 1; figures = ledger.figures ++ no_figures ∷ [] }
    → ((events : List Event) → ledger_spec.StandsFor ledger events → ledger_spec.StandsFor grown events)
    → ((events : List Event) → sample_spec.StandsFor old.judged.items old.samples settings.names tables events
    → sample_spec.StandsFor new.judged.items new.samples settings.names tables events)
    → length new.judged.items ≡ length old.judged.items + 1 → new.samples ≡ old.samples → new.alloc_fns ≡ old.alloc_fns
    → new.ignore_fns ≡ old.ignore_fns
    → HasFollowed tables (sampling_view settings means ledger held) (sampling_view settings means grown (Some new))
    step.Stack
stack_followed settings means tables ledger grown held old new is settled more figures sampling judged samples alloc_fns
    ignore_fns =
    let stacks : grown.stacks ≡ ledger.stacks + 1 = ap (λ (state : LedgerState). state.stacks) more in
    let none : grown.totals.events ≡ ledger.totals.events = ap (λ (state : LedgerState). state.totals.events) more in
    record {
      sound = record {
        meant = rw (alloc_fns, ignore_fns) settled.meant;
        options = ap (λ (state : SamplesState). state.options) samples ∙ settled.options;
        judged = omega (arith, judged, stacks, settled.judged);
      };
      stacks = stacks;
      infos = ap (λ (state : LedgerState). state.infos) more ∙ sym (append-nil ledger.infos);
      events = omega (arith, none);
      stands = λ taken stands.
          let at = at_some held old (λ one. StandFor settings ledger one tables taken) is stands in
          subst (StandFor settings grown new tables) (sym (append-nil taken))
          (record { figures = figures taken at.figures; sampling = sampling taken at.sampling });
    }

-- an info more
pub info_followed : {A I : Type 0} (settings : MassifSettings) (means : FrameTest A → FrameTest I → Type 0)
    (tables : TableState) (ledger grown : LedgerState) (sampler : Option (Sampler A I)) (stack size : ℕ)
    → IfSome sampler (λ held. IsSettled settings means ledger held)
    → grown.infos ≡ ledger.infos ++ record { stack = stack; size = size } ∷ [] → grown.stacks ≡ ledger.stacks
    → grown.totals ≡ ledger.totals
    → ((events : List Event) → ledger_spec.StandsFor ledger events → ledger_spec.StandsFor grown events)
    → HasFollowed tables (sampling_view settings means ledger sampler) (sampling_view settings means grown sampler)
    (step.Info stack size)
info_followed {A} {I} settings means tables ledger grown sampler stack size settled infos stacks totals
    figures = record {
      sound = sound sampler settled;
      stacks = omega (arith, stacks);
      infos = infos;
      events = omega (arith, ap (λ (sums : Totals). sums.events) totals);
      stands = λ taken. stands sampler taken;
    }
  where
    sound : (one : Option (Sampler A I)) → IfSome one (λ held. IsSettled settings means ledger held)
        → IfSome one (λ held. IsSettled settings means grown held)
    sound (Some held) before =
        record { meant = before.meant; options = before.options; judged = before.judged ∙ sym stacks }
    sound None before = tt

    stands : (one : Option (Sampler A I)) (taken : List Event)
        → IfSome one (λ held. StandFor settings ledger held tables taken)
        → IfSome one (λ held. StandFor settings grown held tables (taken ++ []))
    stands (Some held) taken before =
        subst (StandFor settings grown held tables) (sym (append-nil taken))
        (record { figures = figures taken before.figures; sampling = before.sampling })
    stands None taken before = tt

-- an event more, which the sampler has taken too
pub event_followed : {A I : Type 0} (settings : MassifSettings) (means : FrameTest A → FrameTest I → Type 0)
    (tables : TableState) (ledger grown : LedgerState) (held : Option (Sampler A I)) (old new : Sampler A I)
    (event : Event)
    → held ≡ Some old → IsSettled settings means ledger old → HasTaken ledger grown event
    → ((events : List Event) → sample_spec.StandsFor old.judged.items old.samples settings.names tables events
    → ledger_spec.StandsFor ledger events
    → sample_spec.StandsFor new.judged.items new.samples settings.names tables (events ++ event ∷ []))
    → new.judged.items ≡ old.judged.items → new.samples.options ≡ old.samples.options → new.alloc_fns ≡ old.alloc_fns
    → new.ignore_fns ≡ old.ignore_fns
    → HasFollowed tables (sampling_view settings means ledger held) (sampling_view settings means grown (Some new))
    (step.Event event)
event_followed settings means tables ledger grown held old new event is settled taken sampling judged options alloc_fns
    ignore_fns = record {
      sound = record {
        meant = rw (alloc_fns, ignore_fns) settled.meant;
        options = options ∙ settled.options;
        judged = ap length judged ∙ (settled.judged ∙ sym taken.stacks);
      };
      stacks = omega (arith, taken.stacks);
      infos = taken.infos ∙ sym (append-nil ledger.infos);
      events = taken.at_most_one_more;
      stands = λ events stands.
          let at = at_some held old (λ one. StandFor settings ledger one tables events) is stands in
          record { figures = taken.stands events at.figures; sampling = sampling events at.sampling at.figures };
    }

-- an event more, for whose snapshot memory was wanting: the ledger has taken it or not
pub event_let_go : {A I : Type 0} (settings : MassifSettings) (means : FrameTest A → FrameTest I → Type 0)
    (tables : TableState) (ledger grown : LedgerState) (held after : Option (Sampler A I)) (event : Event)
    → after ≡ None → (grown ≡ ledger) ⊎ HasTaken ledger grown event
    → HasFollowed tables (sampling_view settings means ledger held) (sampling_view settings means grown after)
    (step.Event event)
event_let_go settings means tables ledger grown held after event none (inl same) =
    let stacks : grown.stacks ≡ ledger.stacks = ap (λ (state : LedgerState). state.stacks) same in
    let events : grown.totals.events ≡ ledger.totals.events = ap (λ (state : LedgerState). state.totals.events) same in
    rw none
    (record {
      sound = tt;
      stacks = omega (arith, stacks);
      infos = ap (λ (state : LedgerState). state.infos) same ∙ sym (append-nil ledger.infos);
      events = omega (arith, events);
      stands = λ taken stands. tt;
    })
event_let_go settings means tables ledger grown held after event none (inr taken) =
    rw none
    (record {
      sound = tt;
      stacks = omega (arith, taken.stacks);
      infos = taken.infos ∙ sym (append-nil ledger.infos);
      events = taken.at_most_one_more;
      stands = λ events stands. tt;
    })

-- nothing more
pub as_before : {A I : Type 0} (settings : MassifSettings) (means : FrameTest A → FrameTest I → Type 0)
    (ledger same : LedgerState) (held : Option (Sampler A I)) (old new : Sampler A I)
    → held ≡ Some old
    → same ≡ ledger → new.samples ≡ old.samples → new.judged.items ≡ old.judged.items → new.alloc_fns ≡ old.alloc_fns
    → new.ignore_fns ≡ old.ignore_fns
    → IsAsBefore (sampling_view settings means ledger held) (sampling_view settings means same (Some new))
as_before settings means ledger same held old new is ledger_is samples judged alloc_fns ignore_fns = record {
  ledger = ledger_is;
  sound = λ sound.
      let settled = at_some held old (λ one. IsSettled settings means ledger one) is sound in
      record {
        meant = rw (alloc_fns, ignore_fns) settled.meant;
        options = ap (λ (state : SamplesState). state.options) samples ∙ settled.options;
        judged = ap length judged ∙ (settled.judged ∙ sym (ap (λ (state : LedgerState). state.stacks) ledger_is));
      };
  stands = λ tables taken stands.
      let at = at_some held old (λ one. StandFor settings ledger one tables taken) is stands in
      record {
        figures = rw ledger_is at.figures;
        sampling = rw (judged, samples) at.sampling;
      };
}

-- the fault of an event by the options that the sampler has is that by the settings
pub fault_by_options : (options : MassifOptions) (settings : MassifSettings) (tables : TableState)
    (earlier : List Event) (event : Event)
    → options ≡ settings.options
    → sample_fault options (ignores tables settings.names) earlier event ≡ sampler_faults settings tables earlier event
unfolding sampler_faults
fault_by_options options settings tables earlier event same =
    ap (λ (o : MassifOptions). sample_fault o (ignores tables settings.names) earlier event) same

-- the text of the profile that a sampler gives, behind nothing, is what is written
pub written_is : (settings : MassifSettings) (patterns lines : List (List ℕ)) (tables : TableState)
    (options : MassifOptions) (cmd text before : List ℕ) (profile : Profile)
    → tables ≡ tables_behind patterns lines
    → options ≡ settings.options → cmd ≡ command_in tables
    → profile ≡ sampled options settings.names tables (events lines) cmd → text ≡ before ++ massif_text profile
    → before ≡ []
    → text ≡ massif_written settings patterns lines
unfolding massif_written
written_is settings patterns lines tables options cmd text before profile of_lines same is given appended none =
    appended
    ∙ ap (λ (old : List ℕ). old ++ massif_text profile) none
    ∙ ap massif_text
    (given
    ∙ ap (λ (o : MassifOptions). sampled o settings.names tables (events lines) cmd) same
    ∙ ap (λ (c : List ℕ). sampled settings.options settings.names tables (events lines) c) is
    ∙ ap (λ (t : TableState). sampled settings.options settings.names t (events lines) (command_in t)) of_lines)

-- a fault that is known is told as it is
pub known_fault : (fault known : SampleFault) (found : Option EventFault) → fault ≡ known
    → Tells {T = Unit {0}} (Err fault) found → Tells {T = Unit {0}} (Err known) found
known_fault fault known found is tells = subst (λ (f : SampleFault). Tells {T = Unit {0}} (Err f) found) is tells

-- the fault of an event that the sampler tells by its options is that by the settings
pub fault_told : {A I : Type 0} (settings : MassifSettings) (means : FrameTest A → FrameTest I → Type 0)
    (ledger : LedgerState) (held : Option (Sampler A I)) (old : Sampler A I) (tables : TableState) (event : Event)
    (r : Result (Unit {0}) SampleFault)
    → held ≡ Some old → IfSome held (λ one. IsSettled settings means ledger one)
    → TellsFault old.judged.items tables ledger event old.samples r
    → (taken : List Event) → IfSome held (λ one. StandFor settings ledger one tables taken)
    → Tells r (sampler_faults settings tables taken event)
fault_told settings means ledger held old tables event r is sound told taken stands =
    let settled = at_some held old (λ one. IsSettled settings means ledger one) is sound in
    let at = at_some held old (λ one. StandFor settings ledger one tables taken) is stands in
    subst (Tells r) (fault_by_options old.samples.options settings tables taken event settled.options)
    (told settings.names taken at.sampling at.figures)

-- and of a fault that is known
pub known_told : {A I : Type 0} (settings : MassifSettings) (means : FrameTest A → FrameTest I → Type 0)
    (ledger : LedgerState) (held : Option (Sampler A I)) (old : Sampler A I) (tables : TableState) (event : Event)
    (fault known : SampleFault)
    → held ≡ Some old → IfSome held (λ one. IsSettled settings means ledger one) → fault ≡ known
    → TellsFault old.judged.items tables ledger event old.samples (Err fault)
    → (taken : List Event) → IfSome held (λ one. StandFor settings ledger one tables taken)
    → Tells {T = Unit {0}} (Err known) (sampler_faults settings tables taken event)
known_told settings means ledger held old tables event fault known is sound same told taken stands =
    known_fault fault known _ same
    (fault_told settings means ledger held old tables event (Err fault) is sound told taken stands)

-- where an event has a fault, nothing changes
pub left_alone : {A I : Type 0} (settings : MassifSettings) (means : FrameTest A → FrameTest I → Type 0)
    (ledger after : LedgerState) (held : Option (Sampler A I)) (old new : Sampler A I) (event : Event)
    (fault known : SampleFault)
    → held ≡ Some old → fault ≡ known → known ≢ sample.NoMemory
    → LeavesSampler old new ledger after event (Err fault)
    → IsAsBefore (sampling_view settings means ledger held) (sampling_view settings means after (Some new))
left_alone settings means ledger after held old new event fault known is same apart left =
    let unchanged = left.unchanged (λ wanting. apart (sym same ∙ wanting)) in
    as_before settings means ledger after held old new is unchanged.1 unchanged.0 left.judged left.alloc_fns
    left.ignore_fns
