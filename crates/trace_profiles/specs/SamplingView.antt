-- A ledger with a sampler follows a trace where both stand for the events, and the sampler has the
-- settings' options and closures that mean their names; where it was let go, any events are stood
-- for.
use Rattle.std.specs.Prelude.{◌≡◌, List, [], length, Option, IfSome}
use Rattle.cost_tree.specs.declared.frame_test.FrameTest.{FrameTest}
use Rattle.ht_trace.specs.TableState.{TableState}
use Rattle.live_ledger.specs.declared.event.Event.{Event}
use Rattle.live_ledger.specs.LedgerState.{LedgerState}
use Rattle.live_ledger.specs.StandsFor as ledger_spec
use Rattle.massif_file.specs.declared.profile.TimeUnit.TheVariants.{Instructions}
use Rattle.massif_sample.specs.declared.sampler.Sampler.{Sampler}
use Rattle.massif_sample.specs.MassifSettings.{MassifSettings, settings_of}
use Rattle.massif_sample.specs.StandsFor as sample_spec
use Rattle.trace_reading.specs.Following.{Following}

-- settings that say nothing
abbrev pub no_settings : MassifSettings
no_settings = settings_of
    (record {
      threshold = 0;
      inaccuracy = 0;
      detailed_freq = 0;
      max_snapshots = 0;
      depth = 0;
      admin = 0;
      alignment = 0;
      unit = Instructions;
    }) [] []

-- both stand for the events
pub record StandFor {A I : Type 0} (settings : MassifSettings) (ledger : LedgerState)
    (sampler : Sampler A I) (tables : TableState) (events : List Event) : Type 0 where
  pub figures : ledger_spec.StandsFor ledger events
  pub sampling : sample_spec.StandsFor sampler.judged.items sampler.samples settings.names tables
      events

-- the sampler's tests are such as mean the names of the settings, it has their options, and has
-- taken account of the stacks that the ledger holds
pub record IsSettled {A I : Type 0} (settings : MassifSettings)
    (means : FrameTest A → FrameTest I → Type 0) (ledger : LedgerState) (sampler : Sampler A I)
    : Type 0 where
  pub meant : means sampler.alloc_fns sampler.ignore_fns
  pub options : sampler.samples.options ≡ settings.options
  pub judged : length sampler.judged.items ≡ ledger.stacks

-- where there is no sampler any more, any events are stood for
abbrev pub sampling_view : {A I : Type 0} → MassifSettings → (FrameTest A → FrameTest I → Type 0)
    → LedgerState → Option (Sampler A I) → Following
sampling_view settings means ledger sampler = record {
  ledger = ledger;
  stands = λ tables events. IfSome sampler
      (λ held. StandFor settings ledger held tables events);
  sound = IfSome sampler (λ held. IsSettled settings means ledger held);
}
