-- The profile of a trace has these points and this table; it ends at the number of events and peaks
-- at the first greatest total.
use Rattle.std.specs.Prelude.{◌≡◌, ℕ, ◌+◌, true, false, List, length, codes, Some, None}
use Rattle.dhat_json.specs.declared.profile.Dhat.{Dhat}
use Rattle.dhat_json.specs.declared.profile.Point.{Point}
use Rattle.dhat_json.specs.DhatValue.{dhat_text}
use Rattle.dhat_metrics.specs.LifeState.{LifeState}
use Rattle.dhat_metrics.specs.StandsFor as life_spec
use Rattle.ht_trace.specs.TableState.{TableState}
use Rattle.live_ledger.specs.declared.event.Event.{Event}
use Rattle.live_ledger.specs.Events.{event_count}
use Rattle.peak_costs.specs.Peak as peak_spec
use Rattle.peak_costs.specs.PeakState.{PeakState}
use Rattle.dhat_trace.specs.declared.points.PointFigures.{PointFigures}
use Rattle.dhat_trace.specs.FrameTable.{table_of}
use Rattle.dhat_trace.specs.PointFigures.{figures_in, figures_of, peak_moment}
use Rattle.dhat_trace.specs.Points.{called, points_of}
use Rattle.dhat_trace.specs.ProfileTexts.{command_text}

-- the profile of a heap, whose time goes by events
abbrev pub heap_profile : List ℕ → ℕ → ℕ → List Point → List (List ℕ) → Dhat
heap_profile cmd te tg pps ftbl = record {
  mode = codes "heap";
  verb = codes "Allocated";
  bklt = true;
  bkacc = false;
  bu = None;
  bsu = None;
  bksu = None;
  tu = codes "events";
  mtu = codes "Mevents";
  tuth = Some 500;
  cmd = cmd;
  pid = 0;
  te = te;
  tg = Some tg;
  pps = pps;
  ftbl = ftbl;
}

-- the profile with the points of these stacks, which have these figures
unfoldable pub profile_with : TableState → ℕ → ℕ → (ℕ → PointFigures) → List ℕ → Dhat
profile_with tables te tg figures stacks =
    heap_profile (command_text tables.command) te tg
    (points_of (table_of tables stacks) tables figures stacks) (table_of tables stacks)

-- the profile with the points of all stacks that allocated
abbrev pub profile_of : TableState → ℕ → ℕ → (ℕ → PointFigures) → Dhat
profile_of tables te tg figures = profile_with tables te tg figures
    (called figures (length tables.nodes + 1))

-- the profile of a trace with these tables and events
unfoldable pub dhat_of : TableState → List Event → Dhat
dhat_of tables events = profile_of tables (event_count events) (peak_moment events)
    (figures_in events)

-- the profile by what peaks and lifetimes hold
abbrev pub profile_by : TableState → PeakState → LifeState → Dhat
profile_by tables peaks lifetimes = profile_of tables peaks.ledger.totals.events peaks.moment
    (figures_of peaks lifetimes)

-- the bytes are the text of the profile of whatever events both stand for
abbrev pub IsTraceText : TableState → PeakState → LifeState → List ℕ → Type 0
IsTraceText tables peaks lifetimes text = (events : List Event) → peak_spec.StandsFor peaks events
    → life_spec.StandsFor lifetimes events → text ≡ dhat_text (dhat_of tables events)
