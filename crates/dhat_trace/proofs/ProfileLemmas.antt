-- The whole profile: what it is, and that it can be written.
use Rattle.std.proofs.Common.{◌≡◌, ℕ, ◌+◌, ◌*◌, ◌-◌, ◌^◌, ◌<◌, ◌≤◌, zero, suc, Bool, true, false, cond, List, [], ◌∷◌}
use Rattle.std.proofs.Common.{add-one, codes, length, length-append, map, refl, ap, ap₂, ◌∙◌, sym, subst, arith}
use Rattle.std.specs.Prelude.{All, IsUtf8, nat_lt, sum_by}
use Rattle.std.specs.List.{range_with_len}
use Rattle.std.proofs.lemmas.Bool.Decides.{nat_tests}
use Rattle.std.proofs.lemmas.List.{length-map}
use Rattle.std.proofs.lemmas.List.FromFn.{fill_by_all, sum_by-map-range_with_len_more}
use Rattle.dhat_json.specs.declared.profile.Dhat.{Dhat}
use Rattle.dhat_json.specs.declared.profile.Point.{Point}
use Rattle.dhat_json.specs.Begun.{with_points}
use Rattle.dhat_json.specs.IsSound.{HasTexts, IsSound}
use Rattle.dhat_metrics.specs.LifeState.{LifeState}
use Rattle.dhat_metrics.specs.StandsFor as life_spec
use Rattle.ht_trace.specs.TableState.{TableState}
use Rattle.live_ledger.specs.declared.event.Event.{Event}
use Rattle.live_ledger.specs.declared.figures.Figures.{Figures}
use Rattle.live_ledger.specs.Events.{event_count}
use Rattle.live_ledger.specs.LedgerState.{figures_at, no_figures}
use Rattle.live_ledger.specs.Sound as ledger_sound
use Rattle.peak_costs.specs.Peak as peak_spec
use Rattle.peak_costs.specs.PeakState.{PeakState}
use Rattle.dhat_trace.specs.declared.points.CalledStack.{CalledStack}
use Rattle.dhat_trace.specs.declared.points.PointFigures.{PointFigures}
use Rattle.dhat_trace.specs.Backtraces.{AreBacktraces}
use Rattle.dhat_trace.specs.DhatOf.{dhat_of, heap_profile, profile_of, profile_with}
use Rattle.dhat_trace.specs.FrameTable.{table_of}
use Rattle.dhat_trace.specs.PointFigures.{figures_in, figures_of, peak_moment}
use Rattle.dhat_trace.specs.Points.{called, called_with, if_called, points_in, points_of}
use Rattle.dhat_trace.specs.ProfileTexts.{command_text}
use Rattle.dhat_trace.proofs.FigureLemmas.{all_figures, peak_moment_is}
use Rattle.dhat_trace.proofs.BacktraceLemmas.{all_points, all_sound}
use Rattle.dhat_trace.proofs.PointLists.{all_told, called_more}
use Rattle.dhat_trace.proofs.TextLemmas.{command_is_utf8, literal_is_utf8, table_utf8}

-- what is put together is the profile
pub profile_is : (tables : TableState) (peaks : PeakState) (lifetimes : LifeState) (te tg : ℕ) (head : Dhat)
    (cmd : List ℕ) (ftbl told : List (List ℕ)) (items : List CalledStack)
    → te ≡ peaks.ledger.totals.events → tg ≡ peaks.moment → peaks.ledger.stacks ≡ length tables.nodes + 1
    → head ≡ heap_profile cmd te tg [] ftbl → cmd ≡ command_text tables.command
    → items ≡ called_with (figures_of peaks lifetimes) (called (figures_of peaks lifetimes) peaks.ledger.stacks)
    → AreBacktraces tables (map (λ (c : CalledStack). c.stack) items) ftbl told
    → with_points head (points_in items told)
    ≡ profile_of tables peaks.ledger.totals.events peaks.moment (figures_of peaks lifetimes)
unfolding profile_with
profile_is tables peaks lifetimes te tg head cmd ftbl told items last peak held head_is command items_are by_stacks =
    let figures = figures_of peaks lifetimes in
    let stacks = called figures (length tables.nodes + 1) in
    let are : AreBacktraces tables (called figures peaks.ledger.stacks) ftbl told =
    all_told tables figures peaks.ledger.stacks items ftbl told items_are by_stacks in
    let points : points_in items told ≡ points_of (table_of tables stacks) tables figures stacks =
    ap (λ (cs : List CalledStack). points_in cs told) items_are
    ∙ all_points tables figures (called figures peaks.ledger.stacks) ftbl told are
    ∙ ap (λ (n : ℕ). points_of (table_of tables (called figures n)) tables figures (called figures n)) held in
    let table : ftbl ≡ table_of tables stacks =
    are.table_is ∙ ap (λ (n : ℕ). table_of tables (called figures n)) held in
    ap (λ (d : Dhat). with_points d (points_in items told)) head_is
    ∙ ap (λ (ps : List Point). heap_profile cmd te tg ps ftbl) points
    ∙ ap (λ (c : List ℕ). heap_profile c te tg (points_of (table_of tables stacks) tables figures stacks) ftbl) command
    ∙ ap₂ (λ (e g : ℕ). heap_profile (command_text tables.command) e g
    (points_of (table_of tables stacks) tables figures stacks) ftbl) last peak
    ∙ ap (λ (t : List (List ℕ)). heap_profile (command_text tables.command) peaks.ledger.totals.events peaks.moment
    (points_of (table_of tables stacks) tables figures stacks) t) table

-- it is that of the events
pub trace_is : (tables : TableState) (peaks : PeakState) (lifetimes : LifeState) (events : List Event)
    → peak_spec.StandsFor peaks events → life_spec.StandsFor lifetimes events
    → profile_of tables peaks.ledger.totals.events peaks.moment (figures_of peaks lifetimes) ≡ dhat_of tables events
unfolding dhat_of
trace_is tables peaks lifetimes events by_peaks by_lives =
    let te : peaks.ledger.totals.events ≡ event_count events = by_peaks.ledger.whole.figures.events_is in
    let tg : peaks.moment ≡ peak_moment events = sym (peak_moment_is peaks.moment events by_peaks.peak) in
    let figures : figures_of peaks lifetimes ≡ figures_in events =
    all_figures peaks lifetimes events by_peaks by_lives in
    ap (λ n. profile_of tables n peaks.moment (figures_of peaks lifetimes)) te
    ∙ (ap (λ n. profile_of tables (event_count events) n (figures_of peaks lifetimes)) tg
    ∙ ap (λ f. profile_of tables (event_count events) (peak_moment events) f) figures)

-- a stack that allocated has a call
one_call : (figures : ℕ → PointFigures) (stack : ℕ) → length (if_called figures stack) ≤ (figures stack).tbk
one_call figures stack = grind (arith, nat_tests)

-- so many stacks allocated at most
call_more : (peaks : PeakState) (lifetimes : LifeState) (count : ℕ)
    → length (called (figures_of peaks lifetimes) count)
    ≤ sum_by (λ (f : Figures). f.calls) (map (figures_at peaks.ledger) (range_with_len 0 count))
    → length (called (figures_of peaks lifetimes) (count + 1))
    ≤ sum_by (λ (f : Figures). f.calls) (map (figures_at peaks.ledger) (range_with_len 0 (count + 1)))
call_more peaks lifetimes count before =
    let figures : ℕ → PointFigures = figures_of peaks lifetimes in
    let longer : length (called figures (count + 1))
    ≡ length (called figures count) + length (if_called figures count) =
    ap (λ (stacks : List ℕ). length stacks) (called_more figures count)
    ∙ length-append (called figures count) (if_called figures count) in
    let sum =
    sum_by-map-range_with_len_more (λ (f : Figures). f.calls) (figures_at peaks.ledger) 0 count count (omega arith) in
    let call : length (if_called figures count) ≤ (figures_at peaks.ledger count).calls = one_call figures count in
    omega (arith, before, longer, sum, call)

calls_at_least : (peaks : PeakState) (lifetimes : LifeState) (count : ℕ)
    → length (called (figures_of peaks lifetimes) count)
    ≤ sum_by (λ (f : Figures). f.calls) (map (figures_at peaks.ledger) (range_with_len 0 count))
unfolding called
calls_at_least peaks lifetimes zero = omega arith
calls_at_least peaks lifetimes (suc count) =
    let P : ℕ → Type 0 =
    λ n. length (called (figures_of peaks lifetimes) n)
    ≤ sum_by (λ (f : Figures). f.calls) (map (figures_at peaks.ledger) (range_with_len 0 n)) in
    subst P (add-one count) (call_more peaks lifetimes count (calls_at_least peaks lifetimes count))

pub called_few : (peaks : PeakState) (lifetimes : LifeState) → ledger_sound.IsSound peaks.ledger
    → length (called (figures_of peaks lifetimes) peaks.ledger.stacks) ≤ peaks.ledger.totals.events
called_few peaks lifetimes sound =
    let held : List Figures = peaks.ledger.figures in
    let same : held ≡ map (figures_at peaks.ledger) (range_with_len 0 peaks.ledger.stacks) =
    fill_by_all (figures_at peaks.ledger) held peaks.ledger.stacks no_figures sound.stacks (λ k within. refl) in
    let at_most = calls_at_least peaks lifetimes peaks.ledger.stacks in
    let all : sum_by (λ (f : Figures). f.calls) (map (figures_at peaks.ledger) (range_with_len 0 peaks.ledger.stacks))
    ≡ peaks.ledger.totals.calls =
    ap (sum_by (λ (f : Figures). f.calls)) (sym same) ∙ sound.sums.calls in
    omega (arith, at_most, all, sound.calls_and_frees, sound.blocks_within)

-- no more stacks than there are
called_count : (figures : ℕ → PointFigures) (count : ℕ) → length (called figures count) ≤ count
unfolding called
called_count figures zero = omega arith
called_count figures (suc count) =
    let longer : length (called figures (count + 1))
    ≡ length (called figures count) + length (if_called figures count) =
    ap (λ (stacks : List ℕ). length stacks) (called_more figures count)
    ∙ length-append (called figures count) (if_called figures count) in
    let one : length (if_called figures count) ≤ 1 = at_most_one (nat_lt 0 (figures count).tbk) in
    subst (λ n. length (called figures n) ≤ n) (add-one count) (omega (arith, called_count figures count, longer, one))
  where
    at_most_one : (b : Bool) → length (cond {A = List ℕ} b (count ∷ []) []) ≤ 1
    at_most_one true = omega arith
    at_most_one false = omega arith

-- so they can be numbered, where events and stacks aren't both too many
pub called_numbered : (peaks : PeakState) (lifetimes : LifeState) → ledger_sound.IsSound peaks.ledger
    → 4 * peaks.ledger.totals.events + peaks.ledger.stacks < 5 * (2 ^ 32 - 1)
    → length (called (figures_of peaks lifetimes) peaks.ledger.stacks) < 2 ^ 32 - 1
called_numbered peaks lifetimes sound few =
    omega (arith, few, called_few peaks lifetimes sound, called_count (figures_of peaks lifetimes) peaks.ledger.stacks)

-- its texts can be written
pub texts_writable : (tables : TableState) (te tg : ℕ) (stacks : List ℕ) (head : Dhat) (cmd : List ℕ)
    (ftbl : List (List ℕ))
    → head ≡ heap_profile cmd te tg [] ftbl → cmd ≡ command_text tables.command → ftbl ≡ table_of tables stacks
    → HasTexts head
texts_writable tables te tg stacks head cmd ftbl head_is command table = subst HasTexts (sym head_is) (record {
  mode = literal_is_utf8 (codes "heap") refl;
  verb = literal_is_utf8 (codes "Allocated") refl;
  bu = tt;
  bsu = tt;
  bksu = tt;
  tu = literal_is_utf8 (codes "events") refl;
  mtu = literal_is_utf8 (codes "Mevents") refl;
  cmd = subst IsUtf8 (sym command) (command_is_utf8 tables.command);
  ftbl = subst (All IsUtf8) (sym table) (table_utf8 tables stacks);
})

-- it hangs together
pub profile_sound : (tables : TableState) (peaks : PeakState) (lifetimes : LifeState) (ftbl told : List (List ℕ))
    (items : List CalledStack)
    → ledger_sound.IsSound peaks.ledger
    → 4 * peaks.ledger.totals.events + peaks.ledger.stacks < 5 * (2 ^ 32 - 1)
    → peaks.ledger.stacks ≡ length tables.nodes + 1
    → items ≡ called_with (figures_of peaks lifetimes) (called (figures_of peaks lifetimes) peaks.ledger.stacks)
    → AreBacktraces tables (map (λ (c : CalledStack). c.stack) items) ftbl told
    → IsSound (profile_of tables peaks.ledger.totals.events peaks.moment (figures_of peaks lifetimes))
unfolding profile_with
profile_sound tables peaks lifetimes ftbl told items sound few held items_are by_stacks =
    let figures = figures_of peaks lifetimes in
    let are = all_told tables figures peaks.ledger.stacks items ftbl told items_are by_stacks in
    let own : (n : ℕ)
    → length (points_of (table_of tables (called figures n)) tables figures (called figures n))
    ≡ length (called figures n) = λ n. length-map (called figures n) _ in
    subst (λ n. IsSound (profile_with tables peaks.ledger.totals.events peaks.moment figures (called figures n))) held
    (record {
      few = omega (arith, called_numbered peaks lifetimes sound few, own peaks.ledger.stacks);
      points = all_sound tables figures (called figures peaks.ledger.stacks) ftbl told are;
    })
