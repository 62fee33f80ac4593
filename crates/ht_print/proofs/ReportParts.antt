-- Lemmas on a report as its parts are written one after another.
use Rattle.std.proofs.Common.{◌≡◌, ℕ, ◌+◌, ◌&&◌, ◌||◌, ◌++◌, Bool, true, false, List, length, refl, ap, ◌∙◌}
use Rattle.std.proofs.Math.Path.{fun_ext}
use Rattle.std.proofs.lemmas.Bool.{cond-false, cond-true}
use Rattle.std.specs.Prelude.{sum}
use Rattle.std.specs.List.{flat_map, list_any}
use Rattle.ht_trace.specs.TableState.{TableState}
use Rattle.live_ledger.specs.declared.event.Event.{Event}
use Rattle.peak_costs.specs.Peak.{StandsFor}
use Rattle.peak_costs.specs.PeakState.{IsSound, PeakState}
use Rattle.ht_print.specs.declared.flame.FlameCost.{FlameCost}
use Rattle.ht_print.specs.declared.layout.Layout.{Layout}
use Rattle.ht_print.specs.declared.options.PrintOptions.{PrintOptions}
use Rattle.ht_print.specs.FlameCosts.{flame_costs, trace_costs}
use Rattle.ht_print.specs.declared.sections.Section.{Section}
use Rattle.ht_print.specs.declared.sections.Section.TheVariants.{Calls, Peak, Leaks, Temporary}
use Rattle.ht_print.specs.Layouts.{HasReportPlaces, HasSectionPlaces}
use Rattle.ht_print.specs.ReportText.{section_body, section_lines, sections_text, suppressed_figures, suppressed_line}
use Rattle.ht_print.specs.ReportText.{unsuppressed, wanted_section}
use Rattle.ht_print.specs.Sections.{all_sections, is_wanted, leaves_out, unit_of}
use Rattle.ht_print.specs.Suppressed.{suppressed_stacks}
use Rattle.ht_print.proofs.FlameFigures.{costs-of_trace}

-- what stacks cost by the peaks is what they cost in the events
costs-are : (cost : FlameCost) (tables : TableState) (peaks : PeakState) (events : List Event) → IsSound peaks
    → StandsFor peaks events → peaks.ledger.stacks ≡ length tables.nodes + 1
    → flame_costs cost peaks ≡ trace_costs cost (length tables.nodes + 1) events
costs-are cost tables peaks events sound stands beside =
    costs-of_trace cost peaks events sound stands ∙ ap (λ (stacks : ℕ). trace_costs cost stacks events) beside

-- so the sections are those of the events
pub sections-are : (options : PrintOptions) (tables : TableState) (peaks : PeakState) (events : List Event)
    → IsSound peaks → StandsFor peaks events → peaks.ledger.stacks ≡ length tables.nodes + 1
    → sections_text options tables (λ cost. flame_costs cost peaks)
    ≡ sections_text options tables (λ cost. trace_costs cost (length tables.nodes + 1) events)
sections-are options tables peaks events sound stands beside =
    ap (sections_text options tables) (fun_ext (λ cost. costs-are cost tables peaks events sound stands beside))

-- which are those of the list
pub all-wanted : (options : PrintOptions) (tables : TableState) (peaks : PeakState)
    → flat_map (wanted_section options tables (λ cost. flame_costs cost peaks)) all_sections
    ≡ sections_text options tables (λ cost. flame_costs cost peaks)
unfolding sections_text
all-wanted options tables peaks = refl

first : (a b : Bool) → a ≡ true → (a || b) ≡ true
first a b is = ap (λ (x : Bool). x || b) is

second : (a b : Bool) → b ≡ true → (a || b) ≡ true
second true b is = refl
second false b is = is

-- one that is asked for is one of them
some-wanted : (options : PrintOptions) (section : Section) → is_wanted options section ≡ true
    → list_any (is_wanted options) all_sections ≡ true
some-wanted options Calls wanted = first options.allocators _ wanted
some-wanted options Peak wanted = second options.allocators _ (first options.peaks _ wanted)
some-wanted options Leaks wanted = second options.allocators _ (second options.peaks _ (first options.leaks _ wanted))
some-wanted options Temporary wanted =
    second options.allocators _ (second options.peaks _ (second options.leaks _ (first options.temporary _ wanted)))

-- so the places are made where it has groups
pub section-places : (layout : Layout) (section : Section) → is_wanted layout.options section ≡ true
    → HasReportPlaces layout → HasSectionPlaces layout
section-places layout section wanted have =
    λ merged. have (ap (λ (m : Bool). m && list_any (is_wanted layout.options) all_sections) merged
    ∙ some-wanted layout.options section wanted)

-- what stands below the heading of a section, by whether suppressed stacks are left out
pub body-whole : (options : PrintOptions) (tables : TableState) (section : Section) (figures : List ℕ)
    → leaves_out section ≡ false
    → section_body options tables section figures ≡ section_lines options tables (unit_of section) figures
unfolding section_body
body-whole options tables section figures whole = cond-false (leaves_out section) _ _ whole

pub body-parted : (options : PrintOptions) (tables : TableState) (section : Section) (figures : List ℕ)
    → leaves_out section ≡ true
    → section_body options tables section figures
    ≡ section_lines options tables (unit_of section) (unsuppressed (suppressed_stacks tables) figures)
    ++ suppressed_line (sum (suppressed_figures (suppressed_stacks tables) figures))
unfolding section_body
body-parted options tables section figures parted = cond-true (leaves_out section) _ _ parted
