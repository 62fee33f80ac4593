-- Reports: up to four sections of a trace's stacks, the histogram, and the summary. The figures of
-- a section are the allocations of each stack, the bytes that it has live at the peak, those that
-- it has live at the end with 0 for a suppressed stack, or its temporary allocations. A section has
-- the stacks whose figure isn't 0. A report is the sections that are asked for, in a fixed order
-- and each with an empty line behind it, the histogram where it is asked for, and the summary. The
-- section of leaks says in a line how many bytes suppressed stacks have live at the end, where they
-- have some.
use Rattle.std.specs.Prelude.{ℕ, ◌==◌, ◌+◌, Bool, List, [], ◌∷◌, ◌++◌, codes, decimal, length, sum, if◌then◌else◌}
use Rattle.std.specs.Prelude.{Result}
use Rattle.std.specs.List.{flat_map}
use Rattle.ht_trace.specs.TableState.{TableState}
use Rattle.live_ledger.specs.declared.event.Event.{Event}
use Rattle.ht_print.specs.declared.entry.Entry.{Entry}
use Rattle.ht_print.specs.declared.flame.FlameCost.{FlameCost}
use Rattle.ht_print.specs.declared.options.PrintOptions.{PrintOptions}
use Rattle.ht_print.specs.declared.scale.Scale.{Scale}
use Rattle.ht_print.specs.declared.scale.Unit.{Unit}
use Rattle.ht_print.specs.declared.sections.Section.{Section}
use Rattle.ht_print.specs.FlameCosts.{trace_costs}
use Rattle.ht_print.specs.Histogram.{histogram_text}
use Rattle.ht_print.specs.ReportLines.{merged_lines, unmerged_lines}
use Rattle.ht_print.specs.ReportOrder.{ordered_stacks}
use Rattle.ht_print.specs.Sections.{all_sections, cost_of, heading_of, is_wanted, leaves_out, unit_of}
use Rattle.ht_print.specs.SummaryText.{summary_text}
use Rattle.ht_print.specs.Suppressed.{suppressed_stacks}
use Rattle.std.specs.Global.{Vec}
use Rattle.peak_costs.specs.Peak.{StandsFor}
use Rattle.peak_costs.specs.PeakState.{PeakState}
use Rattle.ht_print.specs.Appends.{AppendsFor}

-- the figures with a 0 for each stack that is suppressed, and with a 0 for each that isn't
abbrev pub unsuppressed : List Bool → List ℕ → List ℕ
unsuppressed [] figures = []
unsuppressed (is ∷ more) [] = []
unsuppressed (is ∷ more) (figure ∷ figures) = (if is then 0 else figure) ∷ unsuppressed more figures

abbrev pub suppressed_figures : List Bool → List ℕ → List ℕ
suppressed_figures [] figures = []
suppressed_figures (is ∷ more) [] = []
suppressed_figures (is ∷ more) (figure ∷ figures) = (if is then figure else 0)
    ∷ suppressed_figures more figures

-- the stacks that have a figure, in groups or by themselves
unfoldable pub stacks_text : PrintOptions → TableState → Scale → List Entry → List ℕ
stacks_text options tables scale [] = codes "(none)\n"
stacks_text options tables scale (entry ∷ more) =
    if options.merge
    then merged_lines tables scale options.limit options.sub_limit (entry ∷ more)
    else unmerged_lines tables scale options.limit (entry ∷ more)

-- the lines of a section with the figures of all stacks
unfoldable pub section_lines : PrintOptions → TableState → Unit → List ℕ → List ℕ
section_lines options tables unit figures =
    stacks_text options tables (record { unit = unit; total = sum figures })
    (ordered_stacks figures)

-- how many bytes the suppressed stacks have, where they have some
unfoldable pub suppressed_line : ℕ → List ℕ
suppressed_line bytes = if bytes == 0 then []
    else codes "suppressed: " ++ (decimal bytes ++ codes " bytes\n")

-- what stands below the heading of a section: where suppressed stacks are left out, they are told
-- in one line behind the others
unfoldable pub section_body : PrintOptions → TableState → Section → List ℕ → List ℕ
section_body options tables section figures =
    if leaves_out section
    then section_lines options tables (unit_of section)
    (unsuppressed (suppressed_stacks tables) figures) ++
    suppressed_line (sum (suppressed_figures (suppressed_stacks tables) figures))
    else section_lines options tables (unit_of section) figures

-- a section: its heading, what stands below it, and an empty line
unfoldable pub section_text : PrintOptions → TableState → Section → List ℕ → List ℕ
section_text options tables section figures = heading_of section
    ++ (section_body options tables section figures ++ codes "\n")

-- the same where it is asked for; what its figures are is a function of its cost
abbrev pub wanted_section : PrintOptions → TableState → (FlameCost → List ℕ) → Section → List ℕ
wanted_section options tables figures section =
    if is_wanted options section
    then section_text options tables section (figures (cost_of section)) else []

-- the sections that are asked for, in their order
unfoldable pub sections_text : PrintOptions → TableState → (FlameCost → List ℕ) → List ℕ
sections_text options tables figures = flat_map (wanted_section options tables figures) all_sections

-- the histogram, where it is asked for
abbrev pub wanted_histogram : PrintOptions → List Event → List ℕ
wanted_histogram options events = if options.histogram then histogram_text events else []

-- the report on a trace with these tables and events
unfoldable pub report_of_trace : PrintOptions → TableState → List Event → List ℕ
report_of_trace options tables events =
    sections_text options tables (λ cost. trace_costs cost (length tables.nodes + 1) events) ++
    (wanted_histogram options events ++
    summary_text events)

-- the report on a trace is appended, whichever events the peaks stand for
abbrev pub AppendsReport : {E : Type 0} → PrintOptions → TableState → PeakState → Vec ℕ → Vec ℕ
    → Result (Prim.Unit {0}) E → Type 0
AppendsReport options tables peaks before after result =
    AppendsFor (StandsFor peaks) (report_of_trace options tables) before after result
