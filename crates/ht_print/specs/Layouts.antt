-- What the sections of a report are written by: what must hold of it, and the texts that are written
-- by it, each that of its name in `ReportText` or `ReportLines`, for private clauses.
use Rattle.std.specs.Prelude.{◌≡◌, ℕ, ◌+◌, ◌^◌, ◌<◌, ◌≤◌, All, Bool, List, length, sum, sum_by}
use Rattle.live_ledger.specs.declared.event.Event.{Event}
use Rattle.peak_costs.specs.PeakState.{PeakState}
use Rattle.ht_print.specs.declared.entry.Entry.{Entry}
use Rattle.ht_print.specs.declared.layout.Layout.{Layout}
use Rattle.ht_print.specs.declared.placed_stacks.PlacedStacks.{PlacedStacks}
use Rattle.ht_print.specs.declared.scale.Scale.{Scale}
use Rattle.ht_print.specs.declared.scale.Unit.{Unit}
use Rattle.ht_print.specs.declared.sections.Section.{Section}
use Rattle.ht_print.specs.FlameCosts.{flame_costs}
use Rattle.ht_print.specs.HasGroups.{has_groups}
use Rattle.ht_print.specs.IsEntry.{IsEntry}
use Rattle.ht_print.specs.PlacedStacks as placed_stacks
use Rattle.ht_print.specs.Places.{HavePlaces, TellPlaces}
use Rattle.ht_print.specs.ReportGroups.{place_of}
use Rattle.ht_print.specs.ReportLines as lines
use Rattle.ht_print.specs.ReportText as text
use Rattle.ht_print.specs.Suppressed.{suppressed_stacks}
use Rattle.std.specs.List.{flat_map}

-- the places are made where a report has groups, and where a section that is written has them
abbrev pub HasReportPlaces : Layout → Type 0
HasReportPlaces layout = HavePlaces (has_groups layout.options) layout.tables.now layout.places.now

abbrev pub HasSectionPlaces : Layout → Type 0
HasSectionPlaces layout = HavePlaces layout.options.merge layout.tables.now layout.places.now

-- the numbers of its places tell the texts of its tables' stacks apart
abbrev pub TellsPlaces : Layout → Type 0
TellsPlaces layout = TellPlaces layout.tables.now layout.places.now

-- these are the answers for the stacks of its tables
abbrev pub HasSuppressed : Layout → List Bool → Type 0
HasSuppressed layout suppressed = suppressed ≡ suppressed_stacks layout.tables.now

-- there is a figure for each stack of its tables, and they sum to at most 2^62
pub record AreFigures (layout : Layout) (figures : List ℕ) : Type 0 where
  pub as_many : length figures ≡ length layout.tables.now.nodes + 1
  pub few : length figures < 2 ^ 32
  pub bound : sum figures ≤ 2 ^ 62

-- the entries' stacks are held, and no figure is greater than the sum of the section's
abbrev pub AreEntries : Layout → Scale → List Entry → Type 0
AreEntries layout scale entries = All (IsEntry layout.tables.now scale.total) entries

-- these are the stacks of a section: together they have no more than its sum
pub record AreStacks (layout : Layout) (scale : Scale) (stacks : List Entry) : Type 0 where
  pub entries : AreEntries layout scale stacks
  pub few : length stacks < 2 ^ 32
  pub within : sum_by (λ stack. stack.figure) stacks ≤ scale.total
  pub bound : scale.total ≤ 2 ^ 62

-- a section with what the peaks have, where it is asked for; one with these figures, and what stands below its heading
abbrev pub wanted_section : Layout → PeakState → Section → List ℕ
wanted_section layout peaks section = text.wanted_section layout.options layout.tables.now
    (λ cost. flame_costs cost peaks) section

-- those of the sections that are asked for, one after the other
abbrev pub wanted_sections : Layout → PeakState → List Section → List ℕ
wanted_sections layout peaks sections = flat_map (wanted_section layout peaks) sections

abbrev pub section_text : Layout → Section → List ℕ → List ℕ
section_text layout section figures = text.section_text layout.options layout.tables.now section
    figures

abbrev pub section_body : Layout → Section → List ℕ → List ℕ
section_body layout section figures = text.section_body layout.options layout.tables.now section
    figures

-- the lines of figures in a unit, and of stacks that are in order
abbrev pub section_lines : Layout → Unit → List ℕ → List ℕ
section_lines layout unit figures = text.section_lines layout.options layout.tables.now unit figures

abbrev pub stacks_text : Layout → Scale → List Entry → List ℕ
stacks_text layout scale stacks = text.stacks_text layout.options layout.tables.now scale stacks

-- the lines of the groups of stacks, and of these groups
abbrev pub merged_lines : Layout → Scale → List Entry → List ℕ
merged_lines layout scale stacks = lines.merged_lines layout.tables.now scale layout.options.limit
    layout.options.sub_limit stacks

abbrev pub groups_lines : Layout → Scale → PlacedStacks → List Entry → List ℕ
groups_lines layout scale placed groups = placed_stacks.groups_lines layout.tables.now scale
    layout.options.limit layout.options.sub_limit placed.stacks.now groups

-- the lines of a group with these members, of the members, and of stacks that stand by themselves
abbrev pub group_lines : Layout → Scale → Entry → List Entry → List ℕ
group_lines layout scale group members = lines.group_lines layout.tables.now scale
    layout.options.sub_limit (place_of layout.tables.now group.stack) members group.figure

abbrev pub members_lines : Layout → Scale → List Entry → List ℕ
members_lines layout scale members = lines.members_lines layout.tables.now scale
    layout.options.sub_limit members

abbrev pub unmerged_lines : Layout → Scale → List Entry → List ℕ
unmerged_lines layout scale stacks = lines.unmerged_lines layout.tables.now scale
    layout.options.limit stacks

-- the histogram, where it is asked for
abbrev pub wanted_histogram : Layout → List Event → List ℕ
wanted_histogram layout events = text.wanted_histogram layout.options events
