-- The sections of a report in their order, and of each whether it is asked for, its heading, what its
-- figures are and count, and whether it leaves out suppressed stacks.
use Rattle.std.specs.Prelude.{ℕ, Bool, true, false, List, [], ◌∷◌, codes}
use Rattle.ht_print.specs.declared.flame.FlameCost.{FlameCost}
use Rattle.ht_print.specs.declared.flame.FlameCost.TheVariants as cost
use Rattle.ht_print.specs.declared.options.PrintOptions.{PrintOptions}
use Rattle.ht_print.specs.declared.scale.Unit.{Unit}
use Rattle.ht_print.specs.declared.scale.Unit.TheVariants as unit
use Rattle.ht_print.specs.declared.sections.Section.{Section}
use Rattle.ht_print.specs.declared.sections.Section.TheVariants.{Calls, Peak, Leaks, Temporary}

-- the sections in their order
abbrev pub all_sections : List Section
all_sections = Calls ∷ Peak ∷ Leaks ∷ Temporary ∷ []

-- whether a section is asked for
abbrev pub is_wanted : PrintOptions → Section → Bool
is_wanted options Calls = options.allocators
is_wanted options Peak = options.peaks
is_wanted options Leaks = options.leaks
is_wanted options Temporary = options.temporary

-- its heading, with a line feed
abbrev pub heading_of : Section → List ℕ
heading_of Calls = codes "MOST CALLS TO ALLOCATION FUNCTIONS\n"
heading_of Peak = codes "PEAK MEMORY CONSUMERS\n"
heading_of Leaks = codes "MEMORY LEAKS\n"
heading_of Temporary = codes "MOST TEMPORARY ALLOCATIONS\n"

-- what its figures count
abbrev pub unit_of : Section → Unit
unit_of Calls = unit.Calls
unit_of Peak = unit.Bytes
unit_of Leaks = unit.Bytes
unit_of Temporary = unit.Temporary

-- what they are
abbrev pub cost_of : Section → FlameCost
cost_of Calls = cost.Allocations
cost_of Peak = cost.Peak
cost_of Leaks = cost.Leaked
cost_of Temporary = cost.Temporary

-- whether suppressed stacks are left out, and what they have together is told in a line
abbrev pub leaves_out : Section → Bool
leaves_out Leaks = true
leaves_out Calls = false
leaves_out Peak = false
leaves_out Temporary = false
