use Rattle.std.proofs.Common.{◌≡◌, ◌++◌, take}
use Rattle.std.specs.List.{flat_map}
use Rattle.hp_num.specs.Extends.{Extends}
use Rattle.ht_print.specs.Layouts.{wanted_section}
use Rattle.ht_print.proofs.report.put_sections.Given as goal

-- the sections so far
abbrev pub invariant-each_section : goal.invariant-each_section
invariant-each_section l = record {
  written : l.out.items
      ≡ l.initial.out.items ++ flat_map (wanted_section l.layout l.peaks) (take l.section-index l.sections);
  kept : Extends l.initial.out.items l.out.items;
}
