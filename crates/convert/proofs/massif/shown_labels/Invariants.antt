use Rattle.std.proofs.Common.{map, take}
use Rattle.dhat_json.specs.Shown.{shown}
use Rattle.intern_tables.specs.Distinct.{AreDistinct}
use Rattle.dhat_view.specs.Numbers.{AreNumbers}
use Rattle.convert.proofs.massif.shown_labels.Given as goal

abbrev pub invariant-each_line : goal.invariant-each_line
invariant-each_line l = record {
  numbers : AreNumbers l.texts.names l.texts.numbers.items (map (λ line. shown line.label) (take l.place l.tree));
  distinct : AreDistinct l.texts.names;
}
