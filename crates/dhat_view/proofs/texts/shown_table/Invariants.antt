use Rattle.std.proofs.Common.{map, take}
use Rattle.dhat_json.specs.Shown.{shown}
use Rattle.intern_tables.specs.Distinct.{AreDistinct}
use Rattle.dhat_view.specs.Numbers.{AreNumbers}
use Rattle.dhat_view.proofs.texts.shown_table.Given as goal

abbrev pub invariant-each_text : goal.invariant-each_text
invariant-each_text l = record {
  numbers : AreNumbers l.texts.names l.texts.numbers.items (map shown (take l.place l.table));
  distinct : AreDistinct l.texts.names;
}
