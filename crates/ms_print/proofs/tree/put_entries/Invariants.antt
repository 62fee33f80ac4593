use Rattle.std.proofs.Common.{◌++◌, [], reverse}
use Rattle.hp_num.specs.Extends.{Extends}
use Rattle.ms_print.specs.Ends.{children_at}
use Rattle.ms_print.specs.Shown.{shown}
use Rattle.ms_print.specs.TreeText.{entries_text}
use Rattle.ms_print.proofs.LeftLemmas.{IsLeft, weight}
use Rattle.ms_print.proofs.tree.put_entries.Given as goal

abbrev pub invariant-each_entry : goal.invariant-each_entry
invariant-each_entry l = record {
  kept : Extends l.initial.out.items l.out.items;
  left : IsLeft l.scale l.tree l.prefix.items (reverse l.pending.items) l.out.items
      (l.initial.out.items ++ entries_text l.scale [] (shown l.scale (children_at l.tree 0)));
}

abbrev pub decreases-each_entry : goal.decreases-each_entry
decreases-each_entry l = weight l.scale l.tree (reverse l.pending.items)
