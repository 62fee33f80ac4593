use Rattle.std.proofs.Common.{◌≡◌, ℕ, ◌+◌, ◌≤◌, List, length}
use Rattle.std.specs.Fn.{FnReturnsAt}
use Rattle.cost_tree.specs.FrameTexts.{StatesNames}
use Rattle.massif_tree.specs.FirstLists.{first_lists}
use Rattle.massif_tree.specs.Whole.{AreWhole}
use Rattle.massif_tree.proofs.trimmed_fronts.add_trimmed.Given as goal

-- each stack so far has its list
abbrev pub invariant-each_stack : goal.invariant-each_stack
invariant-each_stack g l = record {
  count : length l.fronts ≡ l.stack;
  within : l.stack ≤ length l.tables.nodes + 1;
  whole : (names : List (List ℕ)) → StatesNames (FnReturnsAt g.A.Fn l.alloc_fns.test) names
      → AreWhole l.tables names l.stack l.buffers.whole.items;
  lists : (names : List (List ℕ)) → StatesNames (FnReturnsAt g.A.Fn l.alloc_fns.test) names
      → l.initial.fronts ≡ first_lists l.tables names (l.options.depth + 1) (length l.initial.fronts)
      → l.fronts ≡ first_lists l.tables names (l.options.depth + 1) (length l.fronts);
}
