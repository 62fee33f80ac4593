use Rattle.std.proofs.Common.{◌≡◌, ℕ, ◌<◌, true, List, get_or}
use Rattle.cost_tree.specs.FrameTexts.{StatesNames}
use Rattle.std.specs.Fn.{FnReturnsAt}
use Rattle.ht_trace.specs.declared.frame.FrameAt.{FrameAt}
use Rattle.massif_tree.specs.FunctionLists.{is_listed}
use Rattle.massif_tree.proofs.function_lists.listed_front.Given as goal

abbrev pub invariant-each_frame : goal.invariant-each_frame
invariant-each_frame g l =
    (texts : List (List ℕ)) → StatesNames (FnReturnsAt g.F.Fn l.names.test) texts → (k : ℕ) (d : FrameAt) → k < l.place
    → is_listed l.tables texts (get_or l.frames k d) ≡ true
