-- The names of the functions that are passed over, and of those whose stacks are ignored. The two
-- lists of functions; closures state them where each means the names of its list.
use Rattle.std.specs.Prelude.{ℕ, Bool, List}
use Rattle.cost_tree.specs.FrameTexts.{StatesNames}
use Rattle.ht_trace.specs.TableState.{TableState}
use Rattle.massif_tree.specs.FunctionLists.{is_ignored}

pub record FunctionNames : Type 0 where
  pub alloc_fns : List (List ℕ)
  pub ignore_fns : List (List ℕ)

-- closures with these answers mean these names
pub record AreStated (alloc_answers ignore_answers : List ℕ → Bool → Type 0)
    (names : FunctionNames) : Type 0 where
  pub alloc_fns : StatesNames alloc_answers names.alloc_fns
  pub ignore_fns : StatesNames ignore_answers names.ignore_fns

-- whether the stack is ignored
abbrev pub ignores : TableState → FunctionNames → ℕ → Bool
ignores tables names stack = is_ignored tables names.alloc_fns names.ignore_fns stack
