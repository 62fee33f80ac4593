use Rattle.std.proofs.Common.{◌≡◌, ◌++◌, drop}
use Rattle.std.specs.Result.{IfOk}
use Rattle.std.specs.Vec.Iter.{into_iter_items}
use Rattle.hp_outside.proofs.words.given_words.Given as goal

-- The words so far and those that are still to come are the ones behind the name.
abbrev pub invariant-loop-word : goal.invariant-loop-word
invariant-loop-word g l =
    IfOk l.fn.all (λ all. l.words.items ++ into_iter_items l.word-iterator ≡ drop 1 (into_iter_items all))
