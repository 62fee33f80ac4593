use Rattle.std.proofs.Common.{◌≡◌, ℕ, ◌<◌, map}
use Rattle.std.specs.Prelude.{slice_get}
use Rattle.record_scripts.specs.ScriptTurns.{turn_numbered}
use Rattle.record_scripts.proofs.script.are_same_turns.Given as goal

-- the turns so far are the same
abbrev pub invariant-loop-place : goal.invariant-loop-place
invariant-loop-place l =
    (k : ℕ) → k < l.place → slice_get (map turn_numbered l.turns) k ≡ slice_get (map turn_numbered l.others) k
