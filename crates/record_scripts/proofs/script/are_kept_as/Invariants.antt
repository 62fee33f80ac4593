use Rattle.std.proofs.Common.{◌≡◌, ℕ, ◌<◌}
use Rattle.std.specs.Prelude.{slice_get}
use Rattle.record_scripts.specs.ScriptTurns.{scripts_numbered}
use Rattle.record_scripts.proofs.script.are_kept_as.Given as goal

-- the scripts so far are the same
abbrev pub invariant-loop-thread : goal.invariant-loop-thread
invariant-loop-thread l =
    (k : ℕ) → k < l.thread → slice_get (scripts_numbered l.scripts) k ≡ slice_get (scripts_numbered l.others) k
