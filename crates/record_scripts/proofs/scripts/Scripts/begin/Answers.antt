use Rattle.std.proofs.Common.{List, length, ap, sym, subst, arith}
use Rattle.record_scripts.specs.LiveIds.{has_id}
use Rattle.record_scripts.specs.declared.script.Script.{Script}
use Rattle.record_scripts.specs.Job.{Job}
use Rattle.record_scripts.specs.ScriptTurns.{AreScripts}
use Rattle.record_scripts.proofs.TurnLemmas.{scripts-begun}
use Rattle.record_scripts.proofs.scripts.Scripts.begin.Goals as goal

pub invariant_of-self-2 : goal.invariant_of-self-2
invariant_of-self-2 c =
    subst (λ (scripts : List Script). AreScripts c.self.inside.stacks scripts (has_id c.in_ok-live.live)
    c.self.inside.events c.self.inside.limit) (sym
    c.in_ok-push.ensures.items)
    (scripts-begun c.self.inside.stacks c.self.inside.scripts.items (record { turns = c.new-2.result })
    (has_id c.self.inside.live) (has_id c.in_ok-live.live) c.self.inside.events c.self.inside.limit c.self.invariant
    (omega (arith, ap (λ (job : Job). length job.scripts) c.self.view_is)) c.new-2.ensures.items c.in_ok-live.ensures)
