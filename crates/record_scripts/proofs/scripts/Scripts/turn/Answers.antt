use Rattle.std.proofs.Common.{◌≡◌, ◌≤◌, List, length, sym, ap, ◌∙◌, subst}
use Rattle.std.specs.Prelude.{slice_get}
use Rattle.stack_table.specs.Node.{Node}
use Rattle.stack_table.specs.Stack.{stack}
use Rattle.record_scripts.specs.declared.script.Script.{Script}
use Rattle.record_scripts.specs.declared.script_line.ScriptLine.{ScriptLine}
use Rattle.record_scripts.specs.Job.{Job}
use Rattle.record_scripts.specs.KeptTurn.{line_kept}
use Rattle.record_scripts.specs.ScriptNodes.{nodes_in}
use Rattle.record_scripts.specs.ScriptTurns.{AreHeld, scripts_kept, turn_kept, turn_said}
use Rattle.record_scripts.specs.Turns.{IsBounded, script_at}
use Rattle.record_scripts.proofs.TableLemmas.{bounded-at}
use Rattle.record_scripts.proofs.scripts.Scripts.turn.Goals as goal

pub returns-clause-held : goal.returns-clause-held
returns-clause-held c =
    let nodes = c.self.inside.stacks in
    let same : nodes ≡ nodes_in c.args.self.now.scripts =
    c.self.invariant.nodes_are ∙ ap (λ (job : Job). nodes_in job.scripts) c.self.view_is in
    subst (λ (ns : List Node). c.in_ok-entry.entry.node ≤ length ns) same
    (c.in_ok-entry.ensures.held (length nodes)
    (subst (λ (scripts : List Script). AreHeld (length nodes) scripts) (sym c.deref.ensures.value)
    c.self.invariant.held))

pub returns-clause-bounded : goal.returns-clause-bounded
returns-clause-bounded c =
    let nodes = c.self.inside.stacks in
    let entry = c.in_ok-entry.entry in
    let same : nodes ≡ nodes_in c.args.self.now.scripts =
    c.self.invariant.nodes_are ∙ ap (λ (job : Job). nodes_in job.scripts) c.self.view_is in
    let bound : IsBounded (turn_kept nodes entry) =
    bounded-at (scripts_kept nodes c.self.inside.scripts.items) c.args.thread c.args.place _
    c.self.invariant.bounded
    (ap (λ (scripts : List Script).
    slice_get (script_at (scripts_kept nodes scripts) c.args.thread) c.args.place)
    (sym c.deref.ensures.value) ∙ c.in_ok-entry.ensures.kept nodes) in
    subst (λ (line : ScriptLine). IsBounded
    (turn_said line (stack (nodes_in c.args.self.now.scripts) entry.node))) (sym c.line.ensures)
    (subst (λ (ns : List Node). IsBounded (turn_said (line_kept entry) (stack ns entry.node))) same
    bound)
