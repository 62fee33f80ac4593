use Rattle.std.proofs.Common.{◌≡◌, Bool, false, cond, List, length, refl, sym, ap, ◌∙◌, arith}
use Rattle.std.specs.Prelude.{nat_eq}
use Rattle.record_scripts.specs.LiveIds.{has_id}
use Rattle.stack_table.specs.Stack.{stack}
use Rattle.record_scripts.specs.declared.script_line.ScriptLine.{ScriptLine}
use Rattle.record_scripts.specs.Turns.{Turn, frees}
use Rattle.record_scripts.specs.Job.{Job, in_last}
use Rattle.record_scripts.specs.ScriptTurns.{scripts_kept, turn_kept, turn_said}
use Rattle.record_scripts.proofs.TurnLemmas.{live-absent, scripts-next, scripts-same, view-next}
use Rattle.record_scripts.proofs.scripts.Scripts.free.Goals as goal

pub invariant_of-self : goal.invariant_of-self
invariant_of-self c =
    scripts-same _ _ _ _ _ _ _ c.self.invariant (c.reserve_turn.ensures.same _)
    (c.reserve_turn.ensures.held _ c.self.invariant.held) c.reserve_turn.ensures.count (λ id. refl)

pub invariant_of-self-then-not-remove : goal.invariant_of-self-then-not-remove
invariant_of-self-then-not-remove c =
    scripts-same _ _ _ _ _ _ _ c.self.invariant (c.reserve_turn.ensures.same _)
    (c.reserve_turn.ensures.held _ c.self.invariant.held) c.reserve_turn.ensures.count
    (live-absent (has_id c.self.inside.live) (has_id c.remove.new.self) c.args.id
    c.remove.ensures.live (sym c.remove.ensures.removed ∙ c.if-not-remove.true))

-- the scripts with the turn
kept : (c : goal.After-self-1) → scripts_kept c.self.inside.stacks c.push_turn.new.scripts.items
    ≡ in_last (scripts_kept c.self.inside.stacks c.self.inside.scripts.items) (frees c.args.id)
kept c =
    let nodes = c.self.inside.stacks in
    let entry = c.new-turn.result in
    c.in_ok-push_turn.ensures.pushes.pushed nodes
    ∙ ap (λ (kept : List (List Turn)). in_last kept (turn_kept nodes entry))
    (c.reserve_turn.ensures.same nodes)
    ∙ ap (λ (line : ScriptLine). in_last (scripts_kept nodes c.self.inside.scripts.items)
    (turn_said line (stack nodes entry.node))) c.new-turn.ensures.line

pub invariant_of-self-2 : goal.invariant_of-self-2
invariant_of-self-2 c =
    scripts-next c.self.inside.stacks c.self.inside.stacks c.self.inside.scripts.items
    c.push_turn.new.scripts.items (has_id c.self.inside.live)
    (has_id c.remove.new.self) c.self.inside.events c.self.inside.limit
    (frees c.args.id) c.self.invariant
    (omega (arith, ap (λ (job : Job). length job.scripts) c.self.view_is))
    (c.push_turn.ensures.pushes.count ∙ c.reserve_turn.ensures.count)
    (c.in_ok-push_turn.ensures.held _ (omega (arith, c.new-turn.ensures.node))
    (c.reserve_turn.ensures.held _ c.self.invariant.held))
    c.self.invariant.single (omega arith) refl (kept c) (omega arith)
    (λ q. c.remove.ensures.live q
    ∙ ap (λ (b : Bool). cond (nat_eq c.args.id q) false b) (c.self.invariant.live_blocks q)) tt
    (sym (c.self.invariant.live_blocks c.args.id)
    ∙ (sym c.remove.ensures.removed ∙ c.if-not-remove.false))

pub returns-clause-added : goal.returns-clause-added
returns-clause-added c =
    view-next c.self.inside.limit c.self.inside.modules
    (scripts_kept c.self.inside.stacks c.self.inside.scripts.items) _ c.args.self.now
    (frees c.args.id) (kept c) c.self.view_is
