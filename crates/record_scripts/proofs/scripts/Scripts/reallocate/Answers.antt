use Rattle.std.proofs.Common.{None, Some, Bool, cond, ◌≡◌, ℕ, List, length, refl, sym, ap, ap₂, ◌∙◌, subst, arith}
use Rattle.record_scripts.specs.LiveIds.{has_id}
use Rattle.stack_table.specs.Node.{Node}
use Rattle.stack_table.specs.Interned.{Interned}
use Rattle.ht_lines.specs.Fields.{numbers}
use Rattle.stack_table.specs.Stack.{stack}
use Rattle.record_scripts.specs.declared.script_line.ScriptLine.{ScriptLine}
use Rattle.record_scripts.specs.Turns.{reallocates}
use Rattle.record_scripts.specs.Job.{Job, in_last}
use Rattle.record_scripts.specs.ScriptFaults.{with_turn}
use Rattle.record_scripts.specs.ScriptTurns.{AreScripts, scripts_kept, turn_said}
use Rattle.record_scripts.proofs.KeptLemmas.{held-grown}
use Rattle.record_scripts.proofs.KnownLemmas.{few-ips}
use Rattle.record_scripts.proofs.TurnLemmas.{kept-next, live-kept, scripts-next, scripts-same, view-next}
use Rattle.record_scripts.proofs.scripts.Scripts.reallocate.Goals as goal

pub invariant_of-self-in_err-reserve_turn : goal.invariant_of-self-in_err-reserve_turn
invariant_of-self-in_err-reserve_turn c =
    scripts-same _ _ _ _ _ _ _ c.self.invariant (c.reserve_turn.ensures.same _)
    (c.reserve_turn.ensures.held _ c.self.invariant.held) c.reserve_turn.ensures.count (λ id. refl)

pub invariant_of-self-in_err-node : goal.invariant_of-self-in_err-node
invariant_of-self-in_err-node c =
    subst (λ (nodes : List Node). AreScripts nodes c.reserve_turn.new.scripts.items (has_id c.self.inside.live)
    c.self.inside.events c.self.inside.limit) (sym
    c.in_err-node.ensures.interned.unchanged)
    (scripts-same _ _ _ _ _ _ _ c.self.invariant (c.reserve_turn.ensures.same _)
    (c.reserve_turn.ensures.held _ c.self.invariant.held) c.reserve_turn.ensures.count (λ id. refl))

-- the scripts with the turn
kept : (c : goal.After-self-1) → scripts_kept c.intern.new.self c.push_turn.new.scripts.items
    ≡ in_last (scripts_kept c.self.inside.stacks c.self.inside.scripts.items)
    (reallocates c.args.id c.args.size (numbers c.args.text.now))
kept c =
    let nodes = c.intern.new.self in
    kept-next c.self.inside.stacks nodes c.self.inside.scripts.items
    c.reserve_turn.new.scripts.items c.push_turn.new.scripts.items c.new-turn.result
    (reallocates c.args.id c.args.size (numbers c.args.text.now)) c.intern.ensures.interned.continues
    c.self.invariant.held (c.reserve_turn.ensures.same nodes)
    (c.in_ok-push_turn.ensures.pushes.pushed nodes)
    (ap₂ (λ (line : ScriptLine) (node : ℕ). turn_said line (stack nodes node))
    c.new-turn.ensures.line c.new-turn.ensures.node
    ∙ ap (λ (ips : List ℕ). reallocates c.args.id c.args.size ips) c.in_ok-node.ensures.interned.stack_is)

pub invariant_of-self-2 : goal.invariant_of-self-2
invariant_of-self-2 c =
    scripts-next c.self.inside.stacks c.intern.new.self c.self.inside.scripts.items c.push_turn.new.scripts.items
    (has_id c.self.inside.live) (has_id c.self.inside.live) c.self.inside.events c.self.inside.limit
    (reallocates c.args.id c.args.size (numbers c.args.text.now)) c.self.invariant
    (omega (arith, ap (λ (job : Job). length job.scripts) c.self.view_is))
    (c.push_turn.ensures.pushes.count ∙ c.reserve_turn.ensures.count)
    (c.in_ok-push_turn.ensures.held _ (omega (arith, c.new-turn.ensures.node, c.in_ok-node.ensures.interned.within))
    (c.reserve_turn.ensures.held _
    (held-grown _ _ c.intern.ensures.interned.continues.held c.self.inside.scripts.items c.self.invariant.held)))
    c.intern.ensures.interned.single c.intern.ensures.interned.few_more
    (ap (λ (x : Interned). x.nodes) (sym c.in_ok-node.ensures.interned.interned)) (kept c) (omega arith)
    (live-kept (has_id c.self.inside.live) _ c.args.id c.self.invariant.live_blocks
    (sym c.contains.ensures ∙ c.if-not-contains.false))
    (c.requires.few_bytes, few-ips (numbers c.args.text.now) c.in-Ok.ensures.read.good) (
      sym (c.self.invariant.live_blocks c.args.id) ∙ (sym c.contains.ensures ∙ c.if-not-contains.false),
      c.in_ok-node.ensures.words,
    )

pub returns-clause-added : goal.returns-clause-added
returns-clause-added c =
    view-next c.self.inside.limit c.self.inside.modules (scripts_kept c.self.inside.stacks c.self.inside.scripts.items)
    _ c.args.self.now (reallocates c.args.id c.args.size (numbers c.args.text.now)) (kept c) c.self.view_is
    ∙ sym (ap
    (λ (b : Bool). with_turn c.args.self.now
    (cond b (Some (reallocates c.args.id c.args.size (numbers c.args.text.now))) None))
    c.in-Ok.ensures.read.good)
