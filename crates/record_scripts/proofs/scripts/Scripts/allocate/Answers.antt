use Rattle.std.proofs.Common.{None, Some, ◌≡◌, ℕ, Bool, true, false, cond, List, length, refl, sym, ap, ap₂, ◌∙◌, subst}
use Rattle.std.proofs.Common.{arith}
use Rattle.std.specs.Prelude.{nat_eq}
use Rattle.record_scripts.specs.LiveIds.{has_id}
use Rattle.stack_table.specs.Node.{Node}
use Rattle.stack_table.specs.Interned.{Interned}
use Rattle.ht_lines.specs.Fields.{numbers}
use Rattle.stack_table.specs.Stack.{stack}
use Rattle.record_scripts.specs.declared.script_line.ScriptLine.{ScriptLine}
use Rattle.record_scripts.specs.Turns.{allocates}
use Rattle.record_scripts.specs.Job.{Job, in_last}
use Rattle.record_scripts.specs.ScriptFaults.{with_turn}
use Rattle.record_scripts.specs.ScriptTurns.{AreScripts, scripts_kept, turn_said}
use Rattle.record_scripts.proofs.KeptLemmas.{held-grown}
use Rattle.record_scripts.proofs.KnownLemmas.{few-ips}
use Rattle.record_scripts.proofs.TurnLemmas.{kept-next, live-there, live-undone, not-false, not-true, scripts-next}
use Rattle.record_scripts.proofs.TurnLemmas.{scripts-same, view-next}
use Rattle.record_scripts.proofs.scripts.Scripts.allocate.Goals as goal

pub invariant_of-self-in_err-reserve_turn : goal.invariant_of-self-in_err-reserve_turn
invariant_of-self-in_err-reserve_turn c =
    scripts-same _ _ _ _ _ _ _ c.self.invariant (c.reserve_turn.ensures.same _)
    (c.reserve_turn.ensures.held _ c.self.invariant.held) c.reserve_turn.ensures.count (λ id. refl)

pub invariant_of-self-in_err-insert : goal.invariant_of-self-in_err-insert
invariant_of-self-in_err-insert c =
    scripts-same _ _ _ _ _ _ _ c.self.invariant (c.reserve_turn.ensures.same _)
    (c.reserve_turn.ensures.held _ c.self.invariant.held) c.reserve_turn.ensures.count
    (λ id. c.in_err-insert.ensures.unchanged id)

pub invariant_of-self-in_default : goal.invariant_of-self-in_default
invariant_of-self-in_default c =
    subst (λ (nodes : List Node). AreScripts nodes c.reserve_turn.new.scripts.items
    (has_id c.remove-in_default.new.self) c.self.inside.events c.self.inside.limit) (sym
    c.in_default.ensures.interned.unchanged)
    (scripts-same _ _ _ _ _ _ _ c.self.invariant (c.reserve_turn.ensures.same _)
    (c.reserve_turn.ensures.held _ c.self.invariant.held) c.reserve_turn.ensures.count
    (live-undone (has_id c.self.inside.live) (has_id c.insert.new.self) (has_id c.remove-in_default.new.self) c.args.id
    c.in_ok-insert.ensures.live c.remove-in_default.ensures.live
    (not-true (has_id c.self.inside.live c.args.id) (sym c.in_ok-insert.ensures.added ∙ c.if-not-branch.false))))

pub invariant_of-self-then-not-branch : goal.invariant_of-self-then-not-branch
invariant_of-self-then-not-branch c =
    scripts-same _ _ _ _ _ _ _ c.self.invariant (c.reserve_turn.ensures.same _)
    (c.reserve_turn.ensures.held _ c.self.invariant.held) c.reserve_turn.ensures.count
    (live-there (has_id c.self.inside.live) (has_id c.insert.new.self) c.args.id
    c.in_ok-insert.ensures.live
    (not-false (has_id c.self.inside.live c.args.id)
    (sym c.in_ok-insert.ensures.added ∙ c.if-not-branch.true)))

pub invariant_of-self-then-self-lt1 : goal.invariant_of-self-then-self-lt1
invariant_of-self-then-self-lt1 c =
    scripts-same _ _ _ _ _ _ _ c.self.invariant (c.reserve_turn.ensures.same _)
    (c.reserve_turn.ensures.held _ c.self.invariant.held) c.reserve_turn.ensures.count
    (live-undone (has_id c.self.inside.live) (has_id c.insert.new.self)
    (has_id c.remove.new.self) c.args.id c.in_ok-insert.ensures.live
    c.remove.ensures.live
    (not-true (has_id c.self.inside.live c.args.id)
    (sym c.in_ok-insert.ensures.added ∙ c.if-not-branch.false)))

-- the ID wasn't live
absent : (c : goal.After-self-1) → has_id c.self.inside.live c.args.id ≡ false
absent c = not-true (has_id c.self.inside.live c.args.id) (sym c.in_ok-insert.ensures.added ∙ c.if-not-branch.false)

-- the scripts with the turn
kept : (c : goal.After-self-1) → scripts_kept c.intern.new.self c.push_turn.new.scripts.items
    ≡ in_last (scripts_kept c.self.inside.stacks c.self.inside.scripts.items)
    (allocates c.args.id c.args.size (numbers c.args.text.now))
kept c =
    let nodes = c.intern.new.self in
    kept-next c.self.inside.stacks nodes c.self.inside.scripts.items
    c.reserve_turn.new.scripts.items c.push_turn.new.scripts.items c.new-turn.result
    (allocates c.args.id c.args.size (numbers c.args.text.now)) c.intern.ensures.interned.continues
    c.self.invariant.held (c.reserve_turn.ensures.same nodes)
    (c.in_ok-push_turn.ensures.pushes.pushed nodes)
    (ap₂ (λ (line : ScriptLine) (node : ℕ). turn_said line (stack nodes node))
    c.new-turn.ensures.line c.new-turn.ensures.node
    ∙ ap (λ (ips : List ℕ). allocates c.args.id c.args.size ips) c.in-Ok-intern.ensures.interned.stack_is)

pub invariant_of-self-2 : goal.invariant_of-self-2
invariant_of-self-2 c =
    scripts-next c.self.inside.stacks c.intern.new.self c.self.inside.scripts.items c.push_turn.new.scripts.items
    (has_id c.self.inside.live) (has_id c.insert.new.self) c.self.inside.events c.self.inside.limit
    (allocates c.args.id c.args.size (numbers c.args.text.now)) c.self.invariant
    (omega (arith, ap (λ (job : Job). length job.scripts) c.self.view_is))
    (c.push_turn.ensures.pushes.count ∙ c.reserve_turn.ensures.count)
    (c.in_ok-push_turn.ensures.held _ (omega (arith, c.new-turn.ensures.node, c.in-Ok-intern.ensures.interned.within))
    (c.reserve_turn.ensures.held _
    (held-grown _ _ c.intern.ensures.interned.continues.held c.self.inside.scripts.items c.self.invariant.held)))
    c.intern.ensures.interned.single c.intern.ensures.interned.few_more
    (ap (λ (x : Interned). x.nodes) (sym c.in-Ok-intern.ensures.interned.interned)) (kept c) (omega arith)
    (λ q. c.in_ok-insert.ensures.live q
    ∙ ap (λ (b : Bool). cond (nat_eq c.args.id q) true b) (c.self.invariant.live_blocks q))
    (c.requires.few_bytes, few-ips (numbers c.args.text.now) c.in-Ok.ensures.read.good)
    (sym (c.self.invariant.live_blocks c.args.id) ∙ (absent c), c.in-Ok-intern.ensures.words)

pub returns-clause-added : goal.returns-clause-added
returns-clause-added c =
    view-next c.self.inside.limit c.self.inside.modules (scripts_kept c.self.inside.stacks c.self.inside.scripts.items)
    _ c.args.self.now (allocates c.args.id c.args.size (numbers c.args.text.now)) (kept c) c.self.view_is
    ∙ sym (ap
    (λ (b : Bool). with_turn c.args.self.now
    (cond b (Some (allocates c.args.id c.args.size (numbers c.args.text.now))) None))
    c.in-Ok.ensures.read.good)
