use Rattle.std.proofs.Common.{◌≡◌, ℕ, ◌+◌, ◌-◌, get_or, sym, ◌∙◌, arith, subst}
use Rattle.stack_table.specs.Entries.{node_of, nodes_of}
use Rattle.stack_table.specs.NodeIndexed.{IsPassed}
use Rattle.stack_table.proofs.EntryLemmas.{length-nodes_of, node_at-entry, past_end}
use Rattle.stack_table.proofs.NodeNumbers.{number-found, number-none, passed-next}
use Rattle.stack_table.proofs.node_index.find_after.Goals as goal

back : (place : ℕ) → place ≡ place + 1 - 1
back place = omega arith

pub returns-then-is_call : goal.returns-then-is_call
returns-then-is_call c =
    let place = c.loop-place.place in
    let node = node_at-entry c.args.entries.now place (omega arith) in
    sym (number-found (nodes_of c.args.entries.now) c.args.ip c.args.parent (place + 1)
    (node_of (get_or c.args.entries.now place past_end))
    (subst (λ (k : ℕ). IsPassed (nodes_of c.args.entries.now) c.args.ip c.args.parent k) (back place)
    c.loop-place.invariant)
    node (sym c.is_call.ensures ∙ c.if-is_call.true))

pub loop-place-preserved : goal.loop-place-preserved
loop-place-preserved c =
    let place = c.loop-place.place in
    let node = node_at-entry c.args.entries.now place (omega arith) in
    passed-next (nodes_of c.args.entries.now) c.args.ip c.args.parent place
    (node_of (get_or c.args.entries.now place past_end)) c.loop-place.invariant node
    (sym c.is_call.ensures ∙ c.if-is_call.false)

pub returns : goal.returns
returns c =
    let count = length-nodes_of c.args.entries.now in
    sym (number-none (nodes_of c.args.entries.now) c.args.ip c.args.parent c.loop-place.place c.loop-place.invariant
    (omega arith))
