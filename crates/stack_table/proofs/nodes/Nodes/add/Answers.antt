use Rattle.std.proofs.Common.{◌≡◌, ◌∙◌, ℕ, ◌+◌, List, [], ◌∷◌, ◌++◌, length, length-append, refl, ap, arith}
use Rattle.stack_table.specs.Entries.{IsTable, node_of, nodes_of}
use Rattle.stack_table.specs.Node.{Node}
use Rattle.stack_table.proofs.Continuing.{Continues-push, Continues-refl}
use Rattle.stack_table.proofs.IndexLemmas.{indexed-shared}
use Rattle.stack_table.proofs.Stacks.{node_at-older, stack-older, stack-newest, frame_count-older, frame_count-newest}
use Rattle.stack_table.proofs.EntryLemmas.{AreNodes-table, length-nodes_of, nodes_of-push, IsTable-push}
use Rattle.stack_table.proofs.nodes.Nodes.add.Goals as goal

-- the entries with the new one are a table
grown : (c : goal.In_ok-push) → IsTable c.push.new.self.items
grown c =
    let entries = length-nodes_of c.self.inside.entries.items in
    let nodes = ap (λ (nodes : List Node). length nodes) c.self.view_is in
    rw c.in_ok-push.ensures.items (
    IsTable-push c.self.inside.entries.items _ c.self.invariant.0 (omega arith)
    (rw c.self.view_is (ap (λ (outer : ℕ). outer + c.args.frames) c.frames_of-outer.ensures.frames))
    (omega arith) (omega arith)
    )

pub invariant_of-self-2 : goal.invariant_of-self-2
invariant_of-self-2 c =
    let nodes = nodes_of c.self.inside.entries.items in
    let node = node_of (record { ip = c.args.ip; parent = c.args.parent; frames = c.args.frames; depth = 0 }) in
    let count = length-append nodes (node ∷ []) in (
      grown c,
      rw (c.in_ok-push.ensures.items, nodes_of-push) (
          indexed-shared nodes (nodes ++ node ∷ []) c.self.inside.index c.self.inside.index (length nodes)
          c.self.invariant.1
          (λ m held. node_at-older nodes node m held) (λ ip parent. refl) (omega arith) c.self.invariant.1.within
          (omega arith)
          ),
    )

-- and its nodes are the old ones and the new one
added : (c : goal.In_ok-push)
    → nodes_of c.push.new.self.items
    ≡ c.args.self.now ++ record { ip = c.args.ip; parent = c.args.parent; frames = c.args.frames } ∷ []
added c = rw (c.in_ok-push.ensures.items, nodes_of-push, c.self.view_is) refl

pub returns-clause-added : goal.returns-clause-added
returns-clause-added c = added c

pub returns-clause-count : goal.returns-clause-count
returns-clause-count c = ap (λ (nodes : List Node). length nodes) (added c) ∙ length-append c.args.self.now _

pub returns-clause-nodes : goal.returns-clause-nodes
returns-clause-nodes c = AreNodes-table c.push.new.self.items (nodes_of c.push.new.self.items) refl (grown c)

pub returns-clause-new_stack : goal.returns-clause-new_stack
returns-clause-new_stack c = rw (added c) (stack-newest c.args.self.now _ (length c.args.self.now + 1) refl)

pub returns-clause-new_frames : goal.returns-clause-new_frames
returns-clause-new_frames c = rw (added c) (frame_count-newest c.args.self.now _ (length c.args.self.now + 1) refl)

pub returns-clause-stacks_stay : goal.returns-clause-stacks_stay
returns-clause-stacks_stay c = λ n held. rw (added c) (stack-older c.args.self.now _ n held)

pub returns-clause-frames_stay : goal.returns-clause-frames_stay
returns-clause-frames_stay c = λ n held. rw (added c) (frame_count-older c.args.self.now _ n held)

pub returns-clause-continues : goal.returns-clause-continues
returns-clause-continues c = rw (added c) (Continues-push c.args.self.now _)

pub returns-then-parent-from-clause-continues : goal.returns-then-parent-from-clause-continues
returns-then-parent-from-clause-continues c = Continues-refl c.args.self.now

pub returns-then-frames-outer-clause-continues : goal.returns-then-frames-outer-clause-continues
returns-then-frames-outer-clause-continues c = Continues-refl c.args.self.now

pub returns-then-count-clause-continues : goal.returns-then-count-clause-continues
returns-then-count-clause-continues c = Continues-refl c.args.self.now
