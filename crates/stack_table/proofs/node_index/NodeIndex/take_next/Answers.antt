use Rattle.std.proofs.Common.{◌≡◌, ℕ, ◌+◌, ◌-◌, get_or, refl, sym, ap, ◌∙◌, arith, subst}
use Rattle.stack_table.specs.declared.node_index.NodeIndex.{NodeIndex}
use Rattle.stack_table.specs.Entries.{node_of, nodes_of}
use Rattle.stack_table.specs.NodeIndexed.{IsPassed, number_at}
use Rattle.stack_table.proofs.EntryLemmas.{length-nodes_of, node_at-entry, past_end}
use Rattle.stack_table.proofs.IndexLemmas.{indexed-next, key-other}
use Rattle.stack_table.proofs.NodeNumbers.{call-own, number-found}
use Rattle.stack_table.proofs.node_index.NodeIndex.take_next.Goals as goal
use Rattle.stack_table.proofs.node_index.NodeIndex.take_next.Goals.{in-Some, in-None+in_ok-insert-in-None}

pub returns-clause-indexed : goal.returns-clause-indexed
returns-clause-indexed c =
    let nodes = nodes_of c.args.entries.now in
    let count = length-nodes_of c.args.entries.now in
    let place = c.args.self.now.count in
    let entry = get_or c.args.entries.now place past_end in
    let node = node_at-entry c.args.entries.now place c.requires.more in
    let back : place ≡ place + 1 - 1 = omega arith in
    let at : ℕ → ℕ → NodeIndex → _ = λ ip parent index. number_at index ip parent in
    indexed-next nodes c.args.self.now (record { numbers = c.match-find_indexed.self.numbers; count = place + 1 })
    (node_of entry)
    c.requires.indexed (omega arith) node refl
    (elim c.match-find_indexed.branch [
      | in-Some w ↦ ap (at entry.ip entry.parent) w.self-is ∙ w.in-Some.ensures.kept ∙ sym w.in-Some.ensures.found
      | in-None+in_ok-insert-in-None w ↦
          let number =
          number-found nodes entry.ip entry.parent (place + 1) (node_of entry)
          (subst (λ (k : ℕ). IsPassed nodes entry.ip entry.parent k) back w.in-None.ensures.passed) node
          (call-own (node_of entry)) in
          ap (at entry.ip entry.parent) w.self-is ∙ w.in_ok-insert-in-None.ensures.updates.1 ∙ sym number
    ])
    (λ n before few is.
    elim c.match-find_indexed.branch [
      | in-Some w ↦ ap (at before.ip before.parent) w.self-is
      | in-None+in_ok-insert-in-None w ↦
          ap (at before.ip before.parent) w.self-is
          ∙ w.in_ok-insert-in-None.ensures.updates.2 _
          (key-other entry.ip entry.parent before (w.in-None.ensures.passed.none n before few is))
    ])
