use Rattle.std.proofs.Common.{◌≡◌, ℕ, sym, ap, ◌∙◌, arith}
use Rattle.std.proofs.lemmas.Option.{same_Some}
use Rattle.stack_table.specs.Entries.{nodes_of}
use Rattle.stack_table.specs.Node.{Node, node_at}
use Rattle.stack_table.specs.NodeNumber.{is_call}
use Rattle.stack_table.proofs.Stacks.{node_at-within}
use Rattle.stack_table.proofs.EntryLemmas.{length-nodes_of, node_at-number}
use Rattle.stack_table.proofs.IndexLemmas.{indexed-number, indexed-passed}
use Rattle.stack_table.proofs.node_index.NodeIndex.find_indexed.Goals as goal
use Rattle.stack_table.proofs.node_index.NodeIndex.find_indexed.Goals.{then-number-eq0-via-then-number-eq0}
use Rattle.stack_table.proofs.node_index.NodeIndex.find_indexed.Goals.{then-number-eq0-via-else-number-eq0+then-number-self}
use Rattle.stack_table.proofs.node_index.NodeIndex.find_indexed.Goals.{then-number-eq0-via-else-number-eq0+else-number-self+then-not-is_call}

pub returns-in_err-number-clause-passed : goal.returns-in_err-number-clause-passed
returns-in_err-number-clause-passed c =
    rw c.from_residual.ensures (
    indexed-passed (nodes_of c.args.entries.now) c.args.self.now c.args.ip c.args.parent c.requires.indexed
    (λ m node kept within at. let none = c.in_err-number.ensures.value ∙ kept in absurd (grind (arith, none)))
    )

pub returns-then-number-eq0-clause-passed : goal.returns-then-number-eq0-clause-passed
returns-then-number-eq0-clause-passed c =
    indexed-passed (nodes_of c.args.entries.now) c.args.self.now c.args.ip c.args.parent c.requires.indexed
    (λ m node kept within at.
    let same : c.in_ok-number.field-0.now ≡ m = same_Some _ _ (c.in_ok-number.ensures.value ∙ kept) in
    let count = length-nodes_of c.args.entries.now in
    let above = node_at-within (nodes_of c.args.entries.now) m node at in
    elim c.then-number-eq0.branch [
      | then-number-eq0-via-then-number-eq0 w ↦ absurd (omega arith)
      | then-number-eq0-via-else-number-eq0+then-number-self w ↦ absurd (omega arith)
      | then-number-eq0-via-else-number-eq0+else-number-self+then-not-is_call w ↦
          let here = node_at-number c.args.entries.now c.in_ok-number.field-0.now (omega arith) (omega arith) in
          let found = same_Some _ _ (sym (ap (λ (k : ℕ). node_at (nodes_of c.args.entries.now) k) same ∙ at) ∙ here) in
          ap (λ (x : Node). is_call c.args.ip c.args.parent x) found ∙ sym w.is_call.ensures ∙ w.if-not-is_call.true
    ])

pub returns-clause-found : goal.returns-clause-found
returns-clause-found c =
    let count = length-nodes_of c.args.entries.now in
    let here = node_at-number c.args.entries.now c.in_ok-number.field-0.now (omega arith) (omega arith) in
    sym (indexed-number (nodes_of c.args.entries.now) c.args.self.now c.args.ip c.args.parent c.in_ok-number.field-0.now
    _ c.requires.indexed c.if-number-self.false here (sym c.is_call.ensures ∙ c.if-not-is_call.false))
    ∙ sym c.in_ok-number.ensures.value
