use Rattle.std.proofs.Common.{◌≡◌, ◌≤◌, length, take, refl, sym, arith}
use Rattle.std.proofs.lemmas.List.{length-take-le}
use Rattle.stack_table.specs.Entries.{IsTable, nodes_of}
use Rattle.stack_table.proofs.Continuing.{Continues-take}
use Rattle.stack_table.proofs.EntryLemmas.{AreNodes-table, IsTable-take, nodes_of-take}
use Rattle.stack_table.proofs.IndexLemmas.{indexed-shared}
use Rattle.stack_table.proofs.nodes.Nodes.cut.Goals as goal

-- the entries that are left are a table, and their nodes are the first ones
left : (c : goal.After-cut) → IsTable c.truncate.new.self.items
left c = rw c.truncate.ensures.items (IsTable-take c.args.len c.self.inside.entries.items c.self.invariant.0)

first : (c : goal.After-cut) → nodes_of c.truncate.new.self.items ≡ take c.args.len c.args.self.now
first c = rw (c.truncate.ensures.items, nodes_of-take, c.self.view_is) refl

pub invariant_of-self : goal.invariant_of-self
invariant_of-self c =
    let nodes = nodes_of c.self.inside.entries.items in
    let held : c.args.len ≤ length nodes = rw c.self.view_is c.requires in
    let count : length (take c.args.len nodes) ≡ c.args.len = length-take-le c.args.len nodes held in
    let continues = Continues-take c.args.len nodes in (
      left c,
      rw (c.truncate.ensures.items, nodes_of-take) (
          indexed-shared nodes (take c.args.len nodes) c.self.inside.index c.cut.new.self c.args.len c.self.invariant.1
          (λ m within. sym (continues.nodes m (omega arith))) c.cut.ensures.same c.cut.ensures.fewer
          c.cut.ensures.within (omega arith)
          ),
    )

pub returns-clause-nodes_left : goal.returns-clause-nodes_left
returns-clause-nodes_left c = first c

pub returns-clause-continued : goal.returns-clause-continued
returns-clause-continued c = rw (first c) (Continues-take c.args.len c.args.self.now)

pub returns-clause-nodes : goal.returns-clause-nodes
returns-clause-nodes c = AreNodes-table c.truncate.new.self.items (nodes_of c.truncate.new.self.items) refl (left c)
