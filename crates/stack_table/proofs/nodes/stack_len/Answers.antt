use Rattle.std.proofs.Common.{ℕ, ◌≡◌, List, length, ap, arith}
use Rattle.stack_table.specs.Entries.{nodes_of}
use Rattle.stack_table.specs.Stack.{stack}
use Rattle.stack_table.proofs.Stacks.{stack-zero}
use Rattle.stack_table.proofs.EntryLemmas.{read_slice}
use Rattle.stack_table.proofs.nodes.stack_len.Goals as goal

pub outwards-smaller : goal.outwards-smaller
outwards-smaller c =
    (read_slice c.args.entries.now c.outwards.at c.requires.table (omega arith) (omega arith)).lower_parent

pub outwards-preserved : goal.outwards-preserved
outwards-preserved c =
    let reads = read_slice c.args.entries.now c.outwards.at c.requires.table (omega arith) (omega arith) in
    let longer = ap (λ (ips : List ℕ). length ips) reads.unfolds in
    record { few = omega arith; counted = omega arith }

pub returns : goal.returns
returns c =
    let outermost : c.outwards.at ≡ 0 = omega arith in
    let none = ap (λ (ips : List ℕ). length ips) (stack-zero (nodes_of c.args.entries.now)) in
    let left = ap (λ (n : ℕ). length (stack (nodes_of c.args.entries.now) n)) outermost in
    omega arith
