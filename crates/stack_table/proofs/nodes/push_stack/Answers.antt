use Rattle.std.proofs.Common.{ℕ, ◌≡◌, ◌++◌, List, length, ap, sym, ◌∙◌, arith, append_assoc, append-nil}
use Rattle.stack_table.specs.Entries.{nodes_of}
use Rattle.stack_table.specs.Stack.{stack}
use Rattle.stack_table.proofs.Stacks.{stack-zero}
use Rattle.stack_table.proofs.EntryLemmas.{read_slice}
use Rattle.stack_table.proofs.nodes.push_stack.Goals as goal

pub returns-in_err-push-clause-succeeds : goal.returns-in_err-push-clause-succeeds
returns-in_err-push-clause-succeeds c =
    let reads = read_slice c.args.entries.now c.outwards.at c.requires.table (omega arith) (omega arith) in
    let longer = ap (λ (ips : List ℕ). length ips) reads.unfolds in
    absurd (omega (arith, c.in_err-push.ensures.full))

pub outwards-smaller : goal.outwards-smaller
outwards-smaller c =
    (read_slice c.args.entries.now c.outwards.at c.requires.table (omega arith) (omega arith)).lower_parent

pub outwards-preserved : goal.outwards-preserved
outwards-preserved c =
    let reads = read_slice c.args.entries.now c.outwards.at c.requires.table (omega arith) (omega arith) in
    let longer = ap (λ (ips : List ℕ). length ips) reads.unfolds in
    record {
      held = omega arith;
      appended =
          rw (c.in_ok-push.ensures.items, append_assoc) (
          ap (λ (ips : List ℕ). c.outwards.out.items ++ ips) (sym reads.unfolds) ∙ c.outwards.invariant.appended
          );
      room = omega (arith, c.in_ok-push.ensures.len, c.in_ok-push.ensures.capacity);
    }

pub returns-clause-ips : goal.returns-clause-ips
returns-clause-ips c =
    let outermost : c.outwards.at ≡ 0 = omega arith in
    let left =
    ap (λ (n : ℕ). stack (nodes_of c.args.entries.now) n) outermost ∙ stack-zero (nodes_of c.args.entries.now) in
    sym (append-nil c.outwards.out.items) ∙ ap (λ (ips : List ℕ). c.outwards.out.items ++ ips) (sym left)
    ∙ c.outwards.invariant.appended
