use Rattle.std.proofs.Common.{subst, arith, reverse}
use Rattle.stack_table.specs.Interned.{Interned}
use Rattle.record_scripts.specs.ScriptTurns.{AreSingle}
use Rattle.record_scripts.proofs.NodeLemmas.{interned, no_fault}
use Rattle.record_scripts.proofs.stacks.intern.Goals as goal

pub unreachable-requires : goal.unreachable-requires
unreachable-requires c =
    let none = no_fault c.args.nodes.now c.args.ips.now c.requires.single (omega arith) (omega arith) in
    let some = c.in-Err.ensures.fault c.in_default.not-NoMemory in
    cc (none, some)

pub returns-in-Ok : goal.returns-in-Ok
returns-in-Ok c = record {
  interned = c.in-Ok.ensures.interned;
  stack_is = c.in-Ok.ensures.stack;
  within = c.in-Ok.ensures.within;
  few_more = omega (arith, c.intern_stack.ensures.few_more, c.requires.few_ips);
  single =
      subst (λ (x : Interned). AreSingle (reverse x.nodes)) c.in-Ok.ensures.interned
      (interned c.args.nodes.now c.args.ips.now c.requires.single).single;
  continues = c.intern_stack.ensures.continues;
  unchanged = tt;
}
