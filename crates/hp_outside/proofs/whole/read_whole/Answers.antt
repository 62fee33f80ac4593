use Rattle.std.proofs.Common.{rules, ◌≡◌, ◌≤◌, length, take, arith}
use Rattle.std.proofs.lemmas.Grind.{common_steps}
use Rattle.hp_outside.proofs.Known.{prepend_known-filled}
use Rattle.hp_outside.proofs.whole.read_whole.Goals as goal

pub reads-preserved : goal.reads-preserved
reads-preserved g c = record {
  filled = search rules;
  within = search rules;
  left =
      let same : take c.reads.filled c.deref_mut.result.now ≡ take c.reads.filled c.reads.bytes.items =
      grind (arith, common_steps) in
      let held : c.reads.filled ≤ length c.deref_mut.result.now = search rules in
      prepend_known-filled _ _ _ _ _ _ _ _ _ _ _ c.reads.invariant.left c.in_ok-count.ensures.taken same held
      (search rules) (search rules);
  files = search rules;
  current = search rules;
  opens = search rules;
  faults = search rules;
}

pub returns-then-count-eq0-clause-answer : goal.returns-then-count-eq0-clause-answer
returns-then-count-eq0-clause-answer g c = grind (arith, common_steps)

pub returns-then-count-eq0-clause-given : goal.returns-then-count-eq0-clause-given
returns-then-count-eq0-clause-given g c = grind (arith, common_steps)

pub returns-clause-answer : goal.returns-clause-answer
returns-clause-answer g c = grind (arith, common_steps)
