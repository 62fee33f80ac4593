-- The lines so far were taken, and the rest of the file is what the reader keeps and the store has left.
use Rattle.std.proofs.Common.{◌≡◌, ◌+◌, ◌-◌, ◌≤◌, [], None, true}
use Rattle.hp_outside.specs.Taken.{WhereTold}
use Rattle.order_check.proofs.LinesLoop.{Reading}
use Rattle.order_check.proofs.check.compare_lines.Given as goal

abbrev pub invariant-lines : goal.invariant-lines
invariant-lines g l = record {
  input : l.lines.input ≡ l.initial.lines.input;
  line_limit : l.lines.line_limit ≡ l.initial.lines.line_limit;
  no_fault : l.lines.fault ≡ None;
  given : l.lines.given ≤ l.lines.input + 1;
  ended : l.lines.ended ≡ true → WhereTold (g.S.Store.left l.store) (λ bytes. bytes ≡ []);
  same_job : l.check.job ≡ l.initial.check.job;
  reading : Reading l.initial.lines.input l.initial.lines.line_limit l.check l.lines (g.S.Store.left l.initial.store)
      (g.S.Store.left l.store);
  files : g.S.Store.files l.store ≡ g.S.Store.files l.initial.store;
  current : g.S.Store.current l.store ≡ g.S.Store.current l.initial.store;
  opens : g.S.Store.opens l.store ≡ g.S.Store.opens l.initial.store;
  faults : g.S.Store.faults l.store ≡ g.S.Store.faults l.initial.store;
}

abbrev pub decreases-lines : goal.decreases-lines
decreases-lines g l = l.lines.input + 1 - l.lines.given
