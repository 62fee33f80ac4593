use Rattle.std.proofs.Common.{◌≡◌, ◌-◌, ◌≤◌, take, vec_len}
use Rattle.std.specs.Io.KnownBytes.{prepend_known}
use Rattle.hp_outside.proofs.whole.read_whole.Given as goal

abbrev pub invariant-reads : goal.invariant-reads
invariant-reads g l = record {
  filled : l.filled ≤ vec_len l.bytes;
  within : vec_len l.bytes ≤ l.most;
  left : g.S.Store.left l.initial.store ≡ prepend_known (take l.filled l.bytes.items) (g.S.Store.left l.store);
  files : g.S.Store.files l.store ≡ g.S.Store.files l.initial.store;
  current : g.S.Store.current l.store ≡ g.S.Store.current l.initial.store;
  opens : g.S.Store.opens l.store ≡ g.S.Store.opens l.initial.store;
  faults : g.S.Store.faults l.store ≡ g.S.Store.faults l.initial.store;
}

abbrev pub decreases-reads : goal.decreases-reads
decreases-reads g l = l.most - l.filled
