use Rattle.std.proofs.Common.{◌≡◌, IsTrue}
use Rattle.hp_outside_tests.proofs.tests.stores.put_reads.Given as goal

-- a file stays current, and no other is opened
abbrev pub invariant-reads : goal.invariant-reads
invariant-reads g l = record {
  current : IsTrue (g.S.Store.current l.store);
  opens : g.S.Store.opens l.store ≡ g.S.Store.opens l.initial.store;
}
