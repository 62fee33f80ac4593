use Rattle.std.proofs.Common.{◌≡◌, [], true, is_some, IsTrue}
use Rattle.hp_outside.specs.Taken.{WhereTold}
use Rattle.hp_outside_tests.proofs.tests.lines.put_four.Given as goal

-- a file is current, nothing is left of it once its end was seen, and no other is opened
abbrev pub invariant-calls : goal.invariant-calls
invariant-calls l = record {
  current : IsTrue (is_some l.store.store.left);
  ended : l.reader.ended ≡ true → WhereTold l.store.store.left (λ bytes. bytes ≡ []);
  opens : l.store.store.opens ≡ l.initial.store.store.opens;
}
