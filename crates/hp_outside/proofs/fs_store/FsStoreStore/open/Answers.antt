use Rattle.std.proofs.Common.{◌≡◌, Result, Ok, Err, is_ok, ap, sym}
use Rattle.std.proofs.lemmas.Bool.{false≢true}
use Rattle.hp_outside.specs.declared.store.OpenFault.{OpenFault}
use Rattle.hp_outside.proofs.fs_store.FsStoreStore.open.Goals as goal

-- what was opened has no fault
opened : (fault : OpenFault) → ¬ (◌≡◌ {A = Result (Unit {0}) OpenFault} (Ok tt) (Err fault))
opened fault is = false≢true (sym (ap is_ok is))

pub returns-then-eq-clause-absent_untold : goal.returns-then-eq-clause-absent_untold
returns-then-eq-clause-absent_untold g c = λ untold is. absurd (opened _ is)

pub returns-then-eq-clause-failed : goal.returns-then-eq-clause-failed
returns-then-eq-clause-failed g c = λ is. absurd (opened _ is)

pub returns-in-Ok-clause-absent_untold : goal.returns-in-Ok-clause-absent_untold
returns-in-Ok-clause-absent_untold g c = λ untold is. absurd (opened _ is)

pub returns-in-Ok-clause-failed : goal.returns-in-Ok-clause-failed
returns-in-Ok-clause-failed g c = λ is. absurd (opened _ is)
