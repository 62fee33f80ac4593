-- What a call that reads from a store leaves as it was.
use Rattle.std.specs.Prelude.{◌≡◌, ◌≤◌}
use Rattle.hp_outside.specs.declared.store.Store as store

-- the same file is current, and no fault is forgotten
pub record ReadsOn {S : Type 0} (g : store.Ghosts S) (before now : S) : Type 0 where
  pub files : g.files now ≡ g.files before
  pub current : g.current now ≡ g.current before
  pub opens : g.opens now ≡ g.opens before
  pub faults : g.faults before ≤ g.faults now
