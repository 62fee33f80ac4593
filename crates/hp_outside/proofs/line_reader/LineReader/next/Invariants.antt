use Rattle.std.proofs.Common.{◌≡◌, ◌+◌, ◌-◌, ◌≤◌, [], None, true, length, if◌then◌else◌}
use Rattle.std.specs.List.{position_or_len}
use Rattle.std.specs.Io.KnownBytes.{prepend_known}
use Rattle.hp_outside.specs.Lines.{is_line_feed}
use Rattle.hp_outside.specs.Taken.{WhereTold}
use Rattle.hp_outside.specs.NextLine.{IsUndecided}
use Rattle.hp_outside.specs.ReaderCalls.{StandsAt}
use Rattle.hp_outside.proofs.line_reader.LineReader.next.Given as goal

abbrev pub invariant-reads : goal.invariant-reads
invariant-reads g l = record {
  fresh : l.initial.self.fault ≡ None;
  within : l.initial.self.passed ≤ l.initial.self.input;
  bounded : l.initial.self.given ≤ l.initial.self.input + 1;
  fault : l.self.fault ≡ None;
  same : StandsAt l.initial.self l.self;
  rest : prepend_known l.initial.self.kept (g.S.Store.left l.initial.store)
      ≡ prepend_known l.self.kept (g.S.Store.left l.store);
  scanned : l.scanned ≤ length l.self.kept;
  known : l.scanned ≤ position_or_len is_line_feed l.self.kept;
  files : g.S.Store.files l.store ≡ g.S.Store.files l.initial.store;
  current : g.S.Store.current l.store ≡ g.S.Store.current l.initial.store;
  opens : g.S.Store.opens l.store ≡ g.S.Store.opens l.initial.store;
  faults : g.S.Store.faults l.store ≡ g.S.Store.faults l.initial.store;
  ended : l.self.ended ≡ true → WhereTold (g.S.Store.left l.store) (λ bytes. bytes ≡ []);
  waited : ¬ (IsUndecided l.initial.self.input l.initial.self.line_limit l.initial.self.passed l.initial.self.kept)
      → (l.store ≡ l.initial.store) × (l.self.kept ≡ l.initial.self.kept);
  idle : l.initial.self.ended ≡ true → (l.store ≡ l.initial.store) × (l.self.ended ≡ true);
}

abbrev pub decreases-reads : goal.decreases-reads
decreases-reads g l = (l.self.input + 1 - (l.self.passed + length l.self.kept)) + (if l.self.ended then 0 else 1)
