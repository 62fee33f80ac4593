use Rattle.trace_reading.proofs.peaks.take_event.Given as goal

-- the counter is of the blank ledger that is passed
abbrev pub ghosts-apply_uncounted : goal.ghosts-apply_uncounted
ghosts-apply_uncounted a = record { name = a.blank.name; parts = a.blank.parts }
