use Rattle.ht_trace_tests.proofs.tests.flames.flames_by_each_cost.Given as goal

-- the counter is of the blank ledger that is passed
abbrev pub ghosts-worked_peaks : goal.ghosts-worked_peaks
ghosts-worked_peaks g a = record { name = a.blank.name; parts = a.blank.parts }
