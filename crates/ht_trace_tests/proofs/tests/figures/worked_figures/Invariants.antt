use Rattle.ht_trace_tests.proofs.tests.figures.worked_figures.Given as goal

-- the counter is of the blank ledger that is passed
abbrev pub ghosts-tells : goal.ghosts-tells
ghosts-tells g a = record { name = a.blank.name; parts = a.blank.parts }
