use Rattle.std.proofs.Common.{All, ℕ, List}
use Rattle.massif_file.specs.IsWritable.{IsLine}
use Rattle.massif_file.specs.StandsFor.{StandsFor}
use Rattle.profile_tests.proofs.tests.pages.profile_of.Given as goal

abbrev pub invariant-lines : goal.invariant-lines
invariant-lines l = (read : List (List ℕ)) × StandsFor l.reader read × All IsLine read
