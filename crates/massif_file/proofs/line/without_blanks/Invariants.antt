-- The blanks so far make no difference.
use Rattle.std.proofs.Common.{◌≡◌, length}
use Rattle.massif_file.specs.Blanks.{without_blanks}
use Rattle.massif_file.proofs.line.without_blanks.Given as goal

abbrev pub invariant-blanks : goal.invariant-blanks
invariant-blanks l = without_blanks l.rest ≡ without_blanks l.text

abbrev pub decreases-blanks : goal.decreases-blanks
decreases-blanks l = length l.rest
