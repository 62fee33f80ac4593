-- The blanks so far make no difference.
use Rattle.std.proofs.Common.{◌≡◌, length}
use Rattle.massif_file.specs.Blanks.{without_blanks}
use Rattle.massif_sample.proofs.profile.without_blanks.Given as goal

abbrev pub invariant-each_blank : goal.invariant-each_blank
invariant-each_blank l = without_blanks l.rest ≡ without_blanks l.text

abbrev pub decreases-each_blank : goal.decreases-each_blank
decreases-each_blank l = length l.rest
