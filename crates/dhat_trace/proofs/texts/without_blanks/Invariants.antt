-- The blanks so far make no difference.
use Rattle.std.proofs.Common.{◌≡◌, length}
use Rattle.dhat_trace.specs.ProfileTexts.{without_blanks}
use Rattle.dhat_trace.proofs.texts.without_blanks.Given as goal

abbrev pub invariant-blanks : goal.invariant-blanks
invariant-blanks l = without_blanks l.rest ≡ without_blanks l.text

abbrev pub decreases-blanks : goal.decreases-blanks
decreases-blanks l = length l.rest
