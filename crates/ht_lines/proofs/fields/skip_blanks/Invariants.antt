use Rattle.std.proofs.Common.{◌≡◌, ◌≤◌, length}
use Rattle.ht_lines.specs.Fields.{after_blanks}
use Rattle.ht_lines.proofs.fields.skip_blanks.Given as goal

-- the blanks so far make no difference
abbrev pub invariant-blanks : goal.invariant-blanks
invariant-blanks l = (after_blanks l.rest ≡ after_blanks l.text) × (length l.rest ≤ length l.text)

abbrev pub decreases-blanks : goal.decreases-blanks
decreases-blanks l = length l.rest
