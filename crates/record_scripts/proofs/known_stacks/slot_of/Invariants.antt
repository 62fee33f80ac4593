use Rattle.std.proofs.Common.{length}
use Rattle.record_scripts.proofs.known_stacks.slot_of.Given as goal

abbrev pub decreases-words : goal.decreases-words
decreases-words l = length l.rest
