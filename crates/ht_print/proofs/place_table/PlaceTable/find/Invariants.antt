use Rattle.ht_print.specs.PlaceTable.{buckets_of, names_of}
use Rattle.ht_print.proofs.BucketLemmas.{Passed}
use Rattle.ht_print.proofs.place_table.PlaceTable.find.Given as goal

-- links lead backwards
abbrev pub decreases-backwards : goal.decreases-backwards
decreases-backwards l = l.at

-- no text that is passed is this one
abbrev pub invariant-backwards : goal.invariant-backwards
invariant-backwards l = Passed (buckets_of l.tables) (names_of l.tables l.self) l.text l.at
