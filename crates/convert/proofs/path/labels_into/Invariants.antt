use Rattle.std.proofs.Common.{◌≡◌, map, take}
use Rattle.convert.proofs.path.labels_into.Given as goal

abbrev pub invariant-each_level : goal.invariant-each_level
invariant-each_level l = l.list.items ≡ map (λ level. level.label) (take l.level-index l.below)
