use Rattle.std.proofs.Common.{refl, arith}
use Rattle.massif_cull.proofs.gaps.climb.Goals as goal

pub up-init : goal.up-init
up-init c = record { low = omega arith; size = refl; firsts = c.requires.firsts; keys = λ max high. refl }
