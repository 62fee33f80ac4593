use Rattle.std.proofs.Common.{refl, sym}
use Rattle.peak_costs.proofs.Keeping.{raised-stays}
use Rattle.peak_costs.proofs.mark.Mark.follow.Goals as goal

pub returns-in-Free : goal.returns-in-Free
returns-in-Free c = sym (raised-stays _ _ _ (c.requires.freed (rw c.in-Free.is refl)))
