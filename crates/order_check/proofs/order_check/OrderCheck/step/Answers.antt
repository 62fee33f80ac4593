use Rattle.order_check.proofs.KeptLemmas.{kept-same}
use Rattle.order_check.proofs.order_check.OrderCheck.step.Goals as goal

pub returns-clause-kept : goal.returns-clause-kept
returns-clause-kept c =
    kept-same c.args.self.now c.compare.new.self c.compare.ensures.job c.compare.ensures.order c.compare.ensures.kept
