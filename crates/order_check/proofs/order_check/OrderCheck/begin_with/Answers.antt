use Rattle.order_check.specs.Following.{thread_for}
use Rattle.order_check.proofs.KeptLemmas.{kept-begun, kept-same}
use Rattle.order_check.proofs.order_check.OrderCheck.begin_with.Goals as goal

pub returns-in-Ok-clause-kept : goal.returns-in-Ok-clause-kept
returns-in-Ok-clause-kept c =
    kept-same c.begin_turn.new.self c.compare.new.self c.compare.ensures.job c.compare.ensures.order
    c.compare.ensures.kept
    (kept-begun c.args.self.now c.begin_turn.new.self (thread_for c.args.self.now.order c.args.line.now)
    c.in-Ok.ensures.job c.in-Ok.ensures.begun c.in-Ok.ensures.kept)
