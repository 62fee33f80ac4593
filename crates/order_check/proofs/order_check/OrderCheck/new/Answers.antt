use Rattle.order_check.proofs.KeptLemmas.{kept-new}
use Rattle.order_check.proofs.order_check.OrderCheck.new.Goals as goal

pub returns-clause-kept : goal.returns-clause-kept
returns-clause-kept c = kept-new _ _ _ c.in_ok-stream.ensures.no_turns c.in_ok-stream.ensures.whole
