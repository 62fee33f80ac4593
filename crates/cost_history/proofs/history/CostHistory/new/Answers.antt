use Rattle.cost_history.proofs.Telling.{tells-none}
use Rattle.cost_history.proofs.history.CostHistory.new.Goals as goal

pub returns-clause-tells : goal.returns-clause-tells
returns-clause-tells c = λ costs free. tells-none _ costs c.new-2.ensures.items free
