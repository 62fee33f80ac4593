use Rattle.std.proofs.Common.{◌∙◌, sym}
use Rattle.order_check.proofs.StepLemmas.{stripped-none, stripped-some}
use Rattle.order_check.proofs.order_check.named_thread.Goals as goal

pub returns-in-Some : goal.returns-in-Some
returns-in-Some c =
    c.parse_dec.ensures.parsed ∙ sym (stripped-some c.args.line.now c.in-Some.digits c.in-Some.ensures.cases)

pub returns-in-None : goal.returns-in-None
returns-in-None c = sym (stripped-none c.args.line.now c.in-None.ensures.cases)
