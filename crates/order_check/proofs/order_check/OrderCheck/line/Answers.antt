use Rattle.order_check.proofs.StepLemmas.{front-line, refused-line, taken-line}
use Rattle.order_check.proofs.order_check.OrderCheck.line.Goals as goal

pub returns : goal.returns
returns c = record {
  taken =
      taken-line c.step.result c.args.self.now c.step.new.self c.args.line.now c.step.ensures.line.stepped
      c.step.ensures.job;
  front = front-line c.step.result c.args.self.now c.step.new.self c.args.line.now c.step.ensures.line.stepped;
  refused = λ is lines has. refused-line c.args.self.now c.args.line.now (c.step.ensures.line.refused is) lines has;
  kept = c.step.ensures.kept;
  job = c.step.ensures.job;
}
