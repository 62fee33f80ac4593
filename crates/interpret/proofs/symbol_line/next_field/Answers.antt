use Rattle.interpret.proofs.FieldLemmas.{fields-alone, fields-found}
use Rattle.interpret.proofs.symbol_line.next_field.Goals as goal

pub returns-in-Some-clause-fields : goal.returns-in-Some-clause-fields
returns-in-Some-clause-fields c = fields-found c.args.text.now c.in-Some.end c.in-Some.ensures.place

pub returns-in-None-clause-fields : goal.returns-in-None-clause-fields
returns-in-None-clause-fields c = fields-alone c.args.text.now c.in-None.ensures.place
