use Rattle.record_scripts.proofs.NumberLemmas.{number-found}
use Rattle.record_scripts.proofs.number.usual_number.Goals as goal

pub returns : goal.returns
returns c =
    number-found c.args.text.now _ c.in_ok-number.digits c.in_ok-number.number c.in-len1-up.len_at_least
    c.if-blank-ne32.false c.in_ok-number.ensures c.split_at.ensures.back
