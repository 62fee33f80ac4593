use Rattle.order_check.proofs.AnswerLemmas.{one-answer}
use Rattle.order_check.proofs.laws.one_answer.Goals as goal

pub returns : goal.returns
returns c =
    λ input line job bytes left other_left result other t u x y. one-answer input line job bytes left other_left result
    other t u x y
