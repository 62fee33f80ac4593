use Rattle.std.proofs.Common.{ℕ, List, subst, sym, ◌∙◌}
use Rattle.record_scripts.specs.KnownText.{IsKnownText}
use Rattle.record_scripts.proofs.KnownLemmas.{known-none}
use Rattle.record_scripts.proofs.known_stacks.KnownStack.take.Goals as goal

pub returns-in-Err : goal.returns-in-Err
returns-in-Err c = λ nodes known.
    subst (λ (text : List ℕ). IsKnownText nodes text 0) (sym (c.in-Err.ensures.items ∙ c.clear.ensures.items))
    (known-none nodes)
