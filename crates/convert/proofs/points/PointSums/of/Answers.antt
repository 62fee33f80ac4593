use Rattle.std.proofs.Common.{◌≡◌, arith, Err, None, sym, ap, ◌∙◌}
use Rattle.std.proofs.lemmas.Option.{none-some, same_Some}
use Rattle.convert.specs.declared.fault.ConvertFault.TheVariants.{NoFigures, TooLarge}
use Rattle.convert.proofs.Faults.{no-fault, no-figures, too-large}
use Rattle.convert.specs.ConvertFault.{folded_fault}
use Rattle.convert.proofs.points.PointSums.of.Goals as goal
use Rattle.convert.proofs.points.PointSums.of.Goals.{In-Some}

pub returns-then-not-has_figures-clause-fault : goal.returns-then-not-has_figures-clause-fault
returns-then-not-has_figures-clause-fault c =
    λ other. no-figures c.args.key c.args.dhat.now (sym c.has_figures.ensures.told ∙ c.if-not-has_figures.true)

pub returns-then-not-has_figures-clause-refused : goal.returns-then-not-has_figures-clause-refused
returns-then-not-has_figures-clause-refused c = λ fault is.
    ap Err (same_Some NoFigures fault
    (sym (no-figures c.args.key c.args.dhat.now (sym c.has_figures.ensures.told ∙ c.if-not-has_figures.true)) ∙ is))

pub returns-in_default-clause-fault : goal.returns-in_default-clause-fault
returns-in_default-clause-fault c =
    λ other. too-large c.args.key c.args.dhat.now (sym c.has_figures.ensures.told ∙ c.if-not-has_figures.false)
    c.in_default.ensures.too_large

pub returns-in_default-clause-refused : goal.returns-in_default-clause-refused
returns-in_default-clause-refused c = λ fault is.
    ap Err (same_Some TooLarge fault
    (sym (too-large c.args.key c.args.dhat.now (sym c.has_figures.ensures.told ∙ c.if-not-has_figures.false)
    c.in_default.ensures.too_large)
    ∙ is))

-- nothing stands against the conversion where the sum is at most 2^62
small : (c : In-Some) → folded_fault c.args.key c.args.dhat.now ≡ None
small c =
    no-fault c.args.key c.args.dhat.now (sym c.has_figures.ensures.told ∙ c.if-not-has_figures.false)
    (let total = c.in-Some.ensures.sum in let within = c.in-Some.ensures.within in omega arith)

pub returns-in-Ok-clause-no_fault : goal.returns-in-Ok-clause-no_fault
returns-in-Ok-clause-no_fault c = small (goal.at.returns-in-Ok-clause-no_fault c).In-Some

pub returns-in-Ok-clause-refused : goal.returns-in-Ok-clause-refused
returns-in-Ok-clause-refused c = λ fault is.
    absurd (none-some fault (sym (small (goal.at.returns-in-Ok-clause-refused c).In-Some) ∙ is))

pub returns-in-Err-clause-refused : goal.returns-in-Err-clause-refused
returns-in-Err-clause-refused c = λ fault is.
    absurd (none-some fault (sym (small (goal.at.returns-in-Err-clause-refused c).In-Some) ∙ is))
