use Rattle.std.proofs.Common.{◌≡◌, ◌≢◌, ℕ, false, sym, ◌∙◌, subst, true≢false}
use Rattle.std.specs.Ordering.{is_lt}
use Rattle.interpret.specs.SymbolEntries.{key_cmp}
use Rattle.interpret.proofs.KeyLemmas.{key-below, key-not_below, key-upto, none-where, some-where}
use Rattle.interpret.proofs.start_index.StartIndex.last_up_to.Goals as goal

pub returns-in_err-number-clause-none : goal.returns-in_err-number-clause-none
returns-in_err-number-clause-none c =
    rw c.from_residual.ensures
    (λ start upto. (c.range.ensures.in_range tt).5 c.in_err-number.ensures.steps.0 (c.args.«module», start)
    (tt, key-upto c.args.«module» start c.args.offset upto))

other : (c : goal.Then-number-module) → c.in_ok-number.field-0-0.now.0 ≢ c.args.«module»
other c = c.if-number-module.true

pub returns-then-number-module-clause-none : goal.returns-then-number-module-clause-none
returns-then-number-module-clause-none c = λ start upto.
    none-where _ (λ some.
    let greatest =
    (c.range.ensures.in_range tt).4 _ _ c.in_ok-number.ensures.steps (c.args.«module», start)
    (tt, key-upto c.args.«module» start c.args.offset upto) some in
    let within = (c.range.ensures.in_range tt).3 _ _ c.in_ok-number.ensures.steps in
    true≢false (sym (key-below _ c.args.«module» _ c.args.offset start within.0.1 (other c)) ∙ greatest))

pub returns-clause-last : goal.returns-clause-last
returns-clause-last c = λ start place upto at.
    let greatest =
    (c.range.ensures.in_range tt).4 _ _ c.in_ok-number.ensures.steps (c.args.«module», start)
    (tt, key-upto c.args.«module» start c.args.offset upto) (some-where _ place at) in
    key-not_below c.args.«module» c.in_ok-number.field-0-0.now.1 start
    (subst (λ (n : ℕ). is_lt (key_cmp (n, c.in_ok-number.field-0-0.now.1) (c.args.«module», start)) ≡ false)
    c.if-number-module.false greatest)
