use Rattle.std.proofs.Common.{◌<◌, length, true≢false, sym, ◌∙◌, arith}
use Rattle.std.proofs.lemmas.Bool.Decides.{Decides-eqb, nat_tests}
use Rattle.std.proofs.lemmas.Slice.Eq.{slice_eq-Decides}
use Rattle.order_check.proofs.LineTexts.{begun-feed, begun-front, begun-length, behind-line, behind-none}
use Rattle.order_check.proofs.order_check.begins_with_line.Goals as goal

pub returns-then-count-text-clause-other : goal.returns-then-count-text-clause-other
returns-then-count-text-clause-other c = λ same.
    behind-none c.args.line.now c.args.text.now
    (λ rest is. omega (arith, c.if-count-text.true, begun-length c.args.line.now c.args.text.now rest is))

pub returns-then-text-count-ne10-clause-other : goal.returns-then-text-count-ne10-clause-other
returns-then-text-count-ne10-clause-other c = λ same.
    behind-none c.args.line.now c.args.text.now (λ rest is.
    let feed = begun-feed c.args.line.now c.args.text.now rest is in
    grind (arith, nat_tests, c.if-text-count-ne10.true, feed))

pub returns-clause-begins : goal.returns-clause-begins
returns-clause-begins c = λ same.
    let within : length c.args.line.now < length c.args.text.now = omega (arith, c.if-count-text.false) in
    behind-line c.args.line.now c.args.text.now ((slice_eq-Decides Decides-eqb _ _ _ c.eq.ensures).0 same)
    (grind (arith, nat_tests, c.if-text-count-ne10.false)) within

pub returns-clause-other : goal.returns-clause-other
returns-clause-other c = λ other.
    behind-none c.args.line.now c.args.text.now (λ rest is.
    true≢false
    (sym ((slice_eq-Decides Decides-eqb _ _ _ c.eq.ensures).1 (begun-front c.args.line.now c.args.text.now rest is))
    ∙ other))
