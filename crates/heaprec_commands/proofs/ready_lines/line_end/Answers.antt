use Rattle.std.proofs.Common.{◌∙◌, take, get_or, ap, sym, subst, arith}
use Rattle.std.proofs.lemmas.List.{get_or-take, take-take}
use Rattle.hp_outside.specs.WholeLines.{IsLineText}
use Rattle.heaprec_commands.proofs.ready_lines.line_end.Goals as goal

pub returns-clause-one_line : goal.returns-clause-one_line
returns-clause-one_line c =
    let bytes = c.args.bytes.now in
    let end = c.in_ok-end.end in
    let found = c.in_ok-end.ensures in
    subst IsLineText
    (ap (take end) c.in_ok-front.ensures.cases.same ∙ take-take end 64 bytes (omega (arith, found.short)))
    found.one_line

pub returns-clause-feed : goal.returns-clause-feed
returns-clause-feed c =
    let bytes = c.args.bytes.now in
    let end = c.in_ok-end.end in
    let found = c.in_ok-end.ensures in
    sym (get_or-take 64 bytes end 0 found.short)
    ∙ (ap (λ l. get_or l end 0) (sym c.in_ok-front.ensures.cases.same) ∙ found.feed)

pub returns-clause-within : goal.returns-clause-within
returns-clause-within c = omega (arith, c.in_ok-end.ensures.short, c.in_ok-front.ensures.cases.enough)
