-- What was read is the line of an event.
use Rattle.std.proofs.Common.{◌∙◌, refl, ap, sym, subst, drop, take, get_or}
use Rattle.std.specs.Str.Parse.{AllDigits, digits_value}
use Rattle.ht_lines.proofs.EventLines.{event-begins}
use Rattle.ht_lines.proofs.event.event_line.Goals as goal

pub returns : goal.returns
returns c =
    let front = c.in_ok-front.ensures.cases.same in
    let found = c.in_ok-info.ensures in
    event-begins _ c.args.bytes.now c.in_ok-info.digits c.in_ok-front.ensures.cases.enough
    (ap (λ l. get_or l 0 0) (sym front) ∙ c.in_ok-kind.ensures)
    (ap (λ l. get_or l 1 0) (sym front) ∙ c.if-front-ne32.false) refl found.some found.most
    (subst (λ l. AllDigits 16 (take c.in_ok-info.digits (drop 2 l))) front found.digits)
    (found.value ∙ ap (λ l. digits_value 16 (take c.in_ok-info.digits (drop 2 l))) front)
    (ap (λ l. get_or (drop 2 l) c.in_ok-info.digits 0) (sym front) ∙ found.feed)
