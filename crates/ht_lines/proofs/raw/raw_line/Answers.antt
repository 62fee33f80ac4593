use Rattle.std.proofs.Common.{IfSome, subst}
use Rattle.ht_lines.specs.RawLine.{BeginsWithRaw}
use Rattle.ht_lines.proofs.RawLines.{front-some}
use Rattle.ht_lines.proofs.raw.raw_line.Goals as goal

pub returns-in-43 : goal.returns-in-43
returns-in-43 c =
    front-some c.args.bytes.now c.allocation_line.result
    (subst (λ l. IfSome c.allocation_line.result (λ found. BeginsWithRaw l found)) c.in_ok-front.ensures.cases.same
    c.allocation_line.ensures)

pub returns-in-45 : goal.returns-in-45
returns-in-45 c =
    front-some c.args.bytes.now c.free_line.result
    (subst (λ l. IfSome c.free_line.result (λ found. BeginsWithRaw l found)) c.in_ok-front.ensures.cases.same
    c.free_line.ensures)

pub returns-in-116 : goal.returns-in-116
returns-in-116 c =
    front-some c.args.bytes.now c.node_line.result
    (subst (λ l. IfSome c.node_line.result (λ found. BeginsWithRaw l found)) c.in_ok-front.ensures.cases.same
    c.node_line.ensures)
