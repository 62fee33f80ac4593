use Rattle.std.proofs.Common.{ℕ, List, [], ◌++◌, take, get_or, ap, ◌∙◌, arith}
use Rattle.std.proofs.lemmas.Option.{slice_get-get_or}
use Rattle.hp_num.proofs.Laws.{extends_more}
use Rattle.cost_tree.specs.Costed.{Costed}
use Rattle.convert.specs.Folded.{folded_line, lines_text}
use Rattle.convert.specs.Numbers.{lines_at}
use Rattle.convert.proofs.Appends.{appended-more}
use Rattle.convert.proofs.LineTexts.{lines-all, lines-count, lines-more}
use Rattle.convert.proofs.lines.put_lines.Goals as goal

pub each_list-preserved : goal.each_list-preserved
each_list-preserved c =
    let sums = c.args.sums.now in
    let lines : List Costed = lines_at sums.names sums.lists.keys sums.sums.items in
    let count = lines-count sums.names sums.lists.keys sums.sums.items c.requires.sums.0 c.requires.sums.1 in
    let line : Costed = get_or lines c.each_list.place (record { texts = []; cost = 0 }) in
    let at = slice_get-get_or lines c.each_list.place (record { texts = []; cost = 0 }) (omega arith) in
    let written =
    appended-more c.args.out.now.items c.each_list.out.items c.put_line_at.new.out.items
    (lines_text (take c.each_list.place lines)) (folded_line line) _
    c.each_list.invariant.written (c.in_ok-put_line_at.ensures.appended line at)
    (lines-more lines c.each_list.place line at) in
    record { written = written; kept = extends_more c.args.out.now.items c.put_line_at.new.out.items _ written }

pub returns-clause-appended : goal.returns-clause-appended
returns-clause-appended c = λ items are.
    let sums = c.args.sums.now in
    c.each_list.invariant.written
    ∙ ap (λ (bytes : List ℕ). c.args.out.now.items ++ bytes)
    (lines-all sums.names sums.lists.keys sums.sums.items items c.each_list.place are (omega arith))
