use Rattle.std.proofs.Common.{◌≡◌, length, rules, vec_len}
use Rattle.massif_file.proofs.WrittenLemmas.{blanks_behind}
use Rattle.massif_file.proofs.writer.put_blanks.Goals as goal

pub returns-clause-appended : goal.returns-clause-appended
returns-clause-appended c =
    let all : vec_len c.args.out.now ≡ length c.args.out.now.items = search rules in
    rw (c.in_ok-resize.ensures.items, c.len.ensures)
    (blanks_behind c.args.out.now.items (vec_len c.args.out.now) c.args.count all)
