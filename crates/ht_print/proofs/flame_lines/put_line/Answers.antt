use Rattle.std.proofs.Common.{ℕ}
use Rattle.std.specs.Prelude.{codes, decimal}
use Rattle.std.proofs.lemmas.Result.{on_ok_weaker}
use Rattle.ht_print.proofs.FlameLemmas.{four-appended}
use Rattle.ht_print.proofs.flame_lines.put_line.Goals as goal

pub returns-clause-appended : goal.returns-clause-appended
returns-clause-appended c =
    on_ok_weaker c.put_bytes-3.result (λ added.
    four-appended c.args.out.now.items c.put_bytes.new.out.items c.put_bytes-2.new.out.items c.put_dec.new.out.items
    c.put_bytes-3.new.out.items c.args.path.now (codes " ") (decimal c.args.own) (codes "\n")
    c.in_ok-put_bytes.ensures.appended c.in_ok-put_bytes-2.ensures.appended c.in_ok-put_dec.ensures.appended added)
    c.put_bytes-3.ensures.appended
