use Rattle.std.proofs.Common.{◌≡◌, ℕ, ◌++◌, List, eqb, false, sym, ap, ◌∙◌, arith}
use Rattle.std.specs.Prelude.{codes, decimal}
use Rattle.std.proofs.lemmas.Bool.Decides.{nat_tests}
use Rattle.std.proofs.lemmas.Result.{on_ok_weaker}
use Rattle.ht_print.proofs.ReportLemmas.{suppressed_line-some, three-appended}
use Rattle.ht_print.proofs.section.put_suppressed.Goals as goal

pub returns-clause-appended : goal.returns-clause-appended
returns-clause-appended c =
    let some : eqb c.args.bytes 0 ≡ false = grind (arith, nat_tests) in
    on_ok_weaker c.put_bytes-2.result
    (λ added. three-appended c.args.out.now.items c.put_bytes.new.out.items c.put_dec.new.out.items
    c.put_bytes-2.new.out.items (codes "suppressed: ") (decimal c.args.bytes) (codes " bytes\n")
    c.in_ok-put_bytes.ensures.appended c.in_ok-put_dec.ensures.appended added
    ∙ ap (λ (bytes : List ℕ). c.args.out.now.items ++ bytes) (sym (suppressed_line-some c.args.bytes some)))
    c.put_bytes-2.ensures.appended
