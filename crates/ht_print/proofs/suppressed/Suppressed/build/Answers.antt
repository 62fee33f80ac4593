use Rattle.std.proofs.Common.{Bool, List, length, ap, ◌∙◌}
use Rattle.std.proofs.lemmas.List.FromFn.{length-map-range_with_len}
use Rattle.ht_print.specs.Suppressed.{is_suppressed}
use Rattle.ht_print.proofs.suppressed.Suppressed.build.Goals as goal

pub returns-clause-count : goal.returns-clause-count
returns-clause-count c =
    ap (λ (bs : List Bool). length bs) c.in_ok-stacks.ensures
    ∙ length-map-range_with_len (is_suppressed c.args.tables.now) 0 _
