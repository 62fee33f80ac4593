use Rattle.std.specs.Prelude.{codes, decimal}
use Rattle.std.proofs.lemmas.Bool.{ne_eqb}
use Rattle.std.proofs.lemmas.Result.{on_ok_weaker}
use Rattle.ms_print.specs.Entries.{places_text}
use Rattle.ms_print.proofs.Appends.{three-appended}
use Rattle.ms_print.proofs.entry.put_places.Goals as goal

pub returns-clause-appended : goal.returns-clause-appended
unfolding places_text
returns-clause-appended c =
    on_ok_weaker c.put_bytes-3.result
    (λ added. rw (ne_eqb c.args.places 1 c.if-places-eq1.false)
    (three-appended c.args.out.now.items c.put_bytes-2.new.out.items c.put_dec.new.out.items
    c.put_bytes-3.new.out.items (codes "in ") (decimal c.args.places) (codes " places, all below")
    c.in_ok-put_bytes.ensures.appended c.in_ok-put_dec.ensures.appended added))
    c.put_bytes-3.ensures.appended
