use Rattle.std.proofs.Common.{sym, refl, length}
use Rattle.ht_trace.proofs.SoundLemmas.{sound-node}
use Rattle.ht_trace.proofs.tables.Tables.add_node.Goals as goal

pub invariant_of-self-2 : goal.invariant_of-self-2
invariant_of-self-2 c =
    let table = c.self.inside in
    rw c.in_ok-add.ensures.added (
    sound-node table.version (length table.strings) c.in-Some.frames table.instructions table.nodes _ table.infos
    (sym c.in-Some.ensures.count) refl c.in_ok-add.ensures.fits c.self.invariant
    )
