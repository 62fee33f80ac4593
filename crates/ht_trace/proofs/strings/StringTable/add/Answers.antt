use Rattle.std.proofs.Common.{arith}
use Rattle.ht_trace.proofs.EntryLemmas.{texts-push}
use Rattle.ht_trace.proofs.strings.StringTable.add.Goals as goal

pub returns-clause-added : goal.returns-clause-added
returns-clause-added c =
    rw (
      c.in_ok-push.ensures.items,
      c.in_ok-put_bytes.ensures.appended,
      c.in_ok-reserve.ensures.items,
      ← c.self.view_is,
    )
    (texts-push c.self.inside.bytes.items c.args.text.now c.self.inside.spans.items _ c.self.invariant
    (omega (arith, c.len-2.ensures)) (omega arith))
