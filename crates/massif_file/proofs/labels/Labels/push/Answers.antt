use Rattle.std.proofs.Common.{◌≡◌, length, refl, rules}
use Rattle.massif_file.proofs.LabelLemmas.{labels-push}
use Rattle.massif_file.proofs.labels.Labels.push.Goals as goal

pub returns-clause-appended : goal.returns-clause-appended
returns-clause-appended c =
    let start : c.len-start.result ≡ length c.self.inside.bytes.items = search rules in
    rw (
      c.in_ok-push.ensures.items,
      c.in_ok-reserve.ensures.items,
      c.in_ok-extend_from_slice.ensures.items,
      ← c.self.view_is,
    )
    (labels-push c.self.inside.bytes.items c.args.label.now c.self.inside.spans.items _ c.self.invariant start refl)
