use Rattle.std.proofs.Common.{List, ap}
use Rattle.massif_cull.proofs.Standing.{stands-none}
use Rattle.massif_cull.specs.declared.snapshot.SnapEntry.{SnapEntry}
use Rattle.massif_cull.specs.Kept.{Kept}
use Rattle.massif_cull.proofs.array.SnapArray.new.Goals as goal

pub returns-clause-stands : goal.returns-clause-stands
returns-clause-stands g c =
    stands-none _
    (ap (λ (es : List SnapEntry). let k : Kept = record {
      entries = es;
      interval = 0;
      last_peak = 0;
      normals = 0;
    } in k) c.in_ok-snaps.ensures.entries)
