use Rattle.std.proofs.Common.{List, length, ap, ◌∙◌, arith, rules}
use Rattle.std.proofs.lemmas.List.{length_push}
use Rattle.massif_cull.specs.declared.snapshot.SnapEntry.{SnapEntry}
use Rattle.massif_cull.specs.Entries.{last_time}
use Rattle.massif_cull.proofs.Removals.{among_same}
use Rattle.massif_cull.proofs.Sound.{last_time-push}
use Rattle.massif_cull.proofs.array.append.Goals as goal

pub returns-then-len-max-clause-appends : goal.returns-then-len-max-clause-appends
returns-then-len-max-clause-appends g c = record {
  max = search rules;
  entries = search rules;
  loads = search rules;
  last = ap (λ (es : List SnapEntry). last_time es) c.push.ensures.entries
      ∙ last_time-push c.args.snaps.now.entries c.args.entry;
  not_empty =
      omega (
        arith,
        ap (λ (es : List SnapEntry). length es) c.push.ensures.entries,
        length_push c.args.snaps.now.entries c.args.entry,
      );
  below_max = search rules;
  loads_beside = search rules;
  sound = search rules;
  among = among_same _ _ _ _ c.push.ensures.entries c.push.ensures.loads;
}
