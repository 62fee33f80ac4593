use Rattle.std.proofs.Common.{refl}
use Rattle.std.proofs.lemmas.Result.{on_ok_weaker}
use Rattle.ht_print.specs.ReportGroups.{place_of}
use Rattle.ht_print.specs.ReportLines.{group_lines, members_lines, place_line}
use Rattle.ht_print.proofs.FlameLemmas.{appended-more}
use Rattle.ht_print.proofs.report_lines.put_group.Goals as goal

pub returns-clause-appended : goal.returns-clause-appended
unfolding group_lines
returns-clause-appended c =
    on_ok_weaker c.put_members.result
    (λ added. appended-more c.args.out.now.items c.put_place.new.out.items c.put_members.new.out.items
    (place_line c.args.scale (place_of c.args.layout.now.tables.now c.args.group.stack) c.args.group.figure)
    (members_lines c.args.layout.now.tables.now c.args.scale c.args.layout.now.options.sub_limit c.args.members.now) _
    c.in_ok-put_place.ensures.appended added refl)
    c.put_members.ensures.appended
