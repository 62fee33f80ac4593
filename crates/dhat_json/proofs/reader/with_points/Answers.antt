use Rattle.std.proofs.Common.{Ok, sym, ap, ◌∙◌}
use Rattle.dhat_json.proofs.ProfileFindings.{all_points, faulty_point, too_many_points}
use Rattle.dhat_json.proofs.reader.with_points.Goals as goal

pub returns-then-gathered-eq4294967295-clause-exact : goal.returns-then-gathered-eq4294967295-clause-exact
returns-then-gathered-eq4294967295-clause-exact c value is h =
    too_many_points value c.args.gathered is.none h c.if-gathered-eq4294967295.true

pub returns-in-Some-clause-exact : goal.returns-in-Some-clause-exact
returns-in-Some-clause-exact c value is h =
    faulty_point value c.args.gathered c.in-Some.fault is.none h c.if-gathered-eq4294967295.false c.in-Some.is

pub returns-in-None-clause-exact : goal.returns-in-None-clause-exact
returns-in-None-clause-exact c value is h =
    all_points value c.args.front c.args.gathered is h c.if-gathered-eq4294967295.false c.in-None.is
    ∙ ap Ok (sym c.join_parts.ensures)

pub returns-in-None-clause-texts : goal.returns-in-None-clause-texts
returns-in-None-clause-texts c texts =
    let units = texts.2 in
    let time = texts.3 in
    rw c.join_parts.ensures
    (record {
      mode = texts.0;
      verb = texts.1;
      bu = units.0;
      bsu = units.1;
      bksu = units.2;
      tu = time.0;
      mtu = time.1;
      cmd = texts.4;
      ftbl = texts.5;
    })
