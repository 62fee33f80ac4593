use Rattle.std.proofs.Common.{◌≡◌, None}
use Rattle.std.proofs.lemmas.Result.{IfOk-at_ok}
use Rattle.std.specs.Prelude.{All, IsUtf8}
use Rattle.dhat_json.specs.DataOf.{data_of}
use Rattle.dhat_json.specs.DhatFault.{first_of, unit_findings, run_findings, table_findings}
use Rattle.dhat_json.specs.Parts.{units_in, run_in}
use Rattle.dhat_json.specs.ProfileIn.{table_in}
use Rattle.dhat_json.proofs.Findings.{passes_on, read_as, refused_as}
use Rattle.dhat_json.proofs.ProfileFindings.{front_is, nothing_in_front, refused_in_head, refused_in_list}
use Rattle.dhat_json.proofs.ProfileFindings.{refused_in_run, refused_in_table, refused_in_units}
use Rattle.dhat_json.proofs.reader.read_front.Goals as goal
use Rattle.dhat_json.proofs.reader.read_front.Goals.{In_ok-parts, In_ok-parts-2, In_ok-parts-3}

read-units : (c : In_ok-parts)
    → (first_of (unit_findings (data_of c.args.value.now)) ≡ None)
    × (c.in_ok-parts.parts.1 ≡ units_in (data_of c.args.value.now))
read-units c =
    read_as c.read_units.result c.in_ok-parts.parts.1 _ _ c.in_ok-parts.ensures.ok.0 c.read_units.ensures.read

read-run : (c : In_ok-parts-2)
    → (first_of (run_findings (data_of c.args.value.now)) ≡ None)
    × (c.in_ok-parts-2.parts.1 ≡ run_in (data_of c.args.value.now))
read-run c =
    read_as c.read_run.result c.in_ok-parts-2.parts.1 _ _ c.in_ok-parts-2.ensures.ok.0 c.read_run.ensures.read

read-table : (c : In_ok-parts-3)
    → (first_of (table_findings (data_of c.args.value.now)) ≡ None)
    × (c.in_ok-parts-3.parts.1 ≡ table_in (data_of c.args.value.now))
read-table c =
    read_as c.read_table.result c.in_ok-parts-3.parts.1 _ _ c.in_ok-parts-3.ensures.ok.0 c.read_table.ensures.read

pub returns-in_err-head-clause-read : goal.returns-in_err-head-clause-read
returns-in_err-head-clause-read c =
    passes_on _ _ _ _ _ c.from_residual.ensures.1 c.in_err-head.ensures.read
    (refused_in_head (data_of c.args.value.now) _)

pub returns-in_err-parts-clause-read : goal.returns-in_err-parts-clause-read
returns-in_err-parts-clause-read c =
    passes_on _ _ _ _ _ c.from_residual-in_err-parts.ensures.1
    (refused_as _ _ _ _ c.in_err-parts.ensures.err c.read_units.ensures.read)
    (refused_in_units (data_of c.args.value.now) _ c.in_ok-head.ensures.read.0)

pub returns-in_err-parts-2-clause-read : goal.returns-in_err-parts-2-clause-read
returns-in_err-parts-2-clause-read c =
    let at = goal.at.returns-in_err-parts-2-clause-read c in
    passes_on _ _ _ _ _ c.from_residual-in_err-parts-2.ensures.1
    (refused_as _ _ _ _ c.in_err-parts-2.ensures.err c.read_run.ensures.read)
    (refused_in_run (data_of c.args.value.now) _ c.in_ok-head.ensures.read.0 (read-units at.In_ok-parts).0)

pub returns-in_err-parts-3-clause-read : goal.returns-in_err-parts-3-clause-read
returns-in_err-parts-3-clause-read c =
    let at = goal.at.returns-in_err-parts-3-clause-read c in
    passes_on _ _ _ _ _ c.from_residual-in_err-parts-3.ensures.1
    (refused_as _ _ _ _ c.in_err-parts-3.ensures.err c.read_table.ensures.read)
    (refused_in_table (data_of c.args.value.now) _ c.in_ok-head.ensures.read.0 (read-units at.In_ok-parts).0
    (read-run at.In_ok-parts-2).0)

pub returns-in_err-parts-4-clause-read : goal.returns-in_err-parts-4-clause-read
returns-in_err-parts-4-clause-read c =
    let at = goal.at.returns-in_err-parts-4-clause-read c in
    passes_on _ _ _ _ _ c.from_residual-in_err-parts-4.ensures.1
    (refused_as _ _ _ _ c.in_err-parts-4.ensures.err c.check_points.ensures)
    (refused_in_list (data_of c.args.value.now) _ c.in_ok-head.ensures.read.0 (read-units at.In_ok-parts).0
    (read-run at.In_ok-parts-2).0 (read-table at.In_ok-parts-3).0)

pub returns-clause-read : goal.returns-clause-read
returns-clause-read c =
    let v = data_of c.args.value.now in
    let at = goal.at.returns-clause-read c in
    let units = read-units at.In_ok-parts in
    let run' = read-run at.In_ok-parts-2 in
    let table = read-table at.In_ok-parts-3 in
    let list =
    read_as c.check_points.result c.in_ok-parts-4.field-0-1 _ _ c.in_ok-parts-4.ensures.ok.0 c.check_points.ensures in
    let is =
    front_is v c.in_ok-head.head c.in_ok-parts.parts.1 c.in_ok-parts-2.parts.1 c.in_ok-parts-3.parts.1
    c.in_ok-head.ensures.read.1 units.1 run'.1 table.1 in
    rw (
      c.in_ok-parts-4.ensures.ok.1,
      c.in_ok-parts-3.ensures.ok.1,
      c.in_ok-parts-2.ensures.ok.1,
      c.in_ok-parts.ensures.ok.1,
    )
    (nothing_in_front v c.in_ok-head.ensures.read.0 units.0 run'.0 table.0 list.0, is)

pub returns-clause-utf8 : goal.returns-clause-utf8
returns-clause-utf8 c =
    let head = c.in_ok-head.ensures.utf8 in
    let units = IfOk-at_ok _ c.in_ok-parts.ensures.ok.0 c.read_units.ensures.utf8 in
    let run' = IfOk-at_ok _ c.in_ok-parts-2.ensures.ok.0 c.read_run.ensures.utf8 in
    let ftbl = IfOk-at_ok (All IsUtf8) c.in_ok-parts-3.ensures.ok.0 c.read_table.ensures.utf8 in
    rw (
      c.in_ok-parts-4.ensures.ok.1,
      c.in_ok-parts-3.ensures.ok.1,
      c.in_ok-parts-2.ensures.ok.1,
      c.in_ok-parts.ensures.ok.1,
    )
    (head.0, head.1, units.0, units.1, run', ftbl)
