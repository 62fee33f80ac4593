use Rattle.std.proofs.Common.{refl, sym, ◌∙◌, subst}
use Rattle.std.proofs.lemmas.Result.{IfOk-at_ok}
use Rattle.dhat_json.specs.DataOf.{data_of}
use Rattle.dhat_json.specs.DhatFault.{block_unit_findings, time_unit_findings}
use Rattle.dhat_json.specs.Parts.{HasBlockTexts, HasTimeTexts}
use Rattle.dhat_json.proofs.Findings.{passes_on, first_later, first_stays, read_as, refused_as}
use Rattle.dhat_json.proofs.reader.read_units.Goals as goal

pub returns-in_err-block-clause-read : goal.returns-in_err-block-clause-read
returns-in_err-block-clause-read c =
    let v = data_of c.args.value.now in
    passes_on _ _ _ _ _ c.from_residual.ensures.1 c.in_err-block.ensures.read
    (first_stays (block_unit_findings v) (time_unit_findings v) _)

pub returns-in_err-block-2-clause-read : goal.returns-in_err-block-2-clause-read
returns-in_err-block-2-clause-read c =
    let v = data_of c.args.value.now in
    passes_on _ _ _ _ _ c.from_residual-in_err-block-2.ensures.1
    (refused_as _ _ _ _ c.in_err-block-2.ensures.err c.read_time_units.ensures.read)
    (λ found. first_later (block_unit_findings v) (time_unit_findings v) c.in_ok-block.ensures.read.0 ∙ found)

pub returns-clause-read : goal.returns-clause-read
returns-clause-read c =
    let v = data_of c.args.value.now in
    let both = c.in_ok-block-2 in
    let time = read_as c.read_time_units.result both.time _ _ both.ensures.ok.0 c.read_time_units.ensures.read in (
      first_later (block_unit_findings v) (time_unit_findings v) c.in_ok-block.ensures.read.0 ∙ time.0,
      rw (both.ensures.ok.1, c.in_ok-block.ensures.read.1, time.1) refl,
    )

pub returns-clause-utf8 : goal.returns-clause-utf8
returns-clause-utf8 c =
    let both = c.in_ok-block-2 in (
      subst HasBlockTexts (sym both.ensures.ok.1) c.in_ok-block.ensures.utf8,
      IfOk-at_ok HasTimeTexts both.ensures.ok.0 c.read_time_units.ensures.utf8,
    )
