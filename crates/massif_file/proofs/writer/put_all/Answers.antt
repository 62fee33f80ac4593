-- Three lines, and those of the snapshots.
use Rattle.std.proofs.Common.{◌≡◌, arith, ap, ◌∙◌, ℕ, List, [], ◌∷◌, ◌++◌}
use Rattle.std.specs.Prelude.{codes}
use Rattle.std.proofs.lemmas.Result.{on_ok_weaker}
use Rattle.massif_file.specs.Fields.{unit_name}
use Rattle.massif_file.specs.MassifText.{snaps_lines, text_of}
use Rattle.massif_file.proofs.WrittenLemmas.{kept_on, text_4}
use Rattle.massif_file.proofs.writer.put_all.Goals as goal

-- the text of a line whose text is another's
same_line : (o p key said text : List ℕ) → p ≡ o ++ text_of ((key ++ said) ∷ []) → said ≡ text
    → p ≡ o ++ text_of ((key ++ text) ∷ [])
same_line o p key said text is same = is ∙ ap (λ (t : List ℕ). o ++ text_of ((key ++ t) ∷ [])) same

pub returns-clause-appended : goal.returns-clause-appended
returns-clause-appended c =
    let profile = c.args.profile.now in
    let desc =
    same_line _ _ (codes "desc: ") c.bytes.result.now profile.desc c.in_ok-put_line.ensures.appended
    c.bytes.ensures.content in
    let cmd =
    same_line _ _ (codes "cmd: ") c.bytes-2.result.now profile.cmd c.in_ok-put_line-2.ensures.appended
    c.bytes-2.ensures.content in
    let unit =
    same_line _ _ (codes "time_unit: ") c.unit_name.result.now (unit_name profile.unit)
    c.in_ok-put_line-3.ensures.appended c.unit_name.ensures in
    on_ok_weaker c.put_snaps.result
    (λ h. text_4 c.args.out.now.items c.put_line.new.out.items c.put_line-2.new.out.items c.put_line-3.new.out.items
    c.put_snaps.new.out.items ((codes "desc: " ++ profile.desc) ∷ []) ((codes "cmd: " ++ profile.cmd) ∷ [])
    ((codes "time_unit: " ++ unit_name profile.unit) ∷ []) (snaps_lines 0 profile.snaps) desc cmd unit h)
    c.put_snaps.ensures.appended

pub returns-in_err-put_line-2-clause-kept : goal.returns-in_err-put_line-2-clause-kept
returns-in_err-put_line-2-clause-kept c =
    kept_on _ _ _ _ _ (omega arith) (omega arith) c.put_line.ensures.kept c.put_line-2.ensures.kept

pub returns-in_err-put_line-3-clause-kept : goal.returns-in_err-put_line-3-clause-kept
returns-in_err-put_line-3-clause-kept c =
    kept_on _ _ _ _ _ (omega arith) (omega arith)
    (kept_on _ _ _ _ _ (omega arith) (omega arith) c.put_line.ensures.kept c.put_line-2.ensures.kept)
    c.put_line-3.ensures.kept

pub returns-clause-kept : goal.returns-clause-kept
returns-clause-kept c =
    kept_on _ _ _ _ _ (omega arith) (omega arith)
    (kept_on _ _ _ _ _ (omega arith) (omega arith)
    (kept_on _ _ _ _ _ (omega arith) (omega arith) c.put_line.ensures.kept c.put_line-2.ensures.kept)
    c.put_line-3.ensures.kept)
    c.put_snaps.ensures.kept
