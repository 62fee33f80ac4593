use Rattle.std.proofs.Common.{◌++◌, ℕ, List, ap, ◌∙◌}
use Rattle.std.specs.Prelude.{codes}
use Rattle.std.proofs.lemmas.Result.{on_ok_weaker}
use Rattle.hp_num.proofs.Laws.{extends_trans}
use Rattle.ms_print.specs.PageText.{asked_text, named_line}
use Rattle.ms_print.proofs.Appends.{three-appended}
use Rattle.ms_print.proofs.page.put_asked.Goals as goal

pub returns-clause-appended : goal.returns-clause-appended
unfolding asked_text
returns-clause-appended c =
    let profile = c.args.profile.now in
    on_ok_weaker c.put_text-3.result
    (λ added. three-appended c.args.out.now.items c.put_text.new.out.items c.put_text-2.new.out.items
    c.put_text-3.new.out.items
    (named_line (codes "Command:            ") profile.cmd) (named_line (codes "Massif arguments:   ") profile.desc)
    (named_line (codes "ms_print arguments: ") c.args.words.now)
    (c.in_ok-put_text.ensures.appended
    ∙ ap (λ (text : List ℕ). c.args.out.now.items ++ named_line (codes "Command:            ") text)
    c.bytes.ensures.content)
    (c.in_ok-put_text-2.ensures.appended
    ∙ ap (λ (text : List ℕ). c.put_text.new.out.items ++ named_line (codes "Massif arguments:   ") text)
    c.bytes-2.ensures.content)
    added)
    c.put_text-3.ensures.appended

pub returns-in_err-put_text-2-clause-kept : goal.returns-in_err-put_text-2-clause-kept
returns-in_err-put_text-2-clause-kept c =
    extends_trans _ _ _ c.put_text.ensures.kept c.put_text-2.ensures.kept

pub returns-clause-kept : goal.returns-clause-kept
returns-clause-kept c =
    extends_trans _ _ _ (extends_trans _ _ _ c.put_text.ensures.kept c.put_text-2.ensures.kept)
    c.put_text-3.ensures.kept
