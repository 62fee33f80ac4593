use Rattle.std.proofs.Common.{◌++◌, ◌∙◌, ap, append_assoc}
use Rattle.std.proofs.lemmas.Result.{on_ok_weaker}
use Rattle.hp_num.proofs.Laws.{extends_more, extends_trans}
use Rattle.ht_lines.specs.Written.{spelled_text}
use Rattle.ht_lines.proofs.write.put_kind_text.Goals as goal

pub returns-clause-appended : goal.returns-clause-appended
returns-clause-appended c =
    on_ok_weaker c.put_text.result
    (λ last. last ∙ ap (λ l. l ++ spelled_text c.args.version c.args.text.now) c.in_ok-put_bytes.ensures.appended
    ∙ append_assoc c.args.out.now.items c.args.kind.now (spelled_text c.args.version c.args.text.now))
    c.put_text.ensures.appended

pub returns-clause-kept : goal.returns-clause-kept
returns-clause-kept c =
    extends_trans _ _ _ (extends_more _ _ _ c.in_ok-put_bytes.ensures.appended) c.put_text.ensures.kept
