use Rattle.std.proofs.Common.{[], ◌∷◌, ◌++◌, ◌∙◌, ap, append_assoc}
use Rattle.std.proofs.lemmas.Result.{on_ok_weaker}
use Rattle.hp_num.proofs.Laws.{extends_more, extends_trans}
use Rattle.ht_lines.proofs.write.put_whole_line.Goals as goal

pub returns-clause-appended : goal.returns-clause-appended
returns-clause-appended c =
    on_ok_weaker c.put_feed.result
    (λ last. last ∙ ap (λ l. l ++ (10 ∷ [])) c.in_ok-put_bytes.ensures.appended
    ∙ append_assoc c.args.out.now.items c.args.bytes.now (10 ∷ []))
    c.put_feed.ensures.appended

pub returns-clause-kept : goal.returns-clause-kept
returns-clause-kept c =
    extends_trans _ _ _ (extends_more _ _ _ c.in_ok-put_bytes.ensures.appended) c.put_feed.ensures.kept
