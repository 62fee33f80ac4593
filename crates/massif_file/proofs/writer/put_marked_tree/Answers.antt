-- The key, the mark, and what the tree writes.
use Rattle.std.proofs.Common.{◌≡◌, ◌∙◌, ap, ℕ, List, [], ◌∷◌, ◌++◌, arith}
use Rattle.std.specs.Prelude.{codes}
use Rattle.std.proofs.lemmas.Result.{on_ok_weaker}
use Rattle.massif_file.specs.Fields.{mark_name}
use Rattle.massif_file.specs.MassifText.{text_of, tree_lines}
use Rattle.massif_file.proofs.WrittenLemmas.{chain_2, kept_more, kept_on}
use Rattle.massif_file.proofs.writer.put_marked_tree.Goals as goal

behind_mark : (o p q r key said mark text : List ℕ) → p ≡ o ++ key → q ≡ p ++ said → said ≡ mark → r ≡ q ++ text
    → r ≡ o ++ ((key ++ mark) ++ text)
behind_mark o p q r key said mark text first second same last =
    chain_2 o q r (key ++ said) text (chain_2 o p q key said first second) last
    ∙ ap (λ (m : List ℕ). o ++ ((key ++ m) ++ text)) same

pub returns-clause-appended : goal.returns-clause-appended
returns-clause-appended c =
    on_ok_weaker c.put_tree.result
    (behind_mark _ _ _ _ (codes "heap_tree=") c.mark_name.result.now (mark_name c.args.snap.now.mark)
    (10 ∷ text_of (tree_lines (1 ∷ []) c.args.snap.now.tree))
    c.in_ok-put_bytes.ensures.appended c.in_ok-put_bytes-2.ensures.appended c.mark_name.ensures)
    c.put_tree.ensures.appended

pub returns-clause-kept : goal.returns-clause-kept
returns-clause-kept c =
    kept_on _ _ _ _ _ (omega arith) (omega arith)
    (kept_more _ _ _ _ (omega arith)
    (chain_2 _ _ _ (codes "heap_tree=") c.mark_name.result.now c.in_ok-put_bytes.ensures.appended
    c.in_ok-put_bytes-2.ensures.appended))
    c.put_tree.ensures.kept
