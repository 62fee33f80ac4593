use Rattle.std.proofs.Common.{◌++◌, ℕ, [], List, sym, ap, ◌∙◌}
use Rattle.std.specs.Prelude.{codes}
use Rattle.std.proofs.lemmas.Result.{on_ok_weaker}
use Rattle.massif_file.specs.TreeLine.{line_of}
use Rattle.hp_num.proofs.Laws.{extends_more, extends_trans}
use Rattle.ms_print.specs.Ends.{children_at}
use Rattle.ms_print.specs.Entries.{entry_text}
use Rattle.ms_print.specs.Shown.{shown}
use Rattle.ms_print.specs.TreeText.{entries_text, tree_text}
use Rattle.ms_print.proofs.Appends.{three-appended}
use Rattle.ms_print.proofs.LeftLemmas.{root-is}
use Rattle.ms_print.proofs.TreesOfLemmas.{tree-some, tree-whole}
use Rattle.ms_print.proofs.tree.put_tree.Goals as goal

pub at-root-requires : goal.at-root-requires
at-root-requires c = tree-some c.args.tree.now c.requires.tree

pub put_entries-requires-clause-whole : goal.put_entries-requires-clause-whole
put_entries-requires-clause-whole c = tree-whole c.args.tree.now c.requires.tree

pub returns-clause-appended : goal.returns-clause-appended
unfolding tree_text
returns-clause-appended c =
    on_ok_weaker c.put_entries.result
    (λ added. three-appended c.args.out.now.items c.put_entry.new.out.items c.put_bytes.new.out.items
    c.put_entries.new.out.items
    (entry_text c.args.scale c.at-root.result.bytes c.at-root.result.label.now) (codes "\n")
    (entries_text c.args.scale [] (shown c.args.scale (children_at c.args.tree.now 0)))
    c.in_ok-put_entry.ensures.appended c.in_ok-put_bytes.ensures.appended added
    ∙ ap (λ (text : List ℕ). c.args.out.now.items ++ text)
    (sym (root-is c.args.scale c.args.tree.now (line_of c.at-root.result) c.at-root.ensures.item)))
    c.put_entries.ensures.appended

pub returns-clause-kept : goal.returns-clause-kept
returns-clause-kept c =
    extends_trans _ _ _
    (extends_trans _ _ _ c.put_entry.ensures.kept (extends_more _ _ _ c.in_ok-put_bytes.ensures.appended))
    c.put_entries.ensures.kept
