use Rattle.std.proofs.Common.{ℕ, List, length, map, ap, ◌∙◌}
use Rattle.std.proofs.lemmas.List.{length-map}
use Rattle.dhat_json.specs.Shown.{shown}
use Rattle.massif_file.specs.TreeLine.{TreeLine}
use Rattle.dhat_view.proofs.Laws.{numbers-count}
use Rattle.convert.proofs.Walks.{left-count}
use Rattle.convert.proofs.massif.tree_sums.Goals as goal

pub add_lines-requires-clause-counts : goal.add_lines-requires-clause-counts
add_lines-requires-clause-counts c =
    let label : TreeLine → List ℕ = λ line. shown line.label in (
      ap length c.requires.left ∙ left-count c.args.tree.now,
      ap length c.deref.ensures.value
          ∙ numbers-count c.in_ok-texts.texts.names c.in_ok-texts.texts.numbers.items (map label c.args.tree.now)
          c.in_ok-texts.ensures.numbers
          ∙ length-map c.args.tree.now label,
    )
