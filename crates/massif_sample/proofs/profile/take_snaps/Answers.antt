use Rattle.std.proofs.Common.{ℕ, ◌+◌, List, ap, length, sym, ◌∙◌}
use Rattle.std.proofs.lemmas.Result.{IfOk-weaker}
use Rattle.massif_tree.specs.FirstLists.{first_lists}
use Rattle.massif_sample.specs.Made.{all_made, told_tree}
use Rattle.massif_sample.proofs.profile.take_snaps.Goals as goal

pub returns : goal.returns
returns c =
    let whole = c.in_ok-cut.ensures.whole in
    IfOk-weaker c.take_all.result _ _
    (λ snaps is tables names are.
    is tables names
    (whole ∙ are
    ∙ ap (λ (ls : List (List (List ℕ))). first_lists tables names (c.args.options.now.depth + 1) (length ls))
    (sym whole))
    ∙ ap (λ (ls : List (List (List ℕ))). all_made
    (told_tree c.args.options.now tables names (length ls) c.args.replay.now.changes) c.args.array.now.kept.entries
    c.args.array.now.loads) whole)
    c.take_all.ensures
