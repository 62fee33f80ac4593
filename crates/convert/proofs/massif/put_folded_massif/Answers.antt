use Rattle.std.proofs.Common.{◌≡◌, ◌++◌, List, [], Option, sym, ap, ◌∙◌, subst}
use Rattle.std.specs.Option.{option_map_or}
use Rattle.cost_tree.specs.Costed.{Costed}
use Rattle.massif_file.specs.declared.profile.Snap.{Snap}
use Rattle.convert.specs.AreFolded.{AreFolded}
use Rattle.convert.specs.Folded.{folded_sums, folded_text, lines_text}
use Rattle.convert.specs.TreeItems.{tree_items}
use Rattle.convert.proofs.Faults.{no-snap, of-snap}
use Rattle.convert.proofs.FoldedLaws.{are-folded}
use Rattle.convert.proofs.massif.put_folded_massif.Goals as goal

pub returns-in_default-clause-fault : goal.returns-in_default-clause-fault
returns-in_default-clause-fault c =
    λ other. no-snap c.args.snapshot c.args.profile.now (sym c.in_default.ensures.chosen)

pub returns-in-Ok-clause-sums : goal.returns-in-Ok-clause-sums
unfolding folded_text
returns-in-Ok-clause-sums c =
    let items : List Costed = tree_items c.in-Some.snap.now.tree in
    let P : List Costed → Type 0 =
    λ is. (lines : List Costed) × AreFolded is lines
    × (c.put_tree.new.out.items ≡ c.args.out.now.items ++ lines_text lines) in
    subst P (ap (λ (found : Option Snap). option_map_or (λ snap. tree_items snap.tree) found [])
    c.in-Some.ensures.chosen) (
      folded_sums items,
      are-folded items,
      c.in-Ok.ensures.appended,
    )

pub returns-in-Ok-clause-no_fault : goal.returns-in-Ok-clause-no_fault
returns-in-Ok-clause-no_fault c =
    of-snap c.args.snapshot c.args.profile.now c.in-Some.snap.now (sym c.in-Some.ensures.chosen)
    ∙ c.in-Ok.ensures.no_fault

pub returns-in-Err-clause-fault : goal.returns-in-Err-clause-fault
returns-in-Err-clause-fault c =
    λ other. of-snap c.args.snapshot c.args.profile.now c.in-Some.snap.now (sym c.in-Some.ensures.chosen)
    ∙ c.in-Err.ensures.fault other
