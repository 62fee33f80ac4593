use Rattle.std.proofs.Common.{◌≡◌, ◌≤◌, ℕ, List, ◌++◌, length, ◌∙◌, ap, subst, sym}
use Rattle.std.specs.Prelude.{All}
use Rattle.std.proofs.lemmas.Result.{on_ok_weaker}
use Rattle.ht_print.specs.declared.entry.Entry.{Entry}
use Rattle.ht_print.specs.IsEntry.{IsEntry}
use Rattle.ht_print.specs.PlacedStacks.{groups_lines}
use Rattle.ht_print.specs.ReportGroups.{ordered_groups}
use Rattle.ht_print.proofs.GroupTexts.{groups-entries, merged-are}
use Rattle.ht_print.proofs.section.put_merged.Goals as goal
use Rattle.ht_print.proofs.section.put_merged.Goals.{After-deref}

-- the groups are those of the stacks
groups-are : (c : After-deref) → c.deref.result.now ≡ ordered_groups c.args.layout.now.tables.now c.args.stacks.now
groups-are c =
    let tables = c.args.layout.now.tables.now in
    let same = c.in_ok-placed.ensures.stacks in
    let held : All (λ (e : Entry). e.stack ≤ length tables.nodes) c.args.stacks.now =
    λ k d within. (c.requires.stacks.entries k d within).held in
    c.deref.ensures.value
    ∙ c.in_ok-groups.ensures tables c.requires.places
    (subst (λ (es : List Entry). All (λ (e : Entry). e.stack ≤ length tables.nodes) es) (sym same) held)
    ∙ ap (λ (es : List Entry). ordered_groups tables es) same

pub put_groups-requires-clause-groups : goal.put_groups-requires-clause-groups
put_groups-requires-clause-groups c =
    let tables = c.args.layout.now.tables.now in
    let total : ℕ = c.args.scale.total in
    subst (λ (es : List Entry). All (IsEntry tables total) es)
    (sym (groups-are (goal.at.put_groups-requires-clause-groups c).After-deref))
    (groups-entries tables total c.args.stacks.now c.requires.stacks.entries c.requires.stacks.within)

pub returns-clause-appended : goal.returns-clause-appended
returns-clause-appended c =
    let tables = c.args.layout.now.tables.now in
    let options = c.args.layout.now.options in
    on_ok_weaker c.put_groups.result
    (λ added. added
    ∙ ap (λ (es : List Entry). c.args.out.now.items
    ++ groups_lines tables c.args.scale options.limit options.sub_limit es c.deref.result.now)
    c.in_ok-placed.ensures.stacks
    ∙ ap (λ (bytes : List ℕ). c.args.out.now.items ++ bytes)
    (merged-are tables c.args.scale options.limit options.sub_limit c.args.stacks.now c.deref.result.now
    (groups-are (goal.at.returns-clause-appended c).After-deref)))
    c.put_groups.ensures.appended
