use Rattle.std.proofs.Common.{◌≡◌, ◌++◌, ◌≤◌, ℕ, List, get_or, length, sym, ap, ◌∙◌, subst, arith}
use Rattle.std.specs.Prelude.{All, codes}
use Rattle.std.proofs.lemmas.List.{get_or_default}
use Rattle.std.proofs.lemmas.List.Elements.{All-take}
use Rattle.std.proofs.lemmas.Result.{on_ok_weaker}
use Rattle.hp_num.proofs.Laws.{extends_trans}
use Rattle.ht_print.specs.declared.entry.Entry.{Entry}
use Rattle.ht_print.specs.IsEntry.{IsEntry}
use Rattle.ht_print.specs.PlacedStacks.{groups_lines, stacks_numbered}
use Rattle.ht_print.specs.Places.{number_at}
use Rattle.ht_print.specs.ReportGroups.{place_of, stacks_at}
use Rattle.ht_print.specs.ReportLines.{group_at, group_lines}
use Rattle.ht_print.proofs.GroupLemmas.{at-number, numbered-all}
use Rattle.ht_print.proofs.ReportLemmas.{shown-all, shown-more}
use Rattle.ht_print.proofs.section.put_groups.Goals as goal

-- the entry of no stack
abbrev no-entry : Entry
no-entry = record { figure = 0; stack = 0 }

pub put_group-requires-clause-members : goal.put_group-requires-clause-members
put_group-requires-clause-members c =
    subst (λ (members : List Entry). All (IsEntry c.args.layout.now.tables.now c.args.scale.total) members)
    (sym (c.deref.ensures.value ∙ c.in_ok-members_into.ensures))
    (numbered-all (IsEntry c.args.layout.now.tables.now c.args.scale.total) c.args.layout.now.places.now
    c.index-number.result.now c.args.placed.now.stacks.now c.requires.entries)

pub each_group-preserved : goal.each_group-preserved
each_group-preserved c =
    let tables = c.args.layout.now.tables.now in
    let places = c.args.layout.now.places.now in
    let stacks : List Entry = c.args.placed.now.stacks.now in
    let k : ℕ = c.each_group.group-index in
    let shown : List Entry = c.split_shown-left.result.0.now in
    let group : Entry = get_or shown k no-entry in
    let entries : All (IsEntry tables c.args.scale.total) shown =
    subst (λ (es : List Entry). All (IsEntry tables c.args.scale.total) es) (sym c.split_shown-left.ensures.shown)
    (All-take (IsEntry tables c.args.scale.total) c.args.layout.now.options.limit c.args.groups.now
    c.requires.groups) in
    let held : group.stack ≤ length tables.nodes = (entries k no-entry (omega arith)).held in
    let count = c.requires.places.held in
    let number : c.index-number.result.now ≡ number_at places group.stack =
    c.index-number.ensures
    ∙ get_or_default places.numbers.items group.stack c.index-number.result.now 0 (omega arith) in
    let members : c.deref.result.now ≡ stacks_at tables stacks (place_of tables group.stack) =
    c.deref.ensures.value ∙ c.in_ok-members_into.ensures ∙ ap (λ (n : ℕ). stacks_numbered places n stacks) number
    ∙ sym (at-number tables places group.stack stacks c.requires.places held
    (λ j d within. (c.requires.entries j d within).held)) in
    record {
      written =
          shown-more (group_at tables c.args.scale c.args.layout.now.options.sub_limit stacks) c.args.out.now.items
          c.each_group.out.items c.put_group.new.out.items shown k no-entry (omega arith) c.each_group.invariant.written
          (c.in_ok-put_group.ensures.appended
          ∙ ap
          (λ (es : List Entry). c.each_group.out.items
          ++ group_lines tables c.args.scale c.args.layout.now.options.sub_limit (place_of tables group.stack) es
          group.figure)
          members);
      kept =
          extends_trans c.args.out.now.items c.each_group.out.items c.put_group.new.out.items
          c.each_group.invariant.kept
          c.put_group.ensures.kept;
    }

pub returns-clause-appended : goal.returns-clause-appended
unfolding groups_lines
returns-clause-appended c =
    on_ok_weaker c.put_left.result
    (λ added. shown-all
    (group_at c.args.layout.now.tables.now c.args.scale c.args.layout.now.options.sub_limit
    c.args.placed.now.stacks.now)
    c.args.out.now.items c.each_group.out.items c.put_left.new.out.items (codes "more places: ") c.args.groups.now _
    c.each_group.group-index c.args.layout.now.options.limit _
    c.each_group.invariant.written (omega arith) c.split_shown-left.ensures.shown c.split_shown-left.ensures.left added)
    c.put_left.ensures.appended

pub returns-in_err-members_into-clause-kept : goal.returns-in_err-members_into-clause-kept
returns-in_err-members_into-clause-kept c = c.each_group.invariant.kept
