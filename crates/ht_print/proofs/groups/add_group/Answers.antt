use Rattle.std.proofs.Common.{◌≡◌, ℕ, ◌++◌, ◌∷◌, [], List, get_or, Some, sym, ap, ◌∙◌, arith}
use Rattle.std.specs.Prelude.{slice_get, sum_by}
use Rattle.std.proofs.lemmas.List.{get_or_default}
use Rattle.std.proofs.lemmas.Option.{slice_get-get_or}
use Rattle.ht_print.specs.declared.entry.Entry.{Entry}
use Rattle.ht_print.specs.PlacedStacks.{groups_up_to, stacks_numbered}
use Rattle.ht_print.specs.Places.{number_at}
use Rattle.ht_print.specs.ReportGroups.{joined, place_of, stacks_at}
use Rattle.ht_print.proofs.GroupLemmas.{at-number, came-again, came-first, groups-again, groups-new, numbered-sum}
use Rattle.ht_print.proofs.LinkLemmas.{link-read}
use Rattle.ht_print.proofs.groups.add_group.Goals as goal

-- the entry of no stack
abbrev no-entry : Entry
no-entry = record { figure = 0; stack = 0 }

pub returns-then-index-gt0 : goal.returns-then-index-gt0
returns-then-index-gt0 c = λ tables tell held were.
    let placed = c.args.placed.now in
    let stacks : List Entry = placed.stacks.now in
    let k : ℕ = c.args.k in
    let entry : Entry = get_or stacks k no-entry in
    let at : slice_get stacks k ≡ Some entry = slice_get-get_or stacks k no-entry c.requires.within in
    let link =
    link-read c.args.places.now stacks placed.last.items placed.before.items k c.index.result.now no-entry
    c.requires.placed.linked c.requires.within c.index.ensures in
    were
    ∙ sym (groups-again tables stacks k entry at
    (came-again tables c.args.places.now stacks k c.index.result.now entry tell held at link (omega arith)))

pub joined-requires : goal.joined-requires
joined-requires c =
    let members =
    ap (λ (es : List Entry). sum_by (λ (e : Entry). e.figure) es)
    (c.deref.ensures.value ∙ c.in_ok-members_into.ensures) in
    let part = numbered-sum c.args.places.now c.index-number.result.now c.args.placed.now.stacks.now in
    let all = c.requires.bound in
    omega (arith, members, part, all)

pub returns : goal.returns
returns c = λ tables tell held were.
    let placed = c.args.placed.now in
    let places = c.args.places.now in
    let stacks : List Entry = placed.stacks.now in
    let k : ℕ = c.args.k in
    let entry : Entry = get_or stacks k no-entry in
    let at : slice_get stacks k ≡ Some entry = slice_get-get_or stacks k no-entry c.requires.within in
    let inside = c.requires.placed.held k no-entry c.requires.within in
    let link =
    link-read places stacks placed.last.items placed.before.items k c.index.result.now no-entry
    c.requires.placed.linked c.requires.within c.index.ensures in
    let number : c.index-number.result.now ≡ number_at places entry.stack =
    c.index-number.ensures
    ∙ get_or_default places.numbers.items entry.stack c.index-number.result.now 0 inside.held in
    let members : c.deref.result.now ≡ stacks_at tables stacks (place_of tables entry.stack) =
    c.deref.ensures.value ∙ c.in_ok-members_into.ensures ∙ ap (λ (n : ℕ). stacks_numbered places n stacks) number
    ∙ sym (at-number tables places entry.stack stacks tell (held k no-entry c.requires.within) held) in
    c.in_ok-push.ensures.items
    ∙ ap (λ (groups : List Entry). groups ++ c.joined.result ∷ []) were
    ∙ ap (λ (group : Entry). groups_up_to tables stacks k ++ group ∷ []) (c.joined.ensures ∙ ap joined members)
    ∙ sym (groups-new tables stacks k entry at
    (came-first tables places stacks k c.index.result.now entry tell held at link (omega arith)))
