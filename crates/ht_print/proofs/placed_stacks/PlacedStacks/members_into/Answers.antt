use Rattle.std.proofs.Common.{◌≡◌, ◌-◌, ◌<◌, ◌+◌, ℕ, List, get_or, length, sym, ◌∙◌, subst, arith}
use Rattle.std.specs.Prelude.{slice_index}
use Rattle.std.proofs.lemmas.List.{get_or_default}
use Rattle.std.proofs.lemmas.Option.{slice_get-get_or}
use Rattle.ht_print.specs.declared.entry.Entry.{Entry}
use Rattle.ht_print.specs.PlacedStacks.{IsLast}
use Rattle.ht_print.proofs.LinkLemmas.{Follows, follows-all, follows-more, follows-none, link-read}
use Rattle.ht_print.proofs.placed_stacks.PlacedStacks.members_into.Goals as goal

-- the entry of no stack
abbrev no-entry : Entry
no-entry = record { figure = 0; stack = 0 }

pub backwards-init : goal.backwards-init
backwards-init c =
    let places = c.args.places.now in
    let stacks : List Entry = c.args.self.now.stacks.now in
    let linked = c.requires.placed.linked in
    let count = linked.last_length in
    let at : c.index-at.result.now ≡ slice_index c.args.self.now.last.items c.args.number =
    c.index-at.ensures
    ∙ get_or_default c.args.self.now.last.items c.args.number c.index-at.result.now 0 (omega arith) in
    subst (λ (read : List Entry). Follows places stacks c.args.number c.index-at.result.now read)
    (sym c.clear.ensures.items)
    (follows-none places stacks c.args.number c.index-at.result.now
    (subst (λ (n : ℕ). IsLast places stacks c.args.number (length stacks) n) (sym at)
    (linked.ends c.args.number c.requires.within)))

pub backwards-smaller : goal.backwards-smaller
backwards-smaller c =
    let left = c.backwards.invariant.within in
    let linked = c.requires.placed.linked in
    let link =
    link-read c.args.places.now c.args.self.now.stacks.now c.args.self.now.last.items c.args.self.now.before.items
    (c.backwards.at - 1) c.index-at-in-backwards.result.now no-entry linked (omega arith)
    c.index-at-in-backwards.ensures in
    let below = link.within in
    omega arith

pub backwards-preserved : goal.backwards-preserved
backwards-preserved c =
    let places = c.args.places.now in
    let stacks : List Entry = c.args.self.now.stacks.now in
    let k : ℕ = c.backwards.at - 1 in
    let left = c.backwards.invariant.within in
    let inside : k < length stacks = omega arith in
    let some : c.backwards.at ≡ k + 1 = omega arith in
    subst (λ (read : List Entry). Follows places stacks c.args.number c.index-at-in-backwards.result.now read)
    (sym c.in_ok-push.ensures.items)
    (follows-more places stacks c.args.number k c.index-at-in-backwards.result.now c.backwards.members.items
    (get_or stacks k no-entry) (slice_get-get_or stacks k no-entry inside)
    (subst (λ (n : ℕ). Follows places stacks c.args.number n c.backwards.members.items) some c.backwards.invariant)
    (link-read places stacks c.args.self.now.last.items c.args.self.now.before.items k
    c.index-at-in-backwards.result.now no-entry c.requires.placed.linked inside c.index-at-in-backwards.ensures))

pub returns : goal.returns
returns c =
    c.reverse.ensures.items
    ∙ follows-all c.args.places.now c.args.self.now.stacks.now c.args.number c.backwards.at c.backwards.members.items
    (omega arith) c.backwards.invariant
