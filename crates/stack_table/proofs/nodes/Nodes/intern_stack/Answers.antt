use Rattle.std.proofs.Common.{◌≡◌, ℕ, ◌∷◌, ◌++◌, List, [], None, Some, Option, refl, sym, ap, ◌∙◌, arith, subst}
use Rattle.std.proofs.Common.{append_assoc}
use Rattle.std.specs.Option.{IfSome}
use Rattle.stack_table.specs.Continues.{Continues}
use Rattle.stack_table.specs.Interned.{node_interned, node_interned_fault, stack_fault, stack_interned}
use Rattle.stack_table.specs.Node.{Node}
use Rattle.stack_table.specs.NodeNumber.{node_number}
use Rattle.stack_table.specs.Stack.{stack}
use Rattle.stack_table.proofs.Continuing.{Continues-refl, take-continued}
use Rattle.stack_table.proofs.Interning.{IsInterned, called, fault-more, interned-all, interned-more, not_held}
use Rattle.stack_table.proofs.nodes.Nodes.intern_stack.Goals as goal

-- a list that is parted before its last element, and then more
parted : (whole inner left outer : List ℕ) (ip : ℕ) → whole ≡ left ++ outer → left ≡ inner ++ ip ∷ []
    → whole ≡ inner ++ ip ∷ outer
parted whole inner left outer ip is last =
    is ∙ ap (λ (xs : List ℕ). xs ++ outer) last ∙ append_assoc inner (ip ∷ []) outer

pub loop-ip-preserved : goal.loop-ip-preserved
loop-ip-preserved c =
    let before = c.loop-ip.invariant in
    let ip = c.in-Some.ip.now in
    let old = c.loop-ip.self in
    let new = c.intern.new.self in (
      ip ∷ before.0,
      parted c.args.ips.now c.next.new.self.iter.rest.now c.loop-ip.ip-iterator.iter.rest.now before.0 ip before.1
          c.in-Some.ensures.steps,
      interned-more c.args.self.now before.0 old new ip c.loop-ip.number c.in-Ok.called before.2
          (subst
          (λ (parent : ℕ). node_interned old (called ip parent) ≡ record { nodes = new; number = c.in-Ok.called })
          c.from.ensures c.in-Ok.ensures.interned)
          (subst (λ (parent : ℕ). node_interned_fault old (called ip parent) ≡ None) c.from.ensures
          c.in-Ok.ensures.no_fault)
          (subst (λ (parent : ℕ). stack new c.in-Ok.called ≡ ip ∷ stack new parent) c.from.ensures
          c.in-Ok.ensures.stack)
          c.in-Ok.ensures.within.1 c.in-Ok.ensures.continues c.in-Ok.ensures.one_more c.in-Ok.ensures.nodes,
      before.3,
    )

-- the stack whose next node is refused
whole : (c : goal.After-cut)
    → c.args.ips.now ≡ c.next.new.self.iter.rest.now ++ c.in-Some.ip.now ∷ c.loop-ip.invariant.0
whole c =
    let before = c.loop-ip.invariant in
    parted c.args.ips.now c.next.new.self.iter.rest.now c.loop-ip.ip-iterator.iter.rest.now before.0 c.in-Some.ip.now
    before.1 c.in-Some.ensures.steps

pub returns-in-Err-clause-fault : goal.returns-in-Err-clause-fault
returns-in-Err-clause-fault c = λ other.
    let before = c.loop-ip.invariant in
    let ip = c.in-Some.ip.now in
    ap (λ (ips : List ℕ). stack_fault c.args.self.now ips) (whole c)
    ∙ fault-more c.args.self.now c.next.new.self.iter.rest.now before.0 c.loop-ip.self ip c.loop-ip.number
    c.in-Err.fault before.2
    (subst (λ (parent : ℕ). node_interned_fault c.loop-ip.self (called ip parent) ≡ Some c.in-Err.fault) c.from.ensures
    (c.in-Err.ensures.fault other))

-- a node that is held isn't refused
refused : (found : Option ℕ) (answer : ℕ → Type 0) → ((number : ℕ) → answer number → ⊥)
    → IfSome found (λ number. answer number) → found ≡ None
refused None answer never said = refl
refused (Some number) answer never said = absurd (never number said)

pub returns-in-Err-clause-held : goal.returns-in-Err-clause-held
returns-in-Err-clause-held c = λ same.
    let before = c.loop-ip.invariant in
    let ip = c.in-Some.ip.now in
    let none =
    refused (node_number c.loop-ip.self ip c.from.result) _ (λ number said. let err = said.0 in grind (arith, err))
    c.in-Err.ensures.held in
    absurd (
    not_held c.args.self.now c.next.new.self.iter.rest.now before.0 c.loop-ip.self ip c.loop-ip.number before.2
    (subst (λ (parent : ℕ). node_number c.loop-ip.self ip parent ≡ None) c.from.ensures none)
    (subst (λ (ips : List ℕ). (stack_interned c.args.self.now ips).nodes ≡ c.args.self.now) (whole c) same)
    )

-- what the nodes were is left where one can't be had
left : (c : goal.After-cut) → c.cut.new.self ≡ c.args.self.now
left c =
    let before = c.loop-ip.invariant in
    let P : List Node → Type 0 = λ new. Continues c.args.self.now new in
    c.cut.ensures.nodes_left
    ∙ take-continued c.args.self.now c.intern.new.self c.len-len.result
    (subst P (sym c.in-Err.ensures.unchanged) before.2.continues) before.3

pub returns-in-Err-clause-unchanged : goal.returns-in-Err-clause-unchanged
returns-in-Err-clause-unchanged c = left c

pub returns-in-Err-clause-continues : goal.returns-in-Err-clause-continues
returns-in-Err-clause-continues c =
    subst (λ new. Continues c.args.self.now new) (sym (left c)) (Continues-refl c.args.self.now)

-- all of the stack is interned where none of it is left
all : (c : goal.In-None) → IsInterned c.args.self.now c.args.ips.now c.loop-ip.self c.loop-ip.number
all c =
    let before = c.loop-ip.invariant in
    interned-all c.args.self.now c.args.ips.now c.loop-ip.ip-iterator.iter.rest.now before.0 c.loop-ip.self
    c.loop-ip.number before.1 c.in-None.ensures.steps.0 before.2

pub returns-clause-interned : goal.returns-clause-interned
returns-clause-interned c = let found = all c in found.interned

pub returns-clause-stack : goal.returns-clause-stack
returns-clause-stack c = let found = all c in found.stack_is

pub returns-clause-no_fault : goal.returns-clause-no_fault
returns-clause-no_fault c = let found = all c in found.no_fault

pub returns-clause-few_more : goal.returns-clause-few_more
returns-clause-few_more c = let found = all c in found.few_more
