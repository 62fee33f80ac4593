use Rattle.std.proofs.Common.{◌≡◌, ℕ, ◌==◌, true, false, Option, cond, refl, sym, ap, ◌∙◌, subst}
use Rattle.std.specs.Prelude.{IsSome, nat_eq}
use Rattle.std.specs.HashMap.{get}
use Rattle.record_book.specs.declared.free_addresses.FreeAddresses.{FreeAddresses}
use Rattle.record_book.specs.HeapState.{is_among}
use Rattle.record_book.proofs.FreeLemmas.{class-changed, class-same, err-then}
use Rattle.record_book.proofs.TraceLemmas.{on-ok}
use Rattle.record_book.proofs.free_places.FreePlaces.insert.Goals as goal

pub insert-requires : goal.insert-requires
insert-requires c =
    subst (λ (found : Option FreeAddresses). is_among found c.args.address ≡ false) (sym c.in-Some.ensures.value)
    c.requires

pub returns-in-Some-clause-put : goal.returns-in-Some-clause-put
returns-in-Some-clause-put c =
    let map = c.args.self.now.classes in
    let after = c.insert.new.self in
    let some : IsSome (get nat_eq map c.args.class) = subst IsSome c.in-Some.ensures.value refl in
    let puts = ((c.get_mut.follows.holds after).3 some).0 in
    on-ok c.insert.result _ _
    (λ put. class-changed (λ (q : ℕ). get nat_eq map q) (λ (q : ℕ). get nat_eq (c.get_mut.follows.lender after) q)
    c.args.class c.args.address true after puts
    (λ a. put a
    ∙ ap (λ (found : Option FreeAddresses). cond (c.args.address == a) true (is_among found a))
    c.in-Some.ensures.value))
    c.insert.ensures.put

pub returns-in-Some-clause-unchanged : goal.returns-in-Some-clause-unchanged
returns-in-Some-clause-unchanged c =
    let map = c.args.self.now.classes in
    let after = c.insert.new.self in
    let some : IsSome (get nat_eq map c.args.class) = subst IsSome c.in-Some.ensures.value refl in
    let puts = ((c.get_mut.follows.holds after).3 some).0 in
    err-then c.insert.result _ _
    (λ same. class-same (λ (q : ℕ). get nat_eq map q) (λ (q : ℕ). get nat_eq (c.get_mut.follows.lender after) q)
    c.args.class after puts
    (λ a. same a ∙ ap (λ (found : Option FreeAddresses). is_among found a) c.in-Some.ensures.value))
    c.insert.ensures.unchanged
