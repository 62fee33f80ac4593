use Rattle.std.proofs.Common.{ℕ, ◌==◌, false, Option, cond, refl, sym, ap, ◌∙◌, subst}
use Rattle.std.specs.Prelude.{IsSome, nat_eq}
use Rattle.std.specs.HashMap.{get}
use Rattle.std.proofs.lemmas.Option.{IfSome_then}
use Rattle.record_book.specs.declared.free_addresses.FreeAddresses.{FreeAddresses}
use Rattle.record_book.specs.HeapState.{is_among}
use Rattle.record_book.proofs.FreeLemmas.{class-changed, class-same, none-then}
use Rattle.record_book.proofs.free_places.FreePlaces.take_first.Goals as goal

pub returns-in-Some-clause-taken : goal.returns-in-Some-clause-taken
returns-in-Some-clause-taken c =
    let map = c.args.self.now.classes in
    let after = c.take_first.new.self in
    let value = c.in-Some.ensures.value in
    let puts = ((c.get_mut.follows.holds after).3 (subst IsSome value refl)).0 in
    IfSome_then c.take_first.result c.take_first.ensures.taken (λ address took. record {
      held = ap (λ (found : Option FreeAddresses). is_among found address) (sym value) ∙ took.held;
      first =
          λ other there. took.first other (ap (λ (found : Option FreeAddresses). is_among found other) value ∙ there);
      left =
          class-changed (λ (q : ℕ). get nat_eq map q) (λ (q : ℕ). get nat_eq (c.get_mut.follows.lender after) q)
          c.args.class address false after puts
          (λ a. took.left a
          ∙ ap (λ (found : Option FreeAddresses). cond (address == a) false (is_among found a)) value);
    })

pub returns-in-Some-clause-none : goal.returns-in-Some-clause-none
returns-in-Some-clause-none c =
    none-then c.take_first.result _ _
    (λ none a. ap (λ (found : Option FreeAddresses). is_among found a) (sym c.in-Some.ensures.value) ∙ none a)
    c.take_first.ensures.none

pub returns-in-Some-clause-unchanged : goal.returns-in-Some-clause-unchanged
returns-in-Some-clause-unchanged c =
    let map = c.args.self.now.classes in
    let after = c.take_first.new.self in
    let value = c.in-Some.ensures.value in
    let puts = ((c.get_mut.follows.holds after).3 (subst IsSome value refl)).0 in
    none-then c.take_first.result _ _
    (λ same. class-same (λ (q : ℕ). get nat_eq map q) (λ (q : ℕ). get nat_eq (c.get_mut.follows.lender after) q)
    c.args.class after puts
    (λ a. same a ∙ ap (λ (found : Option FreeAddresses). is_among found a) value)) c.take_first.ensures.unchanged

pub returns-in-None-clause-none : goal.returns-in-None-clause-none
returns-in-None-clause-none c =
    λ a. ap (λ (found : Option FreeAddresses). is_among found a) (sym c.in-None.ensures.value)
