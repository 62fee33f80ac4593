use Rattle.std.proofs.Common.{◌≡◌, false, Option, None, Some, cond, refl, sym, ap, ◌∙◌, subst}
use Rattle.std.specs.Prelude.{IfSome}
use Rattle.record_book.specs.declared.heap.Heap.{Heap}
use Rattle.record_book.specs.declared.live_blocks.LiveEntry.{LiveEntry}
use Rattle.record_book.specs.HeapState.{entry_at, has_place}
use Rattle.record_book.proofs.BlockLemmas.{left-not-free, on-err, put-back, same-heap}
use Rattle.record_book.proofs.HeapLemmas.{of-kept, of-released, same}
use Rattle.record_book.proofs.NextLemmas.{address-none, address-some}
use Rattle.record_book.proofs.heap.Heap.release.Goals as goal

pub returns-in_err-reserve-clause-same : goal.returns-in_err-reserve-clause-same
returns-in_err-reserve-clause-same c =
    let heap = c.args.self.now in
    let new : Heap = record heap { live = c.reserve.new.self } in
    on-err c.from_residual.result _ (same-heap heap new c.in_err-reserve.ensures.same (λ k a. refl) refl)

pub returns-in_default-clause-freed : goal.returns-in_default-clause-freed
returns-in_default-clause-freed c =
    let heap = c.args.self.now in
    let new : Heap = record heap { live = c.remove.new.self } in
    let none : entry_at heap c.args.thread c.args.id ≡ None =
    sym (c.in_ok-reserve.ensures.same c.args.thread c.args.id) ∙ sym c.remove.ensures.taken ∙ c.in_default.is in
    record {
      address_is =
          λ places of. sym
          (address-none places c.args.thread c.args.id (sym (of.live_blocks c.args.thread c.args.id) ∙ none));
      places_are =
          λ places of. of-kept (entry_at heap) (entry_at new) (has_place heap.free)
          (has_place heap.free) heap.end places
          c.args.thread c.args.id of none (λ k a. refl)
          (λ t i. c.remove.ensures.left t i
          ∙ ap (λ (found : Option LiveEntry). cond (same c.args.thread c.args.id t i) None found)
          (c.in_ok-reserve.ensures.same t i));
    }

pub insert-requires : goal.insert-requires
insert-requires c =
    let heap = c.args.self.now in
    let at : entry_at heap c.args.thread c.args.id ≡ Some c.in-Some.left =
    sym (c.in_ok-reserve.ensures.same c.args.thread c.args.id) ∙ sym c.remove.ensures.taken ∙ c.in-Some.is in
    subst (λ (found : Option LiveEntry). IfSome found (λ entry. has_place heap.free entry.class entry.address ≡ false))
    at
    (left-not-free heap c.requires.places c.args.thread c.args.id c.requires.heap_is)

pub returns-in-Ok-clause-freed : goal.returns-in-Ok-clause-freed
returns-in-Ok-clause-freed c =
    let heap = c.args.self.now in
    let new : Heap = record heap { live = c.remove.new.self; free = c.insert.new.self } in
    let left = c.in-Some.left in
    let at : entry_at heap c.args.thread c.args.id ≡ Some left =
    sym (c.in_ok-reserve.ensures.same c.args.thread c.args.id) ∙ sym c.remove.ensures.taken ∙ c.in-Some.is in
    record {
      address_is =
          λ places of. sym
          (address-some places c.args.thread c.args.id left (sym (of.live_blocks c.args.thread c.args.id) ∙ at));
      places_are =
          λ places of. of-released (entry_at heap) (entry_at new) (has_place heap.free) (has_place new.free) heap.end
          places c.args.thread c.args.id left of at
          c.in-Ok.ensures.put
          (λ t i. c.remove.ensures.left t i
          ∙ ap (λ (found : Option LiveEntry). cond (same c.args.thread c.args.id t i) None found)
          (c.in_ok-reserve.ensures.same t i));
    }

pub returns-in_ok-insert-in-Err-clause-same : goal.returns-in_ok-insert-in-Err-clause-same
returns-in_ok-insert-in-Err-clause-same c =
    let heap = c.args.self.now in
    let new : Heap = record { live = c.insert-in-Err.new.self; free = c.insert.new.self; end = heap.end } in
    let left = c.in-Some.left in
    let at : entry_at heap c.args.thread c.args.id ≡ Some left =
    sym (c.in_ok-reserve.ensures.same c.args.thread c.args.id) ∙ sym c.remove.ensures.taken ∙ c.in-Some.is in
    same-heap heap new
    (λ t i. c.in_ok-insert-in-Err.ensures.put t i
    ∙ ap (λ (found : Option LiveEntry). cond (same c.args.thread c.args.id t i) (Some left) found)
    (c.remove.ensures.left t i
    ∙ ap (λ (found : Option LiveEntry). cond (same c.args.thread c.args.id t i) None found)
    (c.in_ok-reserve.ensures.same t i))
    ∙ put-back (entry_at heap) c.args.thread c.args.id left at t i)
    c.in-Err.ensures.unchanged refl
