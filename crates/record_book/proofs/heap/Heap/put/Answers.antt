use Rattle.std.proofs.Common.{◌≡◌, false, Option, Some, cond, refl, sym, ap, ◌∙◌, subst}
use Rattle.std.specs.Prelude.{IfSome}
use Rattle.record_book.specs.declared.heap.Heap.{Heap}
use Rattle.record_book.specs.declared.live_blocks.LiveEntry.{LiveEntry}
use Rattle.record_book.specs.HeapState.{entry_at, has_place}
use Rattle.record_book.proofs.BlockLemmas.{block-put, left-not-free, on-err, same-heap}
use Rattle.record_book.proofs.HeapLemmas.{same}
use Rattle.record_book.proofs.heap.Heap.put.Goals as goal

pub free_place-requires : goal.free_place-requires
free_place-requires c =
    let heap = c.args.self.now in
    subst (λ (found : Option LiveEntry). IfSome found (λ entry. has_place heap.free entry.class entry.address ≡ false))
    (sym c.requires.left)
    (left-not-free heap c.requires.space.places c.args.thread c.args.id c.requires.space.heap_is)

pub returns-in_err-reserve-clause-same : goal.returns-in_err-reserve-clause-same
returns-in_err-reserve-clause-same c =
    let heap = c.args.self.now in
    let new : Heap = record heap { live = c.reserve.new.self } in
    on-err c.from_residual.result _ (same-heap heap new c.in_err-reserve.ensures.same (λ k a. refl) refl)

pub returns-in_err-free_place-clause-same : goal.returns-in_err-free_place-clause-same
returns-in_err-free_place-clause-same c =
    let heap = c.args.self.now in
    on-err c.from_residual-in_err-free_place.result _ (same-heap heap c.free_place.new.self
    (λ t i. ap (λ live. entry_at (record heap { live = live }) t i) c.in_err-free_place.ensures.live
    ∙ c.in_ok-reserve.ensures.same t i)
    c.in_err-free_place.ensures.unchanged c.in_err-free_place.ensures.end)

pub returns-clause-put : goal.returns-clause-put
returns-clause-put c =
    let heap = c.args.self.now in
    let after = c.take_address-address.new.self in
    let new : Heap = record after { live = c.insert.new.self } in
    let entry : LiveEntry = record { address = c.take_address-address.result; class = c.class_of-class.result } in
    record {
      address_is =
          λ places
          of. (block-put heap c.free_place.new.self after new places c.args.thread c.args.id c.args.size
          c.class_of-class.result c.take_address-address.result of
          (rw (← c.requires.left) c.in_ok-free_place.ensures.freed)
          (rw (← c.requires.left) c.in_ok-free_place.ensures.none) c.in_ok-free_place.ensures.end
          c.class_of-class.ensures.class c.take_address-address.ensures.taken
          (λ t i. c.in_ok-insert.ensures.put t i
          ∙ ap
          (λ live. cond (same c.args.thread c.args.id t i) (Some entry) (entry_at (record heap { live = live }) t i))
          (c.take_address-address.ensures.live ∙ c.in_ok-free_place.ensures.live)
          ∙ ap (λ (found : Option LiveEntry). cond (same c.args.thread c.args.id t i) (Some entry) found)
          (c.in_ok-reserve.ensures.same t i))).0;
      places_are =
          λ places
          of. (block-put heap c.free_place.new.self after new places c.args.thread c.args.id c.args.size
          c.class_of-class.result c.take_address-address.result of
          (rw (← c.requires.left) c.in_ok-free_place.ensures.freed)
          (rw (← c.requires.left) c.in_ok-free_place.ensures.none) c.in_ok-free_place.ensures.end
          c.class_of-class.ensures.class c.take_address-address.ensures.taken
          (λ t i. c.in_ok-insert.ensures.put t i
          ∙ ap
          (λ live. cond (same c.args.thread c.args.id t i) (Some entry) (entry_at (record heap { live = live }) t i))
          (c.take_address-address.ensures.live ∙ c.in_ok-free_place.ensures.live)
          ∙ ap (λ (found : Option LiveEntry). cond (same c.args.thread c.args.id t i) (Some entry) found)
          (c.in_ok-reserve.ensures.same t i))).1;
    }
