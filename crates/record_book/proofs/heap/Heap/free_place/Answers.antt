use Rattle.std.proofs.Common.{◌≡◌, false, Option, subst}
use Rattle.std.specs.Prelude.{IfSome}
use Rattle.record_book.specs.declared.live_blocks.LiveEntry.{LiveEntry}
use Rattle.record_book.specs.HeapState.{has_place}
use Rattle.record_book.proofs.heap.Heap.free_place.Goals as goal

pub insert-requires : goal.insert-requires
insert-requires c =
    subst (λ (left : Option LiveEntry). IfSome left
    (λ entry. has_place c.args.self.now.free entry.class entry.address ≡ false)) c.in-Some.is c.requires
