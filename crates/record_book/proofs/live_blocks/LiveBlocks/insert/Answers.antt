use Rattle.std.proofs.Common.{Some}
use Rattle.std.specs.HashMap.{get}
use Rattle.record_book.specs.LiveBlocks.{same_key}
use Rattle.record_book.proofs.TableLemmas.{high-set}
use Rattle.record_book.proofs.live_blocks.LiveBlocks.insert.Goals as goal

pub returns-in_ok-insert-in-None-clause-put : goal.returns-in_ok-insert-in-None-clause-put
returns-in_ok-insert-in-None-clause-put c =
    high-set c.args.self.now.low.items (λ t i. get same_key c.args.self.now.high (t, i))
    (λ t i. get same_key c.insert.new.self (t, i)) c.args.thread c.args.id (Some c.args.entry)
    c.in-None.ensures.high (λ t i. c.in_ok-insert-in-None.ensures.updates.0 (t, i))
