use Rattle.std.proofs.Common.{None}
use Rattle.std.specs.HashMap.{get}
use Rattle.record_book.specs.LiveBlocks.{same_key}
use Rattle.record_book.proofs.TableLemmas.{high-set}
use Rattle.record_book.proofs.live_blocks.LiveBlocks.remove.Goals as goal

pub returns-in-None-clause-left : goal.returns-in-None-clause-left
returns-in-None-clause-left c =
    high-set c.args.self.now.low.items (λ t i. get same_key c.args.self.now.high (t, i))
    (λ t i. get same_key c.remove.new.self (t, i)) c.args.thread c.args.id None
    c.in-None.ensures.high (λ t i. c.remove.ensures.updates.0 (t, i))
