use Rattle.std.specs.HashMap.{get}
use Rattle.record_book.specs.LiveBlocks.{same_key}
use Rattle.record_book.proofs.TableLemmas.{high-same}
use Rattle.record_book.proofs.live_blocks.LiveBlocks.reserve.Goals as goal

pub returns-clause-same : goal.returns-clause-same
returns-clause-same c =
    high-same c.args.self.now.low.items (λ t i. get same_key c.args.self.now.high (t, i))
    (λ t i. get same_key c.reserve.new.self (t, i)) (λ t i. c.in_ok-reserve.ensures.entries.2 (t, i))
