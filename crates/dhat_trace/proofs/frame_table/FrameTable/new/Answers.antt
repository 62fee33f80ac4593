use Rattle.std.proofs.Common.{◌+◌, length, arith}
use Rattle.dhat_trace.specs.KnownPlaces.{instruction_texts}
use Rattle.dhat_trace.proofs.KnownLemmas.{none_known}
use Rattle.dhat_trace.proofs.frame_table.FrameTable.new.Goals as goal

pub returns-clause-known : goal.returns-clause-known
returns-clause-known c =
    none_known (instruction_texts c.args.tables.now) (length c.args.tables.now.instructions + 1) c.intern.new.self
    c.in_ok-known.known (omega (arith, c.in_ok-known.ensures.count, c.instructions.ensures.count))
    c.in_ok-known.ensures.empty
