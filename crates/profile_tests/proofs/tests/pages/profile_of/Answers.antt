use Rattle.std.proofs.Common.{[], ◌∷◌, ◌++◌}
use Rattle.std.proofs.lemmas.List.Elements.{All-nil, All-push}
use Rattle.massif_file.specs.IsWritable.{IsLine}
use Rattle.profile_tests.proofs.tests.pages.profile_of.Goals as goal

pub lines-init : goal.lines-init
lines-init c = ([], c.new-reader.ensures.stands, All-nil IsLine)

pub lines-preserved : goal.lines-preserved
lines-preserved c =
    let read = c.lines.invariant in (
      _,
      c.in_ok-line.ensures.lines.stands read.0 read.1,
      All-push IsLine _ _ read.2 (c.is_line.ensures c.if-not-is_line.false),
    )

pub returns : goal.returns
returns c = c.finish.ensures.writable c.lines.invariant.0 c.lines.invariant.1 c.lines.invariant.2
