use Rattle.std.proofs.Common.{arith}
use Rattle.massif_tree.proofs.KnownTexts.{none-known, text-known}
use Rattle.massif_tree.proofs.forked_tree.label_number.Goals as goal

pub returns-then-number-root : goal.returns-then-number-root
returns-then-number-root c = record {
  label =
      λ texts labels front hold level is. text-known texts c.args.root labels hold front c.args.number
      (omega (arith, c.if-level-eq0.false)) (omega (arith, c.if-number-root.true)) is;
}

pub returns : goal.returns
returns c = record {
  label =
      λ texts labels front hold level is. none-known texts c.args.root labels hold front c.args.number
      (omega (arith, c.if-level-eq0.false)) (omega (arith, c.if-number-root.false)) is;
}
