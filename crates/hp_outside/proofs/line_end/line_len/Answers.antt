use Rattle.std.proofs.Common.{arith, length-drop, not}
use Rattle.hp_outside.specs.Lines.{is_line_feed}
use Rattle.hp_outside.proofs.Known.{rest_of}
use Rattle.hp_outside.proofs.LineLemmas.{prefix_len-drop}
use Rattle.hp_outside.proofs.line_end.line_len.Goals as goal

pub returns-in-Some-clause-value : goal.returns-in-Some-clause-value
returns-in-Some-clause-value c =
    let found = rw rest_of at c.in-Some.ensures in
    omega (arith, found.1, prefix_len-drop (λ x. not (is_line_feed x)) c.args.kept.now c.args.scanned c.requires.known)

pub returns-in-None-clause-value : goal.returns-in-None-clause-value
returns-in-None-clause-value c =
    let none = rw rest_of at c.in-None.ensures in
    omega (
      arith,
      none,
      length-drop c.args.scanned c.args.kept.now,
      c.requires.within,
      prefix_len-drop (λ x. not (is_line_feed x)) c.args.kept.now c.args.scanned c.requires.known,
    )
