use Rattle.std.proofs.Common.{refl}
use Rattle.std.proofs.lemmas.Fn.{says_at}
use Rattle.cost_tree.proofs.frame_test.FrameTest.of.Goals as goal

pub returns : goal.returns
returns g c =
    record { listed = λ texts are. are.answer c.args.name.now c.test.result (says_at g.F.Fn c.test.ensures refl) }
