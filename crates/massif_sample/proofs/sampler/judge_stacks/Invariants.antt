-- Each stack so far is judged.
use Rattle.std.proofs.Common.{◌≡◌, length}
use Rattle.std.specs.Fn.{FnReturnsAt}
use Rattle.massif_sample.specs.FunctionNames.{AreStated, FunctionNames}
use Rattle.massif_sample.specs.StandsFor.{AreJudged}
use Rattle.massif_sample.proofs.sampler.judge_stacks.Given as goal

abbrev pub invariant-each_stack : goal.invariant-each_stack
invariant-each_stack g l =
    (length l.judged.items ≡ l.stack)
    × ((names : FunctionNames)
    → AreStated (FnReturnsAt g.A.Fn l.alloc_fns.test) (FnReturnsAt g.I.Fn l.ignore_fns.test) names
    → AreJudged names l.tables l.judged.items)
