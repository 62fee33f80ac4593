use Rattle.std.proofs.Common.{◌≤◌, length, refl, arith}
use Rattle.std.specs.Prelude.{unwrap_or}
use Rattle.interpret.proofs.FrontLemmas.{err-holds, held-lines, held-new, ok-holds}
use Rattle.interpret.proofs.TakeLemmas.{takes-allocation}
use Rattle.interpret.proofs.interpreter.Interpreter.allocate_held.Goals as goal

pub returns-in-Some : goal.returns-in-Some
returns-in-Some c =
    let version = unwrap_or c.self.inside.version 1 in
    let infos = c.self.inside.infos in
    let put = c.put_held.ensures in
    let held : c.args.trace ≤ length c.self.inside.nodes =
    omega (arith, c.from.ensures, c.len.ensures.count, c.if-trace-from.false) in
    rw (← c.self.view_is) (record {
      taken =
          λ taken line. takes-allocation _ infos c.put_held.new.pointers c.args.size c.args.trace c.args.ptr
          c.in-Some.info version line _ _ c.self.invariant held refl
          (held-new infos _ c.in-Some.ensures.some) c.self.invariant.infos_few c.in-Some.ensures.number
          (held-lines infos version c.in-Some.info _ _
          (ok-holds c.put_held.result c.is_ok.result c.is_ok.ensures.value taken put.lines version))
          (ok-holds c.put_held.result c.is_ok.result c.is_ok.ensures.value taken put.set);
      untaken = λ not. rw (err-holds c.put_held.result c.is_ok.result c.is_ok.ensures.value not put.unchanged) refl;
      unwritten = λ not. err-holds c.put_held.result c.is_ok.result c.is_ok.ensures.value not put.unwritten;
    })
