use Rattle.std.proofs.Common.{refl}
use Rattle.std.specs.Prelude.{unwrap_or}
use Rattle.interpret.proofs.FrontLemmas.{err-holds, ok-holds}
use Rattle.interpret.proofs.TakeLemmas.{takes-held}
use Rattle.interpret.proofs.interpreter.Interpreter.add_known_node.Goals as goal

pub returns-in-Some : goal.returns-in-Some
returns-in-Some c =
    let version = unwrap_or c.self.inside.version 1 in
    let adds = c.add_held_node.ensures.adds in
    let result = c.add_held_node.result in
    rw (← c.self.view_is) (record {
      taken =
          λ taken line. takes-held _ c.add_held_node.new.nodes c.args.ip c.args.parent c.in-Some.instruction.number
          c.in-Some.instruction.frames version line _ _ c.self.invariant refl
          c.in-Some.ensures.some c.in-Some.ensures.number c.in-Some.ensures.frames
          (ok-holds result c.is_ok.result c.is_ok.ensures.value taken adds.added)
          (ok-holds result c.is_ok.result c.is_ok.ensures.value taken adds.lines version)
          (ok-holds result c.is_ok.result c.is_ok.ensures.value taken adds.no_fault);
      untaken = λ not. rw (err-holds result c.is_ok.result c.is_ok.ensures.value not adds.unchanged) refl;
      unwritten = λ not. err-holds result c.is_ok.result c.is_ok.ensures.value not adds.unwritten;
    })
