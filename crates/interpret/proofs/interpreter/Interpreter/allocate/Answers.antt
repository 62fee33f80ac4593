use Rattle.std.proofs.Common.{◌<◌, ◌≤◌, length, arith, refl}
use Rattle.std.proofs.lemmas.Result.{err_from_is_err_and}
use Rattle.interpret.proofs.TakeLemmas.{takes-allocation, refuses-info, refuses-trace}
use Rattle.interpret.proofs.interpreter.Interpreter.allocate.Goals as goal

pub returns-then-trace-from-clause-answers : goal.returns-then-trace-from-clause-answers
returns-then-trace-from-clause-answers c =
    let above : length c.self.inside.nodes < c.args.trace =
    omega (arith, c.from.ensures, c.len.ensures.count, c.if-trace-from.true) in
    rw (← c.self.view_is)
    (λ line. record { takes = tt; refuses = refuses-trace _ c.args.size c.args.trace c.args.ptr above })

pub returns-in_err-info-clause-answers : goal.returns-in_err-info-clause-answers
returns-in_err-info-clause-answers c =
    let p = err_from_is_err_and c.from_residual.result c.from_residual.ensures.1 in
    let held : c.args.trace ≤ length c.self.inside.nodes =
    omega (arith, c.from.ensures, c.len.ensures.count, c.if-trace-from.false) in
    rw (p.1, p.2, ← c.self.view_is) (λ line. record {
      takes = tt;
      refuses =
          refuses-info _ _ c.args.size c.args.trace c.args.ptr c.in_err-info.field-0.0 c.self.invariant held
          c.in_err-info.ensures.adds.fault refl refl;
    })

pub returns-clause-answers : goal.returns-clause-answers
returns-clause-answers c =
    let held : c.args.trace ≤ length c.self.inside.nodes =
    omega (arith, c.from.ensures, c.len.ensures.count, c.if-trace-from.false) in
    let adds = c.in_ok-info.ensures.adds in
    rw (← c.self.view_is) (λ line. record {
      takes =
          takes-allocation _ c.put_allocation.new.infos c.set.new.self c.args.size c.args.trace c.args.ptr
          c.in_ok-info.info c.unwrap_or-version.result line _ _ c.self.invariant held c.unwrap_or-version.ensures
          adds.added adds.few adds.number adds.lines c.in_ok-set.ensures.set;
      refuses = tt;
    })
