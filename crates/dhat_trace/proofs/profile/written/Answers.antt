use Rattle.std.proofs.lemmas.Result.{IfOk-weaker}
use Rattle.dhat_json.specs.Begun.{with_points}
use Rattle.dhat_trace.specs.Points.{points_in}
use Rattle.dhat_trace.proofs.profile.written.Goals as goal

pub returns-in-Ok-clause-reads_back : goal.returns-in-Ok-clause-reads_back
returns-in-Ok-clause-reads_back c =
    let put = c.in-Ok.ensures c.args.head c.in_ok-writer.ensures.begun in
    IfOk-weaker c.finish.result _ _
    (λ text is. is (with_points c.args.head (points_in c.args.stacks.now c.args.backtraces.now)) put)
    c.finish.ensures.reads_back
