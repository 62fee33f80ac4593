use Rattle.std.proofs.lemmas.Result.{MatchResult-weaker}
use Rattle.ht_trace.proofs.tables.Tables.take.Goals as goal

pub returns-in-Version-clause-takes : goal.returns-in-Version-clause-takes
returns-in-Version-clause-takes c =
    rw c.in-Version.is
    (MatchResult-weaker c.set_version.result c.set_version.ensures.takes (λ step takes. takes c.in-Version.heaptrack)
    (λ error all. all))

pub returns-in-Version-clause-refuses : goal.returns-in-Version-clause-refuses
returns-in-Version-clause-refuses c =
    rw c.in-Version.is
    (MatchResult-weaker c.set_version.result c.set_version.ensures.refuses (λ step all. all)
    (λ error refuses. refuses c.in-Version.heaptrack))
