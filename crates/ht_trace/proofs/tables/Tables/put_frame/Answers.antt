use Rattle.std.proofs.Common.{◌≡◌, ◌++◌, subst}
use Rattle.std.proofs.lemmas.Result.{MatchResult-weaker}
use Rattle.ht_trace.specs.FrameText.{frame_text}
use Rattle.ht_trace.specs.TableState.{TableState}
use Rattle.ht_trace.proofs.tables.Tables.put_frame.Goals as goal

pub returns-clause-appended : goal.returns-clause-appended
unfolding frame_text
returns-clause-appended c =
    MatchResult-weaker c.put_text.result c.put_text.ensures.appended
    (λ done is. subst
    (λ (t : TableState). c.put_text.new.out.items ≡ c.args.out.now.items ++ frame_text c.args.style t c.args.at.now)
    c.self.view_is is)
    (λ error all. all)
