use Rattle.std.proofs.lemmas.Result.{on_ok_weaker}
use Rattle.dhat_json.proofs.Added.{adds_then}
use Rattle.dhat_json.proofs.writer.put_times.Goals as goal

pub returns : goal.returns
returns c =
    on_ok_weaker c.put_text-2.result
    (λ last. adds_then _ _ _ _ _ c.in_ok-put_whole.ensures
    (adds_then _ _ _ _ _ c.in_ok-put_optional_whole.ensures
    (adds_then _ _ _ _ _ c.in_ok-put_text.ensures
    (adds_then _ _ _ _ _ c.in_ok-put_optional_whole-2.ensures last))))
    c.put_text-2.ensures
