use Rattle.std.proofs.lemmas.Result.{on_ok_weaker}
use Rattle.dhat_json.proofs.Added.{adds_then}
use Rattle.dhat_json.proofs.writer.put_units.Goals as goal

pub returns : goal.returns
returns c =
    on_ok_weaker c.put_optional_text-3.result
    (λ last. adds_then _ _ _ _ _ c.in_ok-put_text.ensures
    (adds_then _ _ _ _ _ c.in_ok-put_flag.ensures
    (adds_then _ _ _ _ _ c.in_ok-put_flag-2.ensures
    (adds_then _ _ _ _ _ c.in_ok-put_optional_text.ensures
    (adds_then _ _ _ _ _ c.in_ok-put_optional_text-2.ensures last)))))
    c.put_optional_text-3.ensures
