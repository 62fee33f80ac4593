use Rattle.std.proofs.Common.{◌≡◌, ℕ, List, ◌++◌, codes, ap, ◌∙◌, append_assoc}
use Rattle.std.specs.Prelude.{decimal}
use Rattle.std.proofs.lemmas.Result.{on_ok_weaker}
use Rattle.dhat_json.proofs.fault.put_frame.Goals as goal

-- texts one after another
four_texts : (a b c d : List ℕ) → ((a ++ b) ++ c) ++ d ≡ a ++ (b ++ (c ++ d))
four_texts a b c d = simp append_assoc

pub returns : goal.returns
returns c =
    on_ok_weaker c.put_bytes-2.result (λ last. last
    ∙ (ap (λ (o : List ℕ). o ++ codes " ") (c.in_ok-put_dec.ensures.appended
    ∙ ap (λ (o : List ℕ). o ++ decimal c.args.frame) c.in_ok-put_bytes.ensures.appended)
    ∙ four_texts c.args.out.now.items (codes "frame ") (decimal c.args.frame) (codes " ")))
    c.put_bytes-2.ensures.appended
