use Rattle.std.proofs.Common.{ℕ, Vec, Global, ap, ◌∙◌, string_bytes}
use Rattle.dhat_json.proofs.ProfileTexts.{text_written}
use Rattle.dhat_json.proofs.writer.ended.Goals as goal

pub returns : goal.returns
returns c = λ whole begun times.
    let last = c.put_end.new.out in
    let is = c.in_default.ensures.whole whole begun times in
    text_written whole last.before last.tokens (string_bytes c.in-Ok.text) is.before is.tokens
    (ap (λ (v : Vec ℕ Global). v.items) c.in-Ok.ensures.ok ∙ c.into_inner.ensures.items)
    c.into_inner.ensures.reads_back c.into_inner.ensures.utf8 is.fits
