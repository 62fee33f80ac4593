use Rattle.std.proofs.Common.{◌++◌, Global, ℕ, List, map, sym, ap, ◌∙◌, arith}
use Rattle.std.proofs.Math.ListN.{get_or-map, length-map}
use Rattle.std.specs.Prelude.{string_bytes}
use Rattle.profile_reports.specs.PageReport.{before_word}
use Rattle.profile_reports.proofs.WordLemmas.{joined-next}
use Rattle.profile_reports.proofs.page_report.shown_words.Goals as goal

pub each_word-preserved : goal.each_word-preserved
each_word-preserved c =
    let word = c.index-words-place.result in
    joined-next (map string_bytes c.args.words.now) c.each_word.place (string_bytes word) c.each_word.text.items
    c.put_word.new.text.items
    (omega (arith, length-map c.args.words.now (string_bytes {Z = Global})))
    (get_or-map string_bytes c.args.words.now c.each_word.place word ∙ ap string_bytes (sym c.index-words-place.is))
    c.each_word.invariant
    (c.in_ok-put_word.ensures
    ∙ ap (λ (text : List ℕ). c.each_word.text.items ++ (before_word c.each_word.place ++ text))
    c.as_str.ensures.value)
