use Rattle.std.proofs.Common.{◌≡◌, map, take}
use Rattle.std.specs.Prelude.{codes, string_bytes}
use Rattle.std.specs.List.{join_by}
use Rattle.profile_reports.proofs.page_report.shown_words.Given as goal

abbrev pub invariant-each_word : goal.invariant-each_word
invariant-each_word l = l.text.items ≡ join_by (λ word. word) (codes " ") (take l.place (map string_bytes l.words))
