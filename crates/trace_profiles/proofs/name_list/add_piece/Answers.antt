use Rattle.std.proofs.Common.{ℕ, List, ◌∙◌, ap, sym, arith}
use Rattle.std.specs.Str.{bytes_eq}
use Rattle.std.proofs.lemmas.Bool.Decides.{nat_tests}
use Rattle.intern_tables.specs.WithoutRepeats.{without_repeats}
use Rattle.massif_sample.specs.NameList.{with_text}
use Rattle.trace_profiles.proofs.NameLemmas.{with_text-more, with_text-none}
use Rattle.trace_profiles.proofs.name_list.add_piece.Goals as goal

pub returns-then-is_empty : goal.returns-then-is_empty
returns-then-is_empty c = λ came is.
    is ∙ ap (λ (texts : List (List ℕ)). without_repeats bytes_eq texts)
    (sym (with_text-none came c.args.piece.now (grind (arith, nat_tests, c.if-is_empty.true, c.is_empty.ensures))))

pub returns : goal.returns
returns c = λ came is.
    c.in_ok-intern.ensures.without_repeats (with_text came) is
    ∙ ap (λ (texts : List (List ℕ)). without_repeats bytes_eq texts)
    (sym (with_text-more came c.args.piece.now (grind (arith, nat_tests, c.if-is_empty.false, c.is_empty.ensures))))
