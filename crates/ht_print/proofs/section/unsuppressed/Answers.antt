use Rattle.std.proofs.Common.{ℕ, ◌++◌, ◌∷◌, [], List, take, take_all, sym, ap, ◌∙◌, arith, Bool, false, cond, get_or}
use Rattle.std.proofs.lemmas.Option.{get_or_from_slice_get}
use Rattle.ht_print.specs.ReportText.{unsuppressed}
use Rattle.ht_print.proofs.LeakLemmas.{unsuppressed-more}
use Rattle.ht_print.proofs.section.unsuppressed.Goals as goal

pub each_stack-preserved : goal.each_stack-preserved
each_stack-preserved c =
    let suppressed : List Bool = c.args.suppressed.now in
    let figures : List ℕ = c.args.figures.now in
    let stack : ℕ = c.each_stack.stack in
    let before : List ℕ = unsuppressed (take stack suppressed) (take stack figures) in
    let count = c.requires.as_many in
    c.in_ok-push.ensures.items
    ∙ ap (λ (kept : List ℕ). kept ++ c.unsuppressed_figure.result ∷ []) c.each_stack.invariant
    ∙ ap (λ (figure : ℕ). before ++ figure ∷ []) c.unsuppressed_figure.ensures
    ∙ ap (λ (is : Bool). before ++ cond is 0 (get_or figures stack 0) ∷ [])
    (sym (get_or_from_slice_get suppressed stack c.has.result false c.has.ensures))
    ∙ sym (unsuppressed-more suppressed figures stack false 0 (omega arith) (omega arith))

pub returns : goal.returns
returns c =
    let count = c.requires.as_many in
    let stack : ℕ = c.each_stack.stack in
    record {
      figures = c.each_stack.invariant
          ∙ ap (λ (bs : List Bool). unsuppressed bs (take stack c.args.figures.now))
          (take_all stack c.args.suppressed.now (omega arith))
          ∙ ap (λ (fs : List ℕ). unsuppressed c.args.suppressed.now fs)
          (take_all stack c.args.figures.now (omega arith));
    }
