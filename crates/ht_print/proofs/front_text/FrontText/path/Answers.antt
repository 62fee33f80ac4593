use Rattle.std.proofs.Common.{ℕ, List, length, sym, ap, ◌∙◌, arith}
use Rattle.ht_print.proofs.FlameLemmas.{nothing-held}
use Rattle.ht_print.proofs.FrontTexts.{path-none, path-rest}
use Rattle.ht_print.proofs.front_text.FrontText.path.Goals as goal

pub returns-in-Some : goal.returns-in-Some
returns-in-Some c =
    let text = sym c.in-Some.ensures.cases.0 ∙ c.deref.ensures.value in
    let size = ap (λ (bytes : List ℕ). length bytes) text in
    record {
      path = λ front is. path-rest front c.in-Some.field-0-0.now c.in-Some.path.now (text ∙ is);
      within = omega (arith, size);
    }

pub returns-in-None : goal.returns-in-None
returns-in-None c = record {
  path =
      λ front is. path-none front
      (sym (nothing-held c.deref.result.now c.in-None.ensures.cases) ∙ c.deref.ensures.value ∙ is);
  within = omega arith;
}
