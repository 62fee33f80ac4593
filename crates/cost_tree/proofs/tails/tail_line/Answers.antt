use Rattle.std.proofs.Common.{◌≡◌, ℕ, ◌+◌, List, [], Bor, take, cond, get_or, refl, sym, ap, ◌∙◌, arith}
use Rattle.std.specs.Prelude.{nat_lt}
use Rattle.std.proofs.lemmas.List.{get_or-map, length-map, length-take, take_more}
use Rattle.cost_tree.specs.CostLines.{last_of}
use Rattle.cost_tree.specs.Texts.{text_of, texts_of}
use Rattle.cost_tree.proofs.Laws.{last-push}
use Rattle.cost_tree.proofs.Trees.{text-read}
use Rattle.cost_tree.proofs.tails.tail_line.Goals as goal

pub returns : goal.returns
returns c =
    let names = c.args.names.now in
    let numbers = c.args.numbers.now in
    let place = c.args.place in
    let texts : List (List ℕ) = texts_of names numbers in
    let count = length-map numbers (text_of names) in
    let first = length-take (place + 1) texts in
    let within = c.requires.within in
    let said : text_of names (get_or numbers place 0) ≡ last_of (take (place + 1) texts) =
    sym (get_or-map (text_of names) numbers place 0 [] within)
    ∙ sym (last-push (take place texts) (get_or texts place []))
    ∙ ap last_of (sym (take_more texts place [] (omega arith))) in
    record {
      levelled = omega arith;
      level = refl;
      children = c.lines_below.ensures ∙ ap (λ (n : ℕ). cond {A = ℕ} (nat_lt (place + 1) n) 1 0) (sym count);
      cost = refl;
      place = (
        ap (λ (name : Bor (List ℕ)). name.now) c.unwrap_or.ensures
            ∙ text-read names (get_or numbers place 0) c.name.result _ c.name.ensures.found.1 c.name.ensures.name refl
            ∙ said,
        said,
      );
    }
