use Rattle.std.proofs.Common.{◌≡◌, ℕ, List, length, replicate, sym, ap, ◌∙◌, subst}
use Rattle.std.proofs.lemmas.List.{length-map}
use Rattle.cost_tree.specs.Costed.{costed}
use Rattle.cost_tree.specs.Cuts.{AreEnough}
use Rattle.cost_tree.specs.Texts.{lists_of, texts_of}
use Rattle.cost_tree.proofs.Forking.{alone-from, shared}
use Rattle.cost_tree.proofs.forked_fronts.forked.Goals as goal

pub returns : goal.returns
returns c =
    let names = c.args.names.now in
    let whole = c.args.lists.now in
    let lists : List (List (List ℕ)) = lists_of names whole in
    let counts = c.lengthen.new.self.counts.items in
    let count : c.len.result ≡ length lists = c.len.ensures.count ∙ sym (length-map whole (texts_of names)) in
    let ones : c.deref.result.now ≡ replicate (length lists) 1 =
    c.deref.ensures.value ∙ c.in_ok-costs.ensures.items_if_clones_equal (λ y same. same)
    ∙ ap (λ (n : ℕ). replicate n 1) count in
    record {
      cut = record {
        texts = c.requires.texts;
        cut_of = c.lengthen.ensures.cut;
        alone = alone-from lists counts (λ depth.
            subst (λ (costs : List ℕ). AreEnough depth shared (costed lists costs) lists counts) ones
            (c.in_ok-lengthen.ensures.enough names depth c.len-count.ensures.distinct c.requires.texts));
      };
    }
