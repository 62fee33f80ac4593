use Rattle.std.proofs.Common.{ℕ, ◌≡◌, ◌++◌, List, [], ◌∷◌, length, take, get_or, sym, ap, ◌∙◌, arith}
use Rattle.std.proofs.lemmas.List.{length-take, take_all}
use Rattle.cost_tree.specs.Cuts.{cut_lists}
use Rattle.cost_tree.proofs.Lengthening.{cut-count, cut-more, cut-start}
use Rattle.cost_tree.proofs.cut.cut_shape.Goals as goal

pub each_list-init : goal.each_list-init
each_list-init c = c.new-shape.ensures.empty ∙ sym cut-start

pub begin-requires : goal.begin-requires
begin-requires c =
    let i = c.each_list.list in
    let counts = length-take i c.args.counts.now in
    let lists = length-take i c.args.whole.now in
    let as_many = c.requires.as_many in
    let so_far = ap (λ (ls : List (List ℕ)). length ls) c.each_list.invariant in
    let cut = cut-count (take i c.args.counts.now) (take i c.args.whole.now) (omega arith) in
    let few = c.len-list-end.type_inv in
    record { few = omega arith }

pub each_list-preserved : goal.each_list-preserved
each_list-preserved c =
    let i = c.each_list.list in
    let numbers : c.deref.result.now ≡ take (get_or c.args.counts.now i 0) (get_or c.args.whole.now i []) =
    c.deref.ensures.value ∙ c.in_ok-list_into.ensures.numbers in
    c.in_ok-push_numbers.ensures.gained c.each_list.shape [] c.in_ok-begin.ensures.appended
    ∙ ap (λ (ns : List ℕ). c.each_list.shape ++ ns ∷ []) numbers
    ∙ cut-more c.args.counts.now c.args.whole.now i c.each_list.shape c.requires.as_many
    (omega (arith, c.len-list-end.ensures.count)) c.each_list.invariant

pub returns : goal.returns
returns c =
    let i = c.each_list.list in
    let as_many = c.requires.as_many in
    record {
      lists = c.each_list.invariant
          ∙ ap (λ (ks : List ℕ). cut_lists ks (take i c.args.whole.now))
          (take_all i c.args.counts.now (omega (arith, c.len-list-end.ensures.count)))
          ∙ ap (λ (ls : List (List ℕ)). cut_lists c.args.counts.now ls)
          (take_all i c.args.whole.now (omega (arith, c.len-list-end.ensures.count)));
    }
