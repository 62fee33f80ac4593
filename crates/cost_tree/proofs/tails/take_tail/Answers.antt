use Rattle.std.proofs.Common.{◌≡◌, ℕ, ◌+◌, ◌-◌, List, [], ◌∷◌, ◌++◌, length, map, sym, ap, ◌∙◌, subst, append-nil}
use Rattle.std.proofs.Common.{append_assoc, arith}
use Rattle.std.specs.List.{range_with_len}
use Rattle.std.proofs.lemmas.List.FromFn.{map-range_with_len_more}
use Rattle.std.proofs.lemmas.List.{length-map}
use Rattle.cost_tree.specs.CostLines.{FrontLine}
use Rattle.cost_tree.specs.Tails.{tail_line}
use Rattle.cost_tree.specs.Texts.{text_of, texts_of}
use Rattle.cost_tree.proofs.tails.take_tail.Goals as goal

pub each_text-init : goal.each_text-init
each_text-init g c =
    let f : ℕ → FrontLine = tail_line (texts_of c.args.names.now c.args.numbers.now) c.args.cost in
    let none : c.args.count - c.args.count ≡ 0 = omega arith in
    record {
      begun = omega arith;
      within = omega arith;
      taken = λ first lines before.
          subst (λ (ls : List FrontLine). g.T.FrontLineTaker.takes c.args.names.now first ls c.args.taker.now)
          (sym (append-nil lines) ∙ ap (λ (n : ℕ). lines ++ map f (range_with_len (c.args.count + 1) n)) (sym none))
          before;
    }

pub each_text-preserved : goal.each_text-preserved
each_text-preserved g c =
    let f : ℕ → FrontLine = tail_line (texts_of c.args.names.now c.args.numbers.now) c.args.cost in
    let count = c.args.count in
    let place = c.each_text.place in
    let begun = c.each_text.invariant.begun in
    let done : List FrontLine = map f (range_with_len (count + 1) (place - count)) in
    let next : (place + 1) - count ≡ (place - count) + 1 = omega arith in
    let more = map-range_with_len_more f (count + 1) (place - count) (place + 1) (omega arith) in
    record {
      begun = omega arith;
      within = omega arith;
      taken = λ first lines before.
          subst (λ (ls : List FrontLine). g.T.FrontLineTaker.takes c.args.names.now first ls c.take_line.new.self)
          (append_assoc lines done (f (place + 1) ∷ [])
          ∙ ap (λ (ls : List FrontLine). lines ++ ls)
          (sym more ∙ ap (λ (n : ℕ). map f (range_with_len (count + 1) n)) (sym next)))
          (c.in_ok-take_line.ensures.taken c.args.names.now (f (place + 1)) first (lines ++ done) c.tail_line.ensures
          (c.each_text.invariant.taken first lines before));
    }

pub returns : goal.returns
returns g c =
    let names = c.args.names.now in
    let numbers = c.args.numbers.now in
    let count = c.args.count in
    let texts : List (List ℕ) = texts_of names numbers in
    let f : ℕ → FrontLine = tail_line texts c.args.cost in
    let long = length-map numbers (text_of names) in
    let within = c.each_text.invariant.within in
    let all : c.each_text.place - count ≡ length texts - count = omega arith in
    record {
      taken = λ first lines before.
          subst
          (λ (n : ℕ). g.T.FrontLineTaker.takes names first (lines ++ map f (range_with_len (count + 1) n))
          c.each_text.taker)
          all
          (c.each_text.invariant.taken first lines before);
    }
