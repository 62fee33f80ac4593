-- Lemmas on stacks that a tree can't tell apart.
use Rattle.std.proofs.Common.{◌≡◌, ℕ, zero, suc, ◌+◌, ◌<◌, ◌≤◌, ◌&&◌, Bool, true, false, cond, List, [], ◌∷◌, length}
use Rattle.std.proofs.Common.{map, take, Some, refl, sym, ap, ◌∙◌, arith}
use Rattle.std.specs.Prelude.{nat_lt, slice_get}
use Rattle.std.proofs.lemmas.Bool.Decides.{same_from_decides}
use Rattle.std.proofs.lemmas.List.{length-take, take_all}
use Rattle.std.proofs.lemmas.List.Sums.{sum_by-cons}
use Rattle.cost_tree.specs.Costed.{Costed, costed}
use Rattle.cost_tree.specs.Inclusive.{has_front, is_front, inclusive, own, least}
use Rattle.cost_tree.specs.IsTreeOf.{IsTreeOf}
use Rattle.cost_tree.specs.TreeState.{TreeState}
use Rattle.cost_tree.proofs.Laws.{has_front-take, inclusive-cons, is_front-Decides, least-cons}

-- two lists of texts of a stack of this cost are alike for each front of at most so many texts
pub record AreAlike (depth cost : ℕ) (texts other : List (List ℕ)) : Type 0 where
  pub begins : (front : List (List ℕ)) → length front ≤ depth → 0 < cost → has_front front texts ≡ has_front front other
  pub is : (front : List (List ℕ)) → length front ≤ depth → 0 < cost → is_front front texts ≡ is_front front other

-- two lists of stacks are
pub record IsSameTo (depth : ℕ) (stacks other : List Costed) : Type 0 where
  pub inclusive : (front : List (List ℕ)) → length front ≤ depth → inclusive front stacks ≡ inclusive front other
  pub own : (front : List (List ℕ)) → length front ≤ depth → own front stacks ≡ own front other
  pub least : (front : List (List ℕ)) → length front ≤ depth → least front stacks ≡ least front other

-- what a stack adds where it passes a test
counts : (cost : ℕ) (passes passes' : Bool) → (0 < cost → passes ≡ passes') → cond passes cost 0 ≡ cond passes' cost 0
counts zero true true same = refl
counts zero true false same = refl
counts zero false true same = refl
counts zero false false same = refl
counts (suc n) passes passes' same = ap (λ (b : Bool). cond b (suc n) 0) (same (omega arith))

-- whether it costs something and passes
chosen : (cost : ℕ) (passes passes' : Bool) → (0 < cost → passes ≡ passes')
    → (nat_lt 0 cost && passes) ≡ (nat_lt 0 cost && passes')
chosen zero passes passes' same = refl
chosen (suc n) passes passes' same = ap (λ (b : Bool). nat_lt 0 (suc n) && b) (same (omega arith))

own-cons : (front : List (List ℕ)) (stack : Costed) (stacks : List Costed)
    → own front (stack ∷ stacks) ≡ cond (is_front front stack.texts) stack.cost 0 + own front stacks
unfolding own
own-cons front stack stacks = sum_by-cons (λ (s : Costed). cond (is_front front s.texts) s.cost 0) stack stacks

-- so sums stay the same where it is added to them
added-same : (cost : ℕ) (passes passes' : Bool) (sum sum' whole whole' : ℕ) → (0 < cost → passes ≡ passes')
    → whole ≡ cond passes cost 0 + sum → whole' ≡ cond passes' cost 0 + sum' → sum ≡ sum' → whole ≡ whole'
added-same cost passes passes' sum sum' whole whole' same one two rest =
    let here = counts cost passes passes' same in omega arith

IsSameTo-cons : (depth cost : ℕ) (texts other : List (List ℕ)) (stacks others : List Costed)
    → AreAlike depth cost texts other → IsSameTo depth stacks others
    → IsSameTo depth (record { texts = texts; cost = cost } ∷ stacks) (record { texts = other; cost = cost } ∷ others)
IsSameTo-cons depth cost texts other stacks others alike same = record {
  inclusive = λ front short.
      added-same cost (has_front front texts) (has_front front other) _ _ _ _ (alike.begins front short)
      (inclusive-cons front (record { texts = texts; cost = cost }) stacks)
      (inclusive-cons front (record { texts = other; cost = cost }) others) (same.inclusive front short);
  own = λ front short.
      added-same cost (is_front front texts) (is_front front other) _ _ _ _ (alike.is front short)
      (own-cons front (record { texts = texts; cost = cost }) stacks)
      (own-cons front (record { texts = other; cost = cost }) others) (same.own front short);
  least = λ front short.
      least-cons front (record { texts = texts; cost = cost }) stacks
      ∙ ap (λ (b : Bool). cond b 0 (1 + least front stacks))
      (chosen cost (has_front front texts) (has_front front other) (alike.begins front short))
      ∙ ap (λ (n : ℕ). cond (nat_lt 0 cost && has_front front other) 0 (1 + n)) (same.least front short)
      ∙ sym (least-cons front (record { texts = other; cost = cost }) others);
}

-- lists that are made from numbers, and alike for each
pub IsSameTo-map : (depth : ℕ) (f g : ℕ → List (List ℕ)) (ns costs : List ℕ)
    → ((k n cost : ℕ) → slice_get ns k ≡ Some n → slice_get costs k ≡ Some cost → AreAlike depth cost (f n) (g n))
    → IsSameTo depth (costed (map f ns) costs) (costed (map g ns) costs)
unfolding costed
IsSameTo-map depth f g [] costs alike =
    record { inclusive = λ front short. refl; own = λ front short. refl; least = λ front short. refl }
IsSameTo-map depth f g (n ∷ ns) [] alike =
    record { inclusive = λ front short. refl; own = λ front short. refl; least = λ front short. refl }
IsSameTo-map depth f g (n ∷ ns) (cost ∷ costs) alike =
    IsSameTo-cons depth cost (f n) (g n) (costed (map f ns) costs) (costed (map g ns) costs)
    (alike zero n cost refl refl)
    (IsSameTo-map depth f g ns costs (λ k m c at held. alike (suc k) m c at held))

-- a tree of one is a tree of the other
pub IsTreeOf-same : (tree : TreeState) (stacks other : List Costed) (depth : ℕ) → IsSameTo depth stacks other
    → IsTreeOf tree stacks depth → IsTreeOf tree other depth
IsTreeOf-same tree stacks other depth same is = record {
  root = is.root;
  count = is.count;
  distinct = is.distinct;
  complete = λ front short some. let sums = same.inclusive front short in is.complete front short (omega arith);
  only =
      λ n front above at. let sums = same.inclusive front (is.short n front at) in let some = is.only n front above
      at in omega arith;
  short = is.short;
  figures = λ n front node front_at node_at.
      let short = is.short n front front_at in
      let figures = is.figures n front node front_at node_at in
      let sums = same.inclusive front short in
      record {
        cost = figures.cost ∙ sums;
        own = figures.own ∙ same.own front short;
        first = λ some. figures.first (omega arith) ∙ same.least front short;
        first_of_none = λ none. figures.first_of_none (sums ∙ none);
      };
  below = is.below;
  root_parent = is.root_parent;
  siblings = is.siblings;
}

-- whether a list is a front is told by its first texts, one more than the front may have
is_front-take : (front texts : List (List ℕ)) (n : ℕ) → length front ≤ n
    → is_front front (take (n + 1) texts) ≡ is_front front texts
is_front-take front texts n within =
    let cut = length-take (n + 1) texts in
    same_from_decides (is_front front (take (n + 1) texts)) (is_front front texts)
    (is_front-Decides front (take (n + 1) texts)) (
      (λ has.
          let same = (is_front-Decides front texts).0 has in
          let count = ap (λ (xs : List (List ℕ)). length xs) same in
          same ∙ sym (take_all (n + 1) texts (omega arith))),
      (λ same.
          let count = ap (λ (xs : List (List ℕ)). length xs) same in
          (is_front-Decides front texts).1 (same ∙ take_all (n + 1) texts (omega arith))),
    )

-- the first texts of a list, one more than fronts may have, are alike for a tree
pub first-alike : (depth cost : ℕ) (texts : List (List ℕ)) → AreAlike depth cost (take (depth + 1) texts) texts
first-alike depth cost texts = record {
  begins = λ front short some. has_front-take front texts (depth + 1) (omega arith);
  is = λ front short some. is_front-take front texts depth short;
}
