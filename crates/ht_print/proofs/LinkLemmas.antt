-- Lemmas on the stacks of a place as they are linked one after another, and as the links are followed.
use Rattle.std.proofs.Common.{◌≡◌, ◌≢◌, ℕ, zero, suc, ◌+◌, ◌<◌, ◌≤◌, inl, inr, eqb, cond, Bool, true, false, List, []}
use Rattle.std.proofs.Common.{◌∷◌, ◌++◌, length, set, get_or, take, take_all, reverse, Some, refl, sym, ap, ◌∙◌, subst}
use Rattle.std.proofs.Common.{arith, append-nil, append_assoc}
use Rattle.std.specs.Prelude.{All, filter, slice_get, slice_index}
use Rattle.std.proofs.lemmas.Bool.{cases_lt}
use Rattle.std.proofs.lemmas.Bool.Decides.{nat_tests}
use Rattle.std.proofs.lemmas.Grind.{get_or-set_at}
use Rattle.std.proofs.lemmas.List.{get_or_append_left, get_or_default, get_or-set_other, length-set, length_push}
use Rattle.std.proofs.lemmas.List.{reverse-append}
use Rattle.std.proofs.lemmas.List.Elements.{filter-append}
use Rattle.std.proofs.lemmas.Option.{same_Some, slice_get-get_or}
use Rattle.std.proofs.Math.Seq.{get_or-append_seam}
use Rattle.cost_tree.proofs.Laws.{take-next}
use Rattle.ht_print.specs.declared.entry.Entry.{Entry}
use Rattle.ht_print.specs.declared.places.Places.{Places}
use Rattle.ht_print.specs.PlacedStacks.{AreLinked, IsLast, stacks_numbered}
use Rattle.ht_print.specs.Places.{number_at}

-- the stacks of a number, with one stack more
numbered-more : (places : Places) (number : ℕ) (stacks : List Entry) (k : ℕ) (entry : Entry)
    → slice_get stacks k ≡ Some entry
    → stacks_numbered places number (take (k + 1) stacks)
    ≡ stacks_numbered places number (take k stacks) ++ cond (eqb (number_at places entry.stack) number) (entry ∷ []) []
unfolding stacks_numbered
numbered-more places number stacks k entry is =
    ap (filter (λ (e : Entry). eqb (number_at places e.stack) number)) (take-next stacks k entry is)
    ∙ filter-append (λ (e : Entry). eqb (number_at places e.stack) number) (take k stacks) (entry ∷ [])

pub numbered-here : (places : Places) (number : ℕ) (stacks : List Entry) (k : ℕ) (entry : Entry)
    → slice_get stacks k ≡ Some entry → number_at places entry.stack ≡ number
    → stacks_numbered places number (take (k + 1) stacks) ≡ stacks_numbered places number (take k stacks) ++ entry ∷ []
numbered-here places number stacks k entry is same =
    let test : eqb (number_at places entry.stack) number ≡ true = grind (arith, nat_tests) in
    numbered-more places number stacks k entry is
    ∙ ap (λ (b : Bool). stacks_numbered places number (take k stacks) ++ cond b (entry ∷ []) []) test

numbered-other : (places : Places) (number : ℕ) (stacks : List Entry) (k : ℕ) (entry : Entry)
    → slice_get stacks k ≡ Some entry → number_at places entry.stack ≢ number
    → stacks_numbered places number (take (k + 1) stacks) ≡ stacks_numbered places number (take k stacks)
numbered-other places number stacks k entry is other =
    let test : eqb (number_at places entry.stack) number ≡ false = grind (arith, nat_tests) in
    numbered-more places number stacks k entry is
    ∙ ap (λ (b : Bool). stacks_numbered places number (take k stacks) ++ cond b (entry ∷ []) []) test
    ∙ append-nil (stacks_numbered places number (take k stacks))

-- no stack is linked
pub linked-none : (places : Places) (stacks : List Entry) (last : List ℕ) → length last ≡ places.count
    → All (λ n. n ≡ 0) last → AreLinked places stacks 0 last []
linked-none places stacks last count all = record {
  last_length = count;
  before_length = refl;
  ends = λ number within. none number (all number 0 (omega arith));
  links = λ k entry within is. absurd (omega arith);
}
  where
    none : (number : ℕ) → slice_index last number ≡ 0 → IsLast places stacks number 0 (slice_index last number)
    none number is = record {
      within = omega arith;
      has = λ k entry at got. absurd (omega (arith, at, is));
      same = ap (λ (n : ℕ). stacks_numbered places number (take n stacks)) is;
    }

-- a last one that is so still with one stack more
last-stays : (places : Places) (stacks : List Entry) (number k at : ℕ) (entry : Entry) → slice_get stacks k ≡ Some entry
    → number_at places entry.stack ≢ number
    → IsLast places stacks number k at → IsLast places stacks number (k + 1) at
last-stays places stacks number k at entry is other was = record {
  within = let below = was.within in omega arith;
  has = was.has;
  same = was.same ∙ sym (numbered-other places number stacks k entry is other);
}

-- the last one is the stack itself
last-here : (places : Places) (stacks : List Entry) (k at : ℕ) (entry : Entry) → slice_get stacks k ≡ Some entry
    → at ≡ k + 1 → IsLast places stacks (number_at places entry.stack) (k + 1) at
last-here places stacks k at entry is at_is = record {
  within = omega arith;
  has = λ j e there got.
      let place : j ≡ k = omega (arith, there, at_is) in
      ap (λ (x : Entry). number_at places x.stack)
      (same_Some e entry (sym got ∙ ap (λ (n : ℕ). slice_get stacks n) place ∙ is));
  same = ap (λ (n : ℕ). stacks_numbered places (number_at places entry.stack) (take n stacks)) at_is;
}

-- one stack more is linked
pub linked-more : (places : Places) (stacks : List Entry) (k : ℕ) (last before : List ℕ) (entry : Entry)
    → slice_get stacks k ≡ Some entry → number_at places entry.stack < places.count
    → AreLinked places stacks k last before
    → AreLinked places stacks (k + 1) (set last (number_at places entry.stack) (k + 1))
    (before ++ slice_index last (number_at places entry.stack) ∷ [])
linked-more places stacks k last before entry is inside were = record {
  last_length = length-set last here (k + 1) ∙ were.last_length;
  before_length =
      let more = length_push before (slice_index last here) in let count = were.before_length in omega arith;
  ends = λ number within. end number within (eqb number here) refl;
  links = λ j e within got. elim (cases_lt j k) [
    | inl less ↦ subst (λ (n : ℕ). IsLast places stacks (number_at places e.stack) j n)
        (sym (get_or_append_left before (slice_index last here ∷ []) 0 j
        (let count = were.before_length in omega arith)))
        (were.links j e less got)
    | inr over ↦ link j e (omega arith) got
  ];
}
  where
    here : ℕ
    here = number_at places entry.stack

    end : (number : ℕ) → number < places.count → (b : Bool) → eqb number here ≡ b
        → IsLast places stacks number (k + 1) (slice_index (set last here (k + 1)) number)
    end number within true test =
        let same : number ≡ here = grind (arith, nat_tests) in
        let count = were.last_length in
        let at : slice_index (set last here (k + 1)) number ≡ k + 1 =
        get_or-set_at last here number (k + 1) 0 same (omega arith) in
        subst (λ (n : ℕ). IsLast places stacks n (k + 1) (slice_index (set last here (k + 1)) number)) (sym same)
        (last-here places stacks k (slice_index (set last here (k + 1)) number) entry is at)
    end number within false test =
        let apart : number ≢ here = grind (arith, nat_tests) in
        subst (λ (n : ℕ). IsLast places stacks number (k + 1) n)
        (sym (get_or-set_other last here number (k + 1) 0 apart))
        (last-stays places stacks number k (slice_index last number) entry is (λ same. apart (sym same))
        (were.ends number within))

    link : (j : ℕ) (e : Entry) → j ≡ k → slice_get stacks j ≡ Some e
        → IsLast places stacks (number_at places e.stack) j (slice_index (before ++ slice_index last here ∷ []) j)
    link j e same got =
        let entry_is : e ≡ entry = same_Some e entry (sym got ∙ ap (λ (n : ℕ). slice_get stacks n) same ∙ is) in
        let at : slice_index (before ++ slice_index last here ∷ []) j ≡ slice_index last here =
        ap (λ (n : ℕ). slice_index (before ++ slice_index last here ∷ []) n) (same ∙ sym were.before_length)
        ∙ get_or-append_seam before (slice_index last here) [] 0 in
        subst (λ (x : Entry). IsLast places stacks (number_at places x.stack) j
        (slice_index (before ++ slice_index last here ∷ []) j)) (sym
        entry_is)
        (subst (λ (n : ℕ). IsLast places stacks here j n) (sym at)
        (subst (λ (n : ℕ). IsLast places stacks here n (slice_index last here)) (sym same) (were.ends here inside)))

-- the link of a stack, as it is read
pub link-read : (places : Places) (stacks : List Entry) (last before : List ℕ) (k link : ℕ) (d : Entry)
    → AreLinked places stacks (length stacks) last before → k < length stacks → link ≡ get_or before k link
    → IsLast places stacks (number_at places (get_or stacks k d).stack) k link
link-read places stacks last before k link d linked inside is =
    let count = linked.before_length in
    subst (λ (n : ℕ). IsLast places stacks (number_at places (get_or stacks k d).stack) k n)
    (sym (is ∙ get_or_default before k link 0 (omega arith)))
    (linked.links k (get_or stacks k d) inside (slice_get-get_or stacks k d inside))

-- the stacks that are read backwards so far, behind those that are left, are all of the number
pub record Follows (places : Places) (stacks : List Entry) (number at : ℕ) (read : List Entry) : Type 0 where
  pub within : at ≤ length stacks
  pub has : (k : ℕ) (entry : Entry) → at ≡ k + 1 → slice_get stacks k ≡ Some entry
      → number_at places entry.stack ≡ number
  pub all : stacks_numbered places number (take at stacks) ++ reverse read ≡ stacks_numbered places number stacks

-- none is read
pub follows-none : (places : Places) (stacks : List Entry) (number at : ℕ)
    → IsLast places stacks number (length stacks) at → Follows places stacks number at []
follows-none places stacks number at is = record {
  within = is.within;
  has = is.has;
  all = append-nil (stacks_numbered places number (take at stacks)) ∙ is.same
      ∙ ap (λ (es : List Entry). stacks_numbered places number es) (take_all (length stacks) stacks (omega arith));
}

-- one more is read, and its link followed
pub follows-more : (places : Places) (stacks : List Entry) (number k at : ℕ) (read : List Entry) (entry : Entry)
    → slice_get stacks k ≡ Some entry → Follows places stacks number (k + 1) read
    → IsLast places stacks (number_at places entry.stack) k at → Follows places stacks number at (read ++ entry ∷ [])
follows-more places stacks number k at read entry is were last =
    let same : number_at places entry.stack ≡ number = were.has k entry refl is in
    let next : IsLast places stacks number k at = subst (λ (n : ℕ). IsLast places stacks n k at) same last in
    record {
      within = let below = next.within in let all = were.within in omega arith;
      has = next.has;
      all = ap (λ (es : List Entry). es ++ reverse (read ++ entry ∷ [])) next.same
          ∙ ap (λ (es : List Entry). stacks_numbered places number (take k stacks) ++ es)
          (reverse-append read (entry ∷ []))
          ∙ sym (append_assoc (stacks_numbered places number (take k stacks)) (entry ∷ []) (reverse read))
          ∙ ap (λ (es : List Entry). es ++ reverse read) (sym (numbered-here places number stacks k entry is same))
          ∙ were.all;
    }

-- all are read
pub follows-all : (places : Places) (stacks : List Entry) (number at : ℕ) (read : List Entry) → at ≡ 0
    → Follows places stacks number at read → reverse read ≡ stacks_numbered places number stacks
unfolding stacks_numbered
follows-all places stacks number zero read none were = were.all
follows-all places stacks number (suc at) read none were = absurd (omega arith)
