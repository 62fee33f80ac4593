use Rattle.std.proofs.Common.{◌≡◌, ◌+◌, ◌++◌, ◌∷◌, [], ℕ, List, get_or, set, Some, sym, ap, ◌∙◌, subst, arith}
use Rattle.std.specs.Prelude.{slice_get, slice_index}
use Rattle.std.proofs.lemmas.List.{get_or_default}
use Rattle.std.proofs.lemmas.Option.{slice_get-get_or}
use Rattle.ht_print.specs.declared.entry.Entry.{Entry}
use Rattle.ht_print.specs.PlacedStacks.{AreLinked}
use Rattle.ht_print.specs.Places.{number_at}
use Rattle.ht_print.proofs.LinkLemmas.{linked-more}
use Rattle.ht_print.proofs.placed_stacks.PlacedStacks.of.Goals as goal

-- the entry of no stack
abbrev no-entry : Entry
no-entry = record { figure = 0; stack = 0 }

pub each_stack-preserved : goal.each_stack-preserved
each_stack-preserved c =
    let places = c.args.places.now in
    let k : ℕ = c.each_stack.k in
    let last : List ℕ = c.each_stack.last.items in
    let before : List ℕ = c.each_stack.before.items in
    let entry : Entry = get_or c.args.stacks.now k no-entry in
    let at : slice_get c.args.stacks.now k ≡ Some entry = slice_get-get_or c.args.stacks.now k no-entry (omega arith) in
    let held = c.requires.held k no-entry (omega arith) in
    let number : c.index.result.now ≡ number_at places entry.stack =
    c.index.ensures ∙ get_or_default places.numbers.items entry.stack c.index.result.now 0 held.held in
    let inside = held.within in
    let count = c.each_stack.invariant.last_length in
    let link : c.index-in-each_stack.result.now ≡ slice_index last (number_at places entry.stack) =
    c.index-in-each_stack.ensures
    ∙ get_or_default last c.index.result.now c.index-in-each_stack.result.now 0 (omega arith)
    ∙ ap (λ (n : ℕ). slice_index last n) number in
    subst (λ (n : ℕ). AreLinked places c.args.stacks.now (k + 1) (set last n (k + 1)) c.push.new.self.items)
    (sym number)
    (subst (λ (ns : List ℕ). AreLinked places c.args.stacks.now (k + 1)
    (set last (number_at places entry.stack) (k + 1)) ns)
    (sym (c.in_ok-push.ensures.items ∙ ap (λ (n : ℕ). before ++ n ∷ []) link))
    (linked-more places c.args.stacks.now k last before entry at inside c.each_stack.invariant))

pub returns-clause-placed : goal.returns-clause-placed
returns-clause-placed c = record {
  held = c.requires.held;
  linked =
      subst (λ (n : ℕ). AreLinked c.args.places.now c.args.stacks.now n c.each_stack.last.items
      c.each_stack.before.items)
      (omega arith) c.each_stack.invariant;
}
