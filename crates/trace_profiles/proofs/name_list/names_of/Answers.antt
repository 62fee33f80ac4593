use Rattle.std.proofs.Common.{◌≡◌, ◌∙◌, ℕ, List, None, Option, map, ap, sym, subst, rules, tests, Bor}
use Rattle.std.specs.Iterator.{Yields}
use Rattle.std.specs.Str.{bytes_eq}
use Rattle.std.proofs.lemmas.Iterator.{YieldsList}
use Rattle.std.proofs.lemmas.Iterator.Consumers.{YieldsList-at, YieldsList-end}
use Rattle.std.proofs.lemmas.Iterator.Splits.{YieldsList-from_slice_split}
use Rattle.std.proofs.lemmas.List.{map_push}
use Rattle.intern_tables.specs.WithoutRepeats.{without_repeats}
use Rattle.massif_sample.specs.NameList.{is_semicolon, names_in, with_text}
use Rattle.trace_profiles.proofs.name_list.names_of.Goals as goal

pub pieces-preserved : goal.pieces-preserved
pieces-preserved c =
    subst (λ (texts : List (List ℕ)). c.add_piece.new.names ≡ without_repeats bytes_eq (with_text texts))
    (sym (map_push (λ (piece : Bor (List ℕ)). piece.now) c.pieces.yielded c.in-Some.piece))
    (c.in_ok-add_piece.ensures (map (λ (piece : Bor (List ℕ)). piece.now) c.pieces.yielded) c.pieces.invariant)

-- at the end all were yielded, by an iterator that goes by another name
all-yielded : {S A B : Type 0} {steps : S → Option A → S → Type 0} {v : A → B} {s source : S} {all : List B}
    (xs : List A) (t : S)
    → Yields steps s xs t → (r : Option A) (u : S) → r ≡ None → steps t r u
    → YieldsList steps v source all → s ≡ source → map v xs ≡ all
all-yielded xs t yielded r u none step whole same =
    (YieldsList-end (YieldsList-at same whole) xs t yielded r u none step).0

pub returns : goal.returns
unfolding names_in
returns c =
    c.pieces.invariant ∙ ap (λ (texts : List (List ℕ)). without_repeats bytes_eq (with_text texts))
    (all-yielded c.pieces.yielded _ c.pieces.yielded_by _ _ c.in-None.is c.next.ensures.steps
    (YieldsList-from_slice_split {s = c.split-piece-items.result} _ is_semicolon c.args.list.now
    c.split-piece-items.ensures.rest c.split-piece-items.ensures.done c.split-piece-items.ensures.closure
    (λ x r q k. search (rules, tests)))
    (cc))
