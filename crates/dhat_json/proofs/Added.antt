-- What calls of the writer add, one after the other.
use Rattle.std.proofs.Common.{◌≡◌, List, [], ◌∷◌, ◌++◌, sym, ap, ◌∙◌, append_assoc}
use Rattle.json.specs.Token.{begin_object, end_object, begin_array, end_array}
use Rattle.json.specs.Tree.{json_tokens, items_tokens, members_tokens}
use Rattle.json.specs.Written.{Written}
use Rattle.serde_json.specs.Data.{Data, object, array, Members, no_members}
use Rattle.serde_json.specs.View.{items_of}
use Rattle.serde_json.specs.Written.{outline, items_outline, members_outline}
use Rattle.dhat_json.specs.Adds.{Adds, AddsValue, ItemsFit}

pub adds_then : (a b c : Written) (f g : Members → Members) → Adds a b f → Adds b c g → Adds a c (λ rest. f (g rest))
adds_then a b c f g first second = record {
  before = second.before ∙ first.before;
  tokens = λ rest. first.tokens (g rest) ∙ second.tokens rest;
  fits = λ rest fit. first.fits (g rest) (second.fits rest fit);
}

-- the members between the braces of an object are its value
pub object_added : (old opened last closed : Written) (f : Members → Members) → opened.before ≡ old.before
    → opened.tokens ≡ old.tokens ++ begin_object ∷ [] → Adds opened last f → closed.before ≡ last.before
    → closed.tokens ≡ last.tokens ++ end_object ∷ []
    → AddsValue old closed (object (f no_members))
object_added old opened last closed f kept-1 begun added kept-2 ended = record {
  before = kept-2 ∙ added.before ∙ kept-1;
  tokens =
      ended ∙ sym (added.tokens no_members) ∙ ap (λ ts. ts ++ members_tokens (members_outline (f no_members))) begun
      ∙ append_assoc old.tokens (begin_object ∷ []) (members_tokens (members_outline (f no_members)));
  fits = added.fits no_members tt;
}

-- Of the items of an array, all but those that are left were added.
pub record Listed (old now : Written) (all left : List Data) : Type 0 where
  pub before : now.before ≡ old.before
  pub tokens : old.tokens ++ json_tokens (outline (array (items_of all)))
      ≡ now.tokens ++ items_tokens (items_outline (items_of left))
  pub fits : ItemsFit (items_of left) → ItemsFit (items_of all)

pub listed_none : (old opened : Written) (all : List Data) → opened.before ≡ old.before
    → opened.tokens ≡ old.tokens ++ begin_array ∷ [] → Listed old opened all all
listed_none old opened all kept begun = record {
  before = kept;
  tokens =
      sym (ap (λ ts. ts ++ items_tokens (items_outline (items_of all))) begun
      ∙ append_assoc old.tokens (begin_array ∷ []) (items_tokens (items_outline (items_of all))));
  fits = λ fit. fit;
}

pub listed_more : (old now next : Written) (all left later : List Data) (d : Data) → left ≡ d ∷ later
    → Listed old now all left → AddsValue now next d → Listed old next all later
listed_more old now next all left later d left-is listed added = record {
  before = added.before ∙ listed.before;
  tokens = listed.tokens ∙ ap (λ (ds : List Data). now.tokens ++ items_tokens (items_outline (items_of ds))) left-is
      ∙ sym (ap (λ ts. ts ++ items_tokens (items_outline (items_of later))) added.tokens
      ∙ append_assoc now.tokens (json_tokens (outline d)) (items_tokens (items_outline (items_of later))));
  fits = λ fit. listed.fits (rw left-is (added.fits, fit));
}

pub listed_all : (old now closed : Written) (all left : List Data) → left ≡ [] → Listed old now all left
    → closed.before ≡ now.before → closed.tokens ≡ now.tokens ++ end_array ∷ []
    → AddsValue old closed (array (items_of all))
listed_all old now closed all left left-is listed kept ended = record {
  before = kept ∙ listed.before;
  tokens =
      ended
      ∙ sym (listed.tokens ∙ ap (λ (ds : List Data). now.tokens ++ items_tokens (items_outline (items_of ds))) left-is);
  fits = listed.fits (rw left-is tt);
}
