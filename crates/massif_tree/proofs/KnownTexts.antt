-- Labels that are known by numbers: which number a front's label has.
use Rattle.std.proofs.Common.{◌≡◌, ℕ, zero, suc, ◌+◌, ◌-◌, ◌<◌, ◌≤◌, ◌==◌, Bool, false, cond, List, [], ◌∷◌, ◌++◌, None}
use Rattle.std.proofs.Common.{Some, length, take, get_or, sym, ap, ◌∙◌, arith}
use Rattle.std.specs.Prelude.{slice_get, unwrap_or}
use Rattle.std.proofs.lemmas.Bool.{ne_eqb}
use Rattle.std.proofs.lemmas.Option.{slice_get_past, unwrap_or-slice_get}
use Rattle.std.proofs.Math.ListN.{get_or-append}
use Rattle.intern_tables.specs.Numbers.{name_at}
use Rattle.cost_tree.specs.CostLines.{last_of}
use Rattle.cost_tree.specs.Texts.{text_of}
use Rattle.cost_tree.proofs.Laws.{take-next}
use Rattle.massif_tree.specs.KnownLabels.{HoldTexts}
use Rattle.massif_tree.specs.Labels.{root_label}
use Rattle.massif_tree.specs.MassifTree.{label_of}

-- the name with a number stands at the place before
pub name-place : (names : List (List ℕ)) (place : ℕ) → name_at names (place + 1) ≡ slice_get names place
name-place names place =
    let back : place + 1 - 1 ≡ place = omega arith in
    let above : (place + 1 == 0) ≡ false = ne_eqb (place + 1) 0 (λ none. absurd (omega arith)) in
    ap (λ (b : Bool). cond b None (slice_get names (place + 1 - 1))) above ∙ ap (slice_get names) back

-- so does its text
text-place : (names : List (List ℕ)) (place : ℕ) → text_of names (place + 1) ≡ get_or names place []
unfolding text_of
text-place names place = ap (λ o. unwrap_or o []) (name-place names place) ∙ unwrap_or-slice_get names place []

-- one name more
pub name-next : (names : List (List ℕ)) (place : ℕ) (name : List ℕ) → name_at names (place + 1) ≡ Some name
    → take (place + 1) names ≡ take place names ++ name ∷ []
name-next names place name is = take-next names place name (sym (name-place names place) ∙ is)

module _ (texts : List (List ℕ)) (root : ℕ) (labels : List (List ℕ)) (hold : HoldTexts texts root labels) where
  -- the label of a text that a number has
  at-text : (number : ℕ) → number < root → get_or labels number [] ≡ text_of texts number
  unfolding text_of
  at-text zero below = ap (λ (all : List (List ℕ)). get_or all 0 []) hold.labels_are
  at-text (suc place) below =
      let is : suc place ≡ place + 1 = omega arith in
      ap (λ (all : List (List ℕ)). get_or all (suc place) []) hold.labels_are
      ∙ get_or-append texts (root_label ∷ hold.others) [] place (omega (arith, hold.root_is))
      ∙ sym (text-place texts place)
      ∙ ap (text_of texts) (sym is)

  -- where no text has it, the empty one
  at-none : (number : ℕ) → root ≤ number → get_or labels 0 [] ≡ text_of texts number
  unfolding text_of
  at-none zero above = absurd (omega (arith, hold.root_is))
  at-none (suc place) above =
      let is : suc place ≡ place + 1 = omega arith in
      ap (λ (all : List (List ℕ)). get_or all 0 []) hold.labels_are
      ∙ sym (ap (λ o. unwrap_or o []) (slice_get_past texts place (omega (arith, hold.root_is))))
      ∙ unwrap_or-slice_get texts place []
      ∙ sym (text-place texts place)
      ∙ ap (text_of texts) (sym is)

  -- the label of a front with a text, by that text
  of-last : (front : List (List ℕ)) (text : List ℕ) → 0 < length front → text ≡ last_of front → text ≡ label_of front
  of-last [] text some is = absurd (omega arith)
  of-last (first ∷ more) text some is = is

  pub text-known : (front : List (List ℕ)) (number : ℕ) → 0 < length front → number < root
      → text_of texts number ≡ last_of front → get_or labels number [] ≡ label_of front
  text-known front number some below is = at-text number below ∙ of-last front (text_of texts number) some is

  pub none-known : (front : List (List ℕ)) (number : ℕ) → 0 < length front → root ≤ number
      → text_of texts number ≡ last_of front → get_or labels 0 [] ≡ label_of front
  none-known front number some above is = at-none number above ∙ of-last front (text_of texts number) some is
