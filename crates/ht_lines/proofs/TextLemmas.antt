-- Sized and plain texts, and the names of modules: what the functions give is what the relations say.
use Rattle.std.proofs.Common.{◌≡◌, ◌≢◌, ℕ, ◌<◌, Bool, true, false, eqb, List, [], ◌∷◌, ◌++◌, length, Option, Some, None}
use Rattle.std.proofs.Common.{IsTrue, refl, sym, ap, ◌∙◌, subst, inl, inr, arith, ◌⊎◌, append-nil}
use Rattle.std.specs.Prelude.{unwrap_or}
use Rattle.std.specs.List.{AllByRecursion}
use Rattle.std.proofs.lemmas.Bool.{false≢true}
use Rattle.std.proofs.lemmas.Bool.Decides.{eqb_tells}
use borrow.Author.Tests.{eqb-true, eq-eqb, ne_eqb}
use Rattle.hp_num.specs.ParsedHex.{parsed_hex}
use Rattle.ht_lines.specs.Fields.{is_blank, fields, after_blanks, before_blank, from_blank, first_field, after_field}
use Rattle.ht_lines.specs.Fields.{field_ends}
use Rattle.ht_lines.specs.SizedText.{IsSizedText, of_size, sized_text, text_of, IsText}
use Rattle.ht_lines.proofs.FieldLemmas.{from_blank-ends, before_blank-from_blank, fields-blank, fields-before_blank}
use Rattle.ht_lines.proofs.NumberLemmas.{number-no_blank, number-not_empty}

abbrev pub NoBlank : List ℕ → Type 0
NoBlank bs = AllByRecursion (λ b. b ≢ 32) bs

abbrev pub AllBlank : List ℕ → Type 0
AllBlank bs = AllByRecursion (λ b. b ≡ 32) bs

-- where a text is split that is made of its parts

pub before_blank-at : (xs ys : List ℕ) → NoBlank xs → IsTrue (field_ends ys) → before_blank (xs ++ ys) ≡ xs
before_blank-at [] [] n e = refl
before_blank-at [] (y ∷ ys) n e = rw e refl
before_blank-at (x ∷ xs) ys n e = rw (ne_eqb x 32 n.0) (ap (λ l. x ∷ l) (before_blank-at xs ys n.1 e))

pub from_blank-at : (xs ys : List ℕ) → NoBlank xs → IsTrue (field_ends ys) → from_blank (xs ++ ys) ≡ ys
from_blank-at [] [] n e = refl
from_blank-at [] (y ∷ ys) n e = rw e refl
from_blank-at (x ∷ xs) ys n e = rw (ne_eqb x 32 n.0) (from_blank-at xs ys n.1 e)

pub after_blanks-at : (blanks rest : List ℕ) → AllBlank blanks → after_blanks (blanks ++ rest) ≡ after_blanks rest
after_blanks-at [] rest h = refl
after_blanks-at (b ∷ bs) rest h = rw (eq-eqb b 32 h.0) (after_blanks-at bs rest h.1)

pub after_blanks-none : (xs ys : List ℕ) → 0 < length xs → NoBlank xs → after_blanks (xs ++ ys) ≡ xs ++ ys
after_blanks-none [] ys some n = absurd (omega arith)
after_blanks-none (x ∷ xs) ys some n = rw (ne_eqb x 32 n.0) refl

module _ (blanks f after : List ℕ) (all : AllBlank blanks) (some : 0 < length f) (none : NoBlank f)
    (ends : IsTrue (field_ends after)) where
  whole : after_blanks (blanks ++ (f ++ after)) ≡ f ++ after
  whole = after_blanks-at blanks (f ++ after) all ∙ after_blanks-none f after some none

  pub first_field-at : first_field (blanks ++ (f ++ after)) ≡ f
  first_field-at = ap before_blank whole ∙ before_blank-at f after none ends

  pub after_field-at : after_field (blanks ++ (f ++ after)) ≡ after
  after_field-at = ap from_blank whole ∙ from_blank-at f after none ends

-- a number after one blank is the first field
pub fields-number : (digits after : List ℕ) (n : ℕ) → parsed_hex digits ≡ Some n → IsTrue (field_ends after)
    → fields (32 ∷ digits ++ after) ≡ digits ∷ fields after
fields-number digits after n is ends =
    let none = number-no_blank digits n is in
    let front = before_blank-at digits after none ends in
    let back = from_blank-at digits after none ends in
    fields-blank 32 (digits ++ after) refl
    ∙ fields-before_blank (digits ++ after) (subst (λ l. 0 < length l) (sym front) (number-not_empty digits n is))
    ∙ (λ i. front i ∷ fields (back i))

pub fields-nil : fields [] ≡ []
unfolding fields
fields-nil = refl

-- and the only one, where nothing follows
pub fields-lone_number : (digits : List ℕ) (n : ℕ) → parsed_hex digits ≡ Some n → fields (32 ∷ digits) ≡ digits ∷ []
fields-lone_number digits n is =
    ap (λ l. fields (32 ∷ l)) (sym (append-nil digits)) ∙ fields-number digits [] n is refl
    ∙ ap (λ l. digits ∷ l) fields-nil

-- how a text is made of its parts

before_step : (b : ℕ) (bs : List ℕ) (t : Bool) → is_blank b ≡ t → NoBlank (before_blank bs)
    → NoBlank (before_blank (b ∷ bs))
before_step b bs true e h = rw e tt
before_step b bs false e h = rw e ((λ z. false≢true (sym e ∙ eq-eqb b 32 z)), h)

pub before_blank-no_blank : (text : List ℕ) → NoBlank (before_blank text)
before_blank-no_blank [] = tt
before_blank-no_blank (b ∷ bs) = before_step b bs (is_blank b) refl (before_blank-no_blank bs)

abbrev Leading : List ℕ → Type 0
Leading text = (blanks : List ℕ) × AllBlank blanks × (text ≡ blanks ++ after_blanks text)

leading_step : (b : ℕ) (bs : List ℕ) (t : Bool) → is_blank b ≡ t → Leading bs → Leading (b ∷ bs)
leading_step b bs true e w = (b ∷ w.0, (eqb-true b 32 e, w.1), ap (λ l. b ∷ l) w.2 ∙ rw e refl)
leading_step b bs false e w = ([], tt, rw e refl)

pub leading : (text : List ℕ) → Leading text
leading [] = ([], tt, refl)
leading (b ∷ bs) = leading_step b bs (is_blank b) refl (leading bs)

pub ends-blank : (b : ℕ) (bs : List ℕ) → IsTrue (field_ends (b ∷ bs)) → b ≡ 32
ends-blank b bs e = eqb-true b 32 e

-- sized texts

of_size-some : (o : Option ℕ) (after bytes : List ℕ) → of_size o after ≡ Some bytes → IsTrue (field_ends after)
    → (o ≡ Some (length bytes)) × (after ≡ 32 ∷ bytes)
of_size-some None after bytes e ends = absurd (cc)
of_size-some (Some n) [] bytes e ends = absurd (cc)
of_size-some (Some n) (b ∷ rest) bytes e ends = by (eqb_tells (length rest) n)
  where
    by : ((eqb (length rest) n ≡ true) × (length rest ≡ n)) ⊎ ((eqb (length rest) n ≡ false) × (length rest ≢ n))
        → (Some n ≡ Some (length bytes)) × (b ∷ rest ≡ 32 ∷ bytes)
    by (inl w) =
        let same : rest ≡ bytes =
        (let f = rw w.0 at e in cc) in (ap Some (sym w.1 ∙ ap length same), (λ i. ends-blank b rest ends i ∷ same i))
    by (inr w) = let f = rw w.0 at e in absurd (cc)

pub sized_text-some : (plain bytes : List ℕ) → sized_text plain ≡ Some bytes → IsSizedText plain bytes
unfolding sized_text
sized_text-some plain bytes e =
    let w = of_size-some (parsed_hex (before_blank plain)) (from_blank plain) bytes e (from_blank-ends plain) in
    (before_blank plain, w.0, sym (before_blank-from_blank plain) ∙ ap (λ l. before_blank plain ++ l) w.1)

pub sized_text-is : (plain bytes : List ℕ) → IsSizedText plain bytes → sized_text plain ≡ Some bytes
unfolding sized_text
sized_text-is plain bytes w =
    let none = number-no_blank w.0 (length bytes) w.1 in
    let front : before_blank plain ≡ w.0 = ap before_blank w.2 ∙ before_blank-at w.0 (32 ∷ bytes) none refl in
    let back : from_blank plain ≡ 32 ∷ bytes = ap from_blank w.2 ∙ from_blank-at w.0 (32 ∷ bytes) none refl in
    rw (front, back, w.1, eq-eqb (length bytes) (length bytes) refl) refl

text_by : (plain : List ℕ) (o : Option (List ℕ)) → sized_text plain ≡ o → IsText 3 plain (unwrap_or o plain)
text_by plain None e = inr ((λ z other w. let f = sized_text-is plain other w in absurd (cc)), refl)
text_by plain (Some bytes) e = inl (refl, sized_text-some plain bytes e)

text_of_version : (version : ℕ) (plain : List ℕ)
    → ((eqb version 3 ≡ true) × (version ≡ 3)) ⊎ ((eqb version 3 ≡ false) × (version ≢ 3))
    → IsText version plain (text_of version plain)
unfolding text_of
text_of_version version plain (inl w) = rw (w.0, w.1) (text_by plain (sized_text plain) refl)
text_of_version version plain (inr w) = rw w.0 (inr ((λ z. absurd (w.1 z)), refl))

-- the text of a plain text is its text
pub text_of-IsText : (version : ℕ) (plain : List ℕ) → IsText version plain (text_of version plain)
text_of-IsText version plain = text_of_version version plain (eqb_tells version 3)

text_of_none : (plain bytes : List ℕ) (o : Option (List ℕ)) → sized_text plain ≡ o
    → ((other : List ℕ) → ¬ IsSizedText plain other) → bytes ≡ plain → unwrap_or o plain ≡ bytes
text_of_none plain bytes None e never same = sym same
text_of_none plain bytes (Some other) e never same = absurd (never other (sized_text-some plain other e))

plain_by : (version : ℕ) (plain bytes : List ℕ)
    → ((eqb version 3 ≡ true) × (version ≡ 3)) ⊎ ((eqb version 3 ≡ false) × (version ≢ 3))
    → (version ≡ 3 → (other : List ℕ) → ¬ IsSizedText plain other) → bytes ≡ plain → text_of version plain ≡ bytes
unfolding text_of
plain_by version plain bytes (inl v) never same =
    rw v.0 (text_of_none plain bytes (sized_text plain) refl (never v.1) same)
plain_by version plain bytes (inr v) never same = rw v.0 (sym same)

pub text_of-is : (version : ℕ) (plain bytes : List ℕ) → IsText version plain bytes → text_of version plain ≡ bytes
unfolding text_of
text_of-is version plain bytes (inl w) = rw (eq-eqb version 3 w.0, sized_text-is plain bytes w.1) refl
text_of-is version plain bytes (inr w) = plain_by version plain bytes (eqb_tells version 3) w.0 w.1
