-- The names of modules: what the functions give is what the relations say.
use Rattle.std.proofs.Common.{◌≡◌, ◌≢◌, ℕ, Bool, true, false, cond, eqb, leb, List, [], ◌∷◌, ◌++◌, length, take, drop}
use Rattle.std.proofs.Common.{Option, Some, None, IsTrue, refl, sym, ap, ◌∙◌, subst, inl, inr, arith, ◌⊎◌}
use Rattle.std.proofs.Common.{length-append, length-take}
use Rattle.std.specs.Option.{option_or}
use Rattle.std.proofs.lemmas.Bool.{le-leb, leb-true}
use Rattle.std.proofs.lemmas.Bool.Decides.{eqb_tells}
use Rattle.std.proofs.lemmas.List.{take-append-drop}
use Rattle.std.proofs.Math.Seq.{take-append_seam, drop-append_seam}
use borrow.Author.Tests.{eq-eqb, ne_eqb}
use Rattle.hp_num.specs.ParsedHex.{parsed_hex}
use Rattle.ht_lines.specs.Fields.{fields, after_blanks, before_blank, first_field, after_field, field_ends}
use Rattle.ht_lines.specs.ModuleName.{IsSizedName, IsPlainName, IsModuleName, of_size_in, sized_name, plain_name}
use Rattle.ht_lines.specs.ModuleName.{module_name}
use Rattle.ht_lines.proofs.FieldLemmas.{from_blank-ends, before_blank-from_blank, fields-some, fields-none}
use Rattle.ht_lines.proofs.FieldLemmas.{first_field-some}
use Rattle.ht_lines.proofs.NumberLemmas.{parsed_nothing, number-no_blank, number-not_empty}
use Rattle.ht_lines.proofs.TextLemmas.{NoBlank, AllBlank, first_field-at, after_field-at, before_blank-no_blank}
use Rattle.ht_lines.proofs.TextLemmas.{leading, ends-blank}

abbrev Tells : ℕ → ℕ → Type 0
Tells a b = ((eqb a b ≡ true) × (a ≡ b)) ⊎ ((eqb a b ≡ false) × (a ≢ b))

-- every text is blanks, its first field and what follows that
parts : (rest : List ℕ)
    → (blanks : List ℕ) × AllBlank blanks × (rest ≡ blanks ++ (first_field rest ++ after_field rest))
parts rest =
    let w = leading rest in (w.0, w.1, w.2 ∙ ap (λ l. w.0 ++ l) (sym (before_blank-from_blank (after_blanks rest))))

-- plain names

pub plain_name-some : (rest name tail : List ℕ) → plain_name rest ≡ Some (name, tail) → IsPlainName rest name tail
unfolding plain_name
plain_name-some rest name tail e = by (eqb_tells (length (first_field rest)) 0)
  where
    by : Tells (length (first_field rest)) 0 → IsPlainName rest name tail
    by (inl w) = let f = rw w.0 at e in absurd (cc)
    by (inr w) =
        let f = rw w.0 at e in
        let pair : ◌≡◌ {A = List ℕ × List ℕ} (first_field rest, after_field rest) (name, tail) = cc in
        let front : first_field rest ≡ name = ap (λ (x : List ℕ × List ℕ). x.0) pair in
        let back : after_field rest ≡ tail = ap (λ (x : List ℕ × List ℕ). x.1) pair in
        let p = parts rest in
        record {
          blanks = p.0;
          all_blank = p.1;
          not_empty = omega (arith, w.1, ap length front);
          no_blank = subst (λ l. NoBlank l) front (before_blank-no_blank (after_blanks rest));
          bytes = p.2 ∙ (λ i. p.0 ++ (front i ++ back i));
          ends = subst (λ l. IsTrue (field_ends l)) back (from_blank-ends (after_blanks rest));
        }

pub plain_name-is : (rest name tail : List ℕ) → IsPlainName rest name tail → plain_name rest ≡ Some (name, tail)
unfolding plain_name
plain_name-is rest name tail p =
    let front : first_field rest ≡ name =
    ap first_field p.bytes ∙ first_field-at p.blanks name tail p.all_blank p.not_empty p.no_blank p.ends in
    let back : after_field rest ≡ tail =
    ap after_field p.bytes ∙ after_field-at p.blanks name tail p.all_blank p.not_empty p.no_blank p.ends in
    let some : eqb (length (first_field rest)) 0 ≡ false =
    ne_eqb (length (first_field rest)) 0 (λ z. omega (arith, p.not_empty, ap length front)) in
    rw some (λ i. Some (front i, back i))

-- sized names

of_size_in-some : (o : Option ℕ) (after name tail : List ℕ) → of_size_in o after ≡ Some (name, tail)
    → IsTrue (field_ends after) → (o ≡ Some (length name)) × (after ≡ 32 ∷ (name ++ tail)) × IsTrue (field_ends tail)
of_size_in-some None after name tail e ends = absurd (cc)
of_size_in-some (Some n) [] name tail e ends = absurd (cc)
of_size_in-some (Some n) (b ∷ bytes) name tail e ends = by (leb n (length bytes)) (field_ends (drop n bytes)) refl refl
  where
    by : (s t : Bool) → leb n (length bytes) ≡ s → field_ends (drop n bytes) ≡ t
        → (Some n ≡ Some (length name)) × (b ∷ bytes ≡ 32 ∷ (name ++ tail)) × IsTrue (field_ends tail)
    by true true d f =
        let g = rw (d, f) at e in
        let pair : ◌≡◌ {A = List ℕ × List ℕ} (take n bytes, drop n bytes) (name, tail) = cc in
        let front : take n bytes ≡ name = ap (λ (x : List ℕ × List ℕ). x.0) pair in
        let back : drop n bytes ≡ tail = ap (λ (x : List ℕ × List ℕ). x.1) pair in
        let small = leb-true n (length bytes) d in (
          ap Some (omega (arith, ap length front, length-take n bytes, small)),
          (λ i. ends-blank b bytes ends i ∷ (sym (take-append-drop n bytes) ∙ (λ j. front j ++ back j)) i),
          sym (ap field_ends back) ∙ f,
        )
    by true false d f = let g = rw (d, f) at e in absurd (cc)
    by false t d f = let g = rw d at e in absurd (cc)

pub sized_name-some : (rest name tail : List ℕ) → sized_name rest ≡ Some (name, tail) → IsSizedName rest name tail
unfolding sized_name
sized_name-some rest name tail e =
    let p = parts rest in
    let w =
    of_size_in-some (parsed_hex (first_field rest)) (after_field rest) name tail e
    (from_blank-ends (after_blanks rest)) in
    record {
      blanks = p.0;
      digits = first_field rest;
      all_blank = p.1;
      size = w.0;
      bytes = p.2 ∙ ap (λ l. p.0 ++ (first_field rest ++ l)) w.1;
      ends = w.2;
    }

of_size_in-is : (name tail : List ℕ) → IsTrue (field_ends tail)
    → of_size_in (Some (length name)) (32 ∷ (name ++ tail)) ≡ Some (name, tail)
of_size_in-is name tail ends =
    let small : leb (length name) (length (name ++ tail)) ≡ true =
    le-leb (length name) (length (name ++ tail)) (omega (arith, length-append name tail)) in
    let back : drop (length name) (name ++ tail) ≡ tail = drop-append_seam name tail in
    let over : field_ends (drop (length name) (name ++ tail)) ≡ true = ap field_ends back ∙ ends in
    rw (small, over) (λ i. Some (take-append_seam name tail i, back i))

pub sized_name-is : (rest name tail : List ℕ) → IsSizedName rest name tail → sized_name rest ≡ Some (name, tail)
unfolding sized_name
sized_name-is rest name tail p =
    let some = number-not_empty p.digits (length name) p.size in
    let none = number-no_blank p.digits (length name) p.size in
    let front : first_field rest ≡ p.digits =
    ap first_field p.bytes ∙ first_field-at p.blanks p.digits (32 ∷ (name ++ tail)) p.all_blank some none refl in
    let back : after_field rest ≡ 32 ∷ (name ++ tail) =
    ap after_field p.bytes ∙ after_field-at p.blanks p.digits (32 ∷ (name ++ tail)) p.all_blank some none refl in
    (λ i. of_size_in (parsed_hex (front i)) (back i)) ∙ ap (λ o. of_size_in o (32 ∷ (name ++ tail))) p.size
    ∙ of_size_in-is name tail p.ends

-- names

module_name_3 : (rest name tail : List ℕ) (o : Option (List ℕ × List ℕ)) → sized_name rest ≡ o
    → option_or o (plain_name rest) ≡ Some (name, tail) → IsModuleName 3 rest name tail
module_name_3 rest name tail None e f =
    inr ((λ z n t w. let g = sized_name-is rest n t w in absurd (cc)), plain_name-some rest name tail f)
module_name_3 rest name tail (Some x) e f = inl (refl, sized_name-some rest name tail (e ∙ f))

module_name_by : (version : ℕ) (rest name tail : List ℕ) → Tells version 3
    → module_name version rest ≡ Some (name, tail) → IsModuleName version rest name tail
unfolding module_name
module_name_by version rest name tail (inl v) e =
    rw v.1 (module_name_3 rest name tail (sized_name rest) refl (rw v.0 at e))
module_name_by version rest name tail (inr v) e =
    inr ((λ z. absurd (v.1 z)), plain_name-some rest name tail (rw v.0 at e))

pub module_name-some : (version : ℕ) (rest name tail : List ℕ) → module_name version rest ≡ Some (name, tail)
    → IsModuleName version rest name tail
module_name-some version rest name tail e = module_name_by version rest name tail (eqb_tells version 3) e

not_sized : (rest name tail : List ℕ) (o : Option (List ℕ × List ℕ)) → sized_name rest ≡ o
    → ((n t : List ℕ) → ¬ IsSizedName rest n t) → IsPlainName rest name tail
    → option_or o (plain_name rest) ≡ Some (name, tail)
not_sized rest name tail None e never p = plain_name-is rest name tail p
not_sized rest name tail (Some x) e never p = absurd (never x.0 x.1 (sized_name-some rest x.0 x.1 e))

plain_by : (version : ℕ) (rest name tail : List ℕ) → Tells version 3
    → (version ≡ 3 → (n t : List ℕ) → ¬ IsSizedName rest n t) → IsPlainName rest name tail
    → module_name version rest ≡ Some (name, tail)
unfolding module_name
plain_by version rest name tail (inl v) never p = rw v.0 (not_sized rest name tail (sized_name rest) refl (never v.1) p)
plain_by version rest name tail (inr v) never p = rw v.0 (plain_name-is rest name tail p)

pub module_name-is : (version : ℕ) (rest name tail : List ℕ) → IsModuleName version rest name tail
    → module_name version rest ≡ Some (name, tail)
unfolding module_name
module_name-is version rest name tail (inl w) = rw (eq-eqb version 3 w.0, sized_name-is rest name tail w.1) refl
module_name-is version rest name tail (inr w) = plain_by version rest name tail (eqb_tells version 3) w.0 w.1

-- no name

no_bytes : (xs : List ℕ) → length xs ≡ 0 → xs ≡ []
no_bytes [] e = refl
no_bytes (x ∷ xs) e = absurd (omega arith)

empty_text : (text : List ℕ) → length (first_field text) ≡ 0 → fields text ≡ []
empty_text text e = by (eqb_tells (length (after_blanks text)) 0)
  where
    by : Tells (length (after_blanks text)) 0 → fields text ≡ []
    by (inl w) = fields-none text (no_bytes (after_blanks text) w.1)
    by (inr w) = absurd (omega (arith, first_field-some text (omega (arith, w.1))))

plain_name-none : (rest : List ℕ) → plain_name rest ≡ None → fields rest ≡ []
unfolding plain_name
plain_name-none rest e = by (eqb_tells (length (first_field rest)) 0)
  where
    by : Tells (length (first_field rest)) 0 → fields rest ≡ []
    by (inl w) = empty_text rest w.1
    by (inr w) = let f = rw w.0 at e in absurd (cc)

or_none : {T : Type 0} (o p : Option T) → option_or o p ≡ None → p ≡ None
or_none None p e = e
or_none (Some x) p e = absurd (cc)

pub module_name-none : (version : ℕ) (rest : List ℕ) → module_name version rest ≡ None → fields rest ≡ []
unfolding module_name
module_name-none version rest e = by (eqb version 3) refl
  where
    by : (t : Bool) → eqb version 3 ≡ t → fields rest ≡ []
    by true d = plain_name-none rest (or_none (sized_name rest) (plain_name rest) (rw d at e))
    by false d = plain_name-none rest (rw d at e)

no_first : (text : List ℕ) → fields text ≡ [] → first_field text ≡ []
no_first text e = by (eqb_tells (length (after_blanks text)) 0)
  where
    by : Tells (length (after_blanks text)) 0 → first_field text ≡ []
    by (inl w) = ap before_blank (no_bytes (after_blanks text) w.1)
    by (inr w) = let f = fields-some text (omega (arith, w.1)) in absurd (cc)

pub module_name-nothing : (version : ℕ) (rest : List ℕ) → fields rest ≡ [] → module_name version rest ≡ None
unfolding module_name sized_name plain_name
module_name-nothing version rest e =
    let none = no_first rest e in
    by (eqb version 3) (rw (none, parsed_nothing) refl) (rw none refl)
  where
    by : (t : Bool) → sized_name rest ≡ None → plain_name rest ≡ None
        → cond t (option_or (sized_name rest) (plain_name rest)) (plain_name rest) ≡ None
    by true s p = rw s p
    by false s p = p
