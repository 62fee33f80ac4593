-- The fields of a text, taken off one at a time from the front.
use Rattle.std.proofs.Common.{◌≡◌, ℕ, suc, ◌+◌, ◌<◌, ◌≤◌, Bool, true, false, cond, eqb, ltb, List, [], ◌∷◌, ◌++◌}
use Rattle.std.proofs.Common.{length, take, drop, refl, sym, ap, ◌∙◌, subst, arith, Option, Some, None, IsTrue}
use Rattle.std.proofs.Common.{length-append, zero, map}
use Rattle.std.specs.Prelude.{filter, unwrap_or, is_some, slice_get, IfNone}
use Rattle.std.specs.Option.{option_and_then}
use Rattle.std.proofs.lemmas.Bool.{false≢true}
use Rattle.std.proofs.lemmas.List.{length-map}
use Rattle.hp_num.specs.ParsedHex.{parsed_hex}
use Rattle.std.specs.List.{slice_split, onto_first, position, position_or_len}
use borrow.Author.Tests.{eqb-true, lt-ltb, ltb-false}
use Rattle.hp_num.proofs.Laws.{and-true}
use Rattle.ht_lines.specs.Fields.{is_blank, fields, after_blanks, before_blank, from_blank, first_field, after_field}
use Rattle.ht_lines.specs.Fields.{field_ends, all_numbers, number, numbers}

one-add : (n : ℕ) → 1 + n ≡ suc n
one-add n = omega arith

-- at the first byte, which is a blank or not

module _ (b : ℕ) (bs : List ℕ) where
  take-step : (t : Bool) → is_blank b ≡ t → take (position_or_len is_blank bs) bs ≡ before_blank bs
      → take (position_or_len is_blank (b ∷ bs)) (b ∷ bs) ≡ before_blank (b ∷ bs)
  take-step true e h = rw e refl
  take-step false e h = rw e (rw one-add (ap (λ l. b ∷ l) h))

  drop-step : (t : Bool) → is_blank b ≡ t → drop (position_or_len is_blank bs) bs ≡ from_blank bs
      → drop (position_or_len is_blank (b ∷ bs)) (b ∷ bs) ≡ from_blank (b ∷ bs)
  drop-step true e h = rw e refl
  drop-step false e h = rw e (rw one-add h)

  within-step : (t : Bool) → is_blank b ≡ t → position_or_len is_blank bs ≤ length bs
      → position_or_len is_blank (b ∷ bs) ≤ length (b ∷ bs)
  within-step true e h = rw e (omega arith)
  within-step false e h = rw e (omega arith)

  ends-step : (t : Bool) → is_blank b ≡ t → IsTrue (field_ends (from_blank bs))
      → IsTrue (field_ends (from_blank (b ∷ bs)))
  ends-step true e h = rw e e
  ends-step false e h = rw e h

  join-step : (t : Bool) → is_blank b ≡ t → before_blank bs ++ from_blank bs ≡ bs
      → before_blank (b ∷ bs) ++ from_blank (b ∷ bs) ≡ b ∷ bs
  join-step true e h = rw e refl
  join-step false e h = rw e (ap (λ l. b ∷ l) h)

take-first_blank : (text : List ℕ) → take (position_or_len is_blank text) text ≡ before_blank text
take-first_blank [] = refl
take-first_blank (b ∷ bs) = take-step b bs (is_blank b) refl (take-first_blank bs)

drop-first_blank : (text : List ℕ) → drop (position_or_len is_blank text) text ≡ from_blank text
drop-first_blank [] = refl
drop-first_blank (b ∷ bs) = drop-step b bs (is_blank b) refl (drop-first_blank bs)

place_within : (text : List ℕ) → position_or_len is_blank text ≤ length text
place_within [] = omega arith
place_within (b ∷ bs) = within-step b bs (is_blank b) refl (place_within bs)

-- before the first blank, and from it on

pub from_blank-ends : (text : List ℕ) → IsTrue (field_ends (from_blank text))
from_blank-ends [] = refl
from_blank-ends (b ∷ bs) = ends-step b bs (is_blank b) refl (from_blank-ends bs)

pub before_blank-from_blank : (text : List ℕ) → before_blank text ++ from_blank text ≡ text
before_blank-from_blank [] = refl
before_blank-from_blank (b ∷ bs) = join-step b bs (is_blank b) refl (before_blank-from_blank bs)

place_or_end : (text : List ℕ) (t : Bool) → ltb (position_or_len is_blank text) (length text) ≡ t
    → unwrap_or (cond t (Some (position_or_len is_blank text)) None) (length text) ≡ position_or_len is_blank text
place_or_end text true e = refl
place_or_end text false e = omega (arith, place_within text, ltb-false (position_or_len is_blank text) (length text) e)

-- the place where a text is split at its first blank
pub end-position : (text : List ℕ) (o : Option ℕ) (end : ℕ) → o ≡ position is_blank text
    → end ≡ unwrap_or o (length text) → end ≡ position_or_len is_blank text
end-position text o end p q =
    q ∙ ap (λ k. unwrap_or k (length text)) p
    ∙ place_or_end text (ltb (position_or_len is_blank text) (length text)) refl

pub take-end : (text : List ℕ) (end : ℕ) → end ≡ position_or_len is_blank text → take end text ≡ before_blank text
take-end text end e = ap (λ k. take k text) e ∙ take-first_blank text

pub drop-end : (text : List ℕ) (end : ℕ) → end ≡ position_or_len is_blank text → drop end text ≡ from_blank text
drop-end text end e = ap (λ k. drop k text) e ∙ drop-first_blank text

-- the pieces after the first

later_pieces : List ℕ → List (List ℕ)
later_pieces [] = []
later_pieces (b ∷ bs) = slice_split is_blank bs

abbrev kept : List (List ℕ) → List (List ℕ)
kept pieces = filter (λ piece. ltb 0 (length piece)) pieces

split-step : (b : ℕ) (bs : List ℕ) (t : Bool) → is_blank b ≡ t
    → slice_split is_blank bs ≡ before_blank bs ∷ later_pieces (from_blank bs)
    → slice_split is_blank (b ∷ bs) ≡ before_blank (b ∷ bs) ∷ later_pieces (from_blank (b ∷ bs))
unfolding later_pieces
split-step b bs true e h = rw e refl
split-step b bs false e h = rw e (ap (λ l. onto_first b l) h)

split-first : (text : List ℕ) → slice_split is_blank text ≡ before_blank text ∷ later_pieces (from_blank text)
unfolding later_pieces
split-first [] = refl
split-first (b ∷ bs) = split-step b bs (is_blank b) refl (split-first bs)

pub fields-blank : (b : ℕ) (bs : List ℕ) → IsTrue (is_blank b) → fields (b ∷ bs) ≡ fields bs
unfolding fields
fields-blank b bs e = rw e refl

later-fields : (text : List ℕ) → IsTrue (field_ends text) → kept (later_pieces text) ≡ fields text
unfolding later_pieces fields
later-fields [] e = refl
later-fields (b ∷ bs) e = sym (fields-blank b bs e)

fields-nil : fields [] ≡ []
unfolding fields
fields-nil = refl

pub fields-after_blanks : (text : List ℕ) → fields text ≡ fields (after_blanks text)
fields-after_blanks [] = refl
fields-after_blanks (b ∷ bs) = either (is_blank b) refl (fields-after_blanks bs)
  where
    either : (t : Bool) → is_blank b ≡ t → fields bs ≡ fields (after_blanks bs)
        → fields (b ∷ bs) ≡ fields (after_blanks (b ∷ bs))
    either true e h = rw e (fields-blank b bs e ∙ h)
    either false e h = rw e refl

-- a text that begins with another byte than a blank
pub fields-before_blank : (text : List ℕ) → 0 < length (before_blank text)
    → fields text ≡ before_blank text ∷ fields (from_blank text)
unfolding fields
fields-before_blank text some =
    let test : ltb 0 (length (before_blank text)) ≡ true = lt-ltb 0 (length (before_blank text)) some in
    ap kept (split-first text)
    ∙ rw test (ap (λ l. before_blank text ∷ l) (later-fields (from_blank text) (from_blank-ends text)))

pub first_field-some : (text : List ℕ) → 0 < length (after_blanks text) → 0 < length (first_field text)
first_field-some [] some = absurd (omega arith)
first_field-some (b ∷ bs) some = either (is_blank b) refl (λ h. first_field-some bs h) some
  where
    either : (t : Bool) → is_blank b ≡ t → (0 < length (after_blanks bs) → 0 < length (first_field bs))
        → 0 < length (after_blanks (b ∷ bs)) → 0 < length (before_blank (after_blanks (b ∷ bs)))
    either true e h some = rw e (h (rw e at some))
    either false e h some = rw (e, e) (omega arith)

-- the first field and the others
pub fields-some : (text : List ℕ) → 0 < length (after_blanks text)
    → fields text ≡ first_field text ∷ fields (after_field text)
fields-some text some = fields-after_blanks text ∙ fields-before_blank (after_blanks text) (first_field-some text some)

pub fields-none : (text : List ℕ) → after_blanks text ≡ [] → fields text ≡ []
fields-none text e = fields-after_blanks text ∙ ap fields e ∙ fields-nil

pub length-after_field : (text : List ℕ) → 0 < length (after_blanks text)
    → length (after_field text) < length (after_blanks text)
length-after_field text some =
    omega (
      arith,
      first_field-some text some,
      length-append (first_field text) (after_field text),
      ap length (before_blank-from_blank (after_blanks text)),
    )

-- the same with the bytes that are left after the blanks

pub no_bytes : (xs : List ℕ) → eqb (length xs) 0 ≡ true → xs ≡ []
no_bytes [] e = refl
no_bytes (x ∷ xs) e = absurd (omega (arith, eqb-true (length (x ∷ xs)) 0 e))

some_bytes : (xs : List ℕ) → eqb (length xs) 0 ≡ false → 0 < length xs
some_bytes [] e = let f : eqb (length {A = ℕ} []) 0 ≡ true = refl in absurd (cc)
some_bytes (x ∷ xs) e = omega arith

pub next-no_field : (text rest : List ℕ) → rest ≡ after_blanks text → eqb (length rest) 0 ≡ true → first_field text ≡ []
next-no_field text rest e test = ap before_blank (sym e ∙ no_bytes rest test)

pub next-none : (text rest : List ℕ) → rest ≡ after_blanks text → eqb (length rest) 0 ≡ true → fields text ≡ []
next-none text rest e test = fields-none text (sym e ∙ no_bytes rest test)

module _ (text rest field after : List ℕ) (e : rest ≡ after_blanks text) (test : eqb (length rest) 0 ≡ false)
    (before : field ≡ before_blank rest) (from : after ≡ from_blank rest) where
  pub next-some : fields text ≡ field ∷ fields after
  next-some =
      fields-some text (subst (λ l. 0 < length l) e (some_bytes rest test))
      ∙ (λ i. (ap before_blank (sym e) ∙ sym before) i ∷ fields ((ap from_blank (sym e) ∙ sym from) i))

  pub next-not_empty : 0 < length field
  next-not_empty =
      omega (
        arith,
        first_field-some text (subst (λ l. 0 < length l) e (some_bytes rest test)),
        ap length (before ∙ ap before_blank e),
      )

  pub next-shorter : length rest ≤ length text → length after < length text
  next-shorter h =
      omega (
        arith,
        length-after_field text (subst (λ l. 0 < length l) e (some_bytes rest test)),
        ap length e,
        ap length (from ∙ ap from_blank e),
      )

-- a text has at most as many fields as bytes

fewer-kept : (p : List ℕ) (ps : List (List ℕ)) (t : Bool) → length (kept ps) ≤ length (cond t (p ∷ kept ps) (kept ps))
fewer-kept p ps true = omega arith
fewer-kept p ps false = omega arith

length-onto : (b : ℕ) (pieces : List (List ℕ)) → length (kept (onto_first b pieces)) ≤ suc (length (kept pieces))
length-onto b [] = let test : ltb 0 1 ≡ true = refl in omega arith
length-onto b (p ∷ ps) =
    let test : ltb 0 (length (b ∷ p)) ≡ true = lt-ltb 0 (length (b ∷ p)) (omega arith) in
    rw test (omega (arith, fewer-kept p ps (ltb 0 (length p))))

length-step : (b : ℕ) (bs : List ℕ) (t : Bool) → is_blank b ≡ t → length (kept (slice_split is_blank bs)) ≤ length bs
    → length (kept (slice_split is_blank (b ∷ bs))) ≤ length (b ∷ bs)
length-step b bs true e h = rw e (omega arith)
length-step b bs false e h = rw e (omega (arith, length-onto b (slice_split is_blank bs)))

length-kept : (text : List ℕ) → length (kept (slice_split is_blank text)) ≤ length text
length-kept [] = omega arith
length-kept (b ∷ bs) = length-step b bs (is_blank b) refl (length-kept bs)

pub length-fields : (text : List ℕ) → length (fields text) ≤ length text
unfolding fields
length-fields text = length-kept text

-- fields that are all numbers

pub some-number : (o : Option ℕ) → IsTrue (is_some o) → o ≡ Some (unwrap_or o 0)
some-number (Some n) e = refl
some-number None e = absurd (cc)

-- the number of a field, sought among the fields or among their numbers
pub number_at : (fs : List (List ℕ)) (k : ℕ) → IsTrue (all_numbers fs)
    → option_and_then parsed_hex (slice_get fs k) ≡ slice_get (map number fs) k
number_at [] k h = refl
number_at (f ∷ fs) zero h = some-number (parsed_hex f) (and-true _ _ h).0
number_at (f ∷ fs) (suc k) h = number_at fs k (and-true (is_some (parsed_hex f)) _ h).1

-- as many numbers as fields
pub length_numbers : (text : List ℕ) → length (numbers text) ≡ length (fields text)
length_numbers text = length-map (fields text) number

-- what holds where no further field is found, when none was
pub where_none : {X : Type 0} (found : Option X) (P : Type 0) → false ≡ is_some found → IfNone found P → P
where_none None P none holds = holds
where_none (Some x) P none holds = absurd (false≢true none)
