-- What is known of the texts of numbers, and of fields that are numbers.
use Rattle.std.proofs.Common.{◌≡◌, ◌≢◌, ℕ, ◌<◌, Bool, true, false, cond, List, [], ◌∷◌, length, map, Some, None, refl}
use Rattle.std.proofs.Common.{sym, ap, ◌∙◌, arith}
use Rattle.std.specs.Prelude.{is_some}
use Rattle.std.specs.List.{AllByRecursion, list_all}
use Rattle.std.specs.Char.{is_digit}
use Rattle.std.proofs.lemmas.Bool.{false≢true}
use Rattle.hp_num.specs.Numeral.{is_numeral}
use Rattle.hp_num.specs.ParsedHex.{parsed_hex}
use Rattle.ht_lines.specs.Fields.{AreNumbers, all_numbers, number}
use Rattle.ht_lines.specs.Refuses.{AreNoNumbers}
use Rattle.hp_num.proofs.Laws.{and-true}
use Rattle.ht_lines.proofs.FieldLemmas.{some-number}

-- no bytes are no number
pub parsed_nothing : parsed_hex [] ≡ None
unfolding parsed_hex
parsed_nothing = refl

taken : (t : Bool) (n m : ℕ) → cond t (Some n) None ≡ Some m → t ≡ true
taken true n m e = refl
taken false n m e = absurd (cc)

digits-no_blank : (text : List ℕ) → list_all (λ b. is_digit b 16) text ≡ true → AllByRecursion (λ b. b ≢ 32) text
digits-no_blank [] e = tt
digits-no_blank (b ∷ bs) e =
    let both = and-true (is_digit b 16) (list_all (λ b. is_digit b 16) bs) e in
    let blank : is_digit 32 16 ≡ false = refl in
    ((λ z. false≢true (sym blank ∙ ap (λ k. is_digit k 16) (sym z) ∙ both.0)), digits-no_blank bs both.1)

-- the text of a number has a byte, and no blank
pub number-no_blank : (text : List ℕ) (n : ℕ) → parsed_hex text ≡ Some n → AllByRecursion (λ b. b ≢ 32) text
unfolding parsed_hex
number-no_blank text n e =
    let test = taken (is_numeral 16 16 text) _ n e in
    digits-no_blank text (and-true _ (list_all (λ b. is_digit b 16) text) test).1

pub number-not_empty : (text : List ℕ) (n : ℕ) → parsed_hex text ≡ Some n → 0 < length text
number-not_empty [] n e = let none = parsed_nothing in absurd (cc)
number-not_empty (b ∷ bs) n e = omega arith

-- fields that are numbers

pub AreNumbers-all : (fs : List (List ℕ)) (ns : List ℕ) → AreNumbers fs ns → all_numbers fs ≡ true
AreNumbers-all [] ns e = refl
AreNumbers-all (f ∷ fs) [] e = absurd (cc)
AreNumbers-all (f ∷ fs) (n ∷ ns) e =
    let head : parsed_hex f ≡ Some n = cc in
    let tail : map parsed_hex fs ≡ map Some ns = cc in
    rw head (AreNumbers-all fs ns tail)

pub AreNumbers-number : (fs : List (List ℕ)) (ns : List ℕ) → AreNumbers fs ns → map number fs ≡ ns
AreNumbers-number [] [] e = refl
AreNumbers-number [] (n ∷ ns) e = absurd (cc)
AreNumbers-number (f ∷ fs) [] e = absurd (cc)
AreNumbers-number (f ∷ fs) (n ∷ ns) e =
    let head : parsed_hex f ≡ Some n = cc in
    let tail : map parsed_hex fs ≡ map Some ns = cc in
    rw (head, AreNumbers-number fs ns tail) refl

pub all-AreNumbers : (fs : List (List ℕ)) → all_numbers fs ≡ true → AreNumbers fs (map number fs)
all-AreNumbers [] e = refl
all-AreNumbers (f ∷ fs) e =
    let both = and-true (is_some (parsed_hex f)) (all_numbers fs) e in
    λ i. some-number (parsed_hex f) both.0 i ∷ all-AreNumbers fs both.1 i

pub not_all-AreNoNumbers : (fs : List (List ℕ)) → all_numbers fs ≡ false → AreNoNumbers fs
not_all-AreNoNumbers fs e ns a = false≢true (sym e ∙ AreNumbers-all fs ns a)

pub AreNoNumbers-not_all : (fs : List (List ℕ)) → AreNoNumbers fs → all_numbers fs ≡ false
AreNoNumbers-not_all fs never = either (all_numbers fs) refl
  where
    either : (t : Bool) → all_numbers fs ≡ t → t ≡ false
    either true e = absurd (never (map number fs) (all-AreNumbers fs e))
    either false e = refl

pub AreNumbers-length : (fs : List (List ℕ)) (ns : List ℕ) → AreNumbers fs ns → length fs ≡ length ns
AreNumbers-length [] [] e = refl
AreNumbers-length [] (n ∷ ns) e = absurd (cc)
AreNumbers-length (f ∷ fs) [] e = absurd (cc)
AreNumbers-length (f ∷ fs) (n ∷ ns) e =
    let tail : map parsed_hex fs ≡ map Some ns = cc in omega (arith, AreNumbers-length fs ns tail)

-- fields are one list of numbers at most
pub AreNumbers-unique : (fs : List (List ℕ)) (ms ns : List ℕ) → AreNumbers fs ms → AreNumbers fs ns → ms ≡ ns
AreNumbers-unique fs ms ns a b = sym (AreNumbers-number fs ms a) ∙ AreNumbers-number fs ns b
