-- The written form of a line about modules is no longer than the line.
use Rattle.std.proofs.Common.{◌≡◌, ◌≢◌, ℕ, zero, suc, ◌+◌, ◌/◌, ◌%◌, ◌^◌, ◌<◌, ◌≤◌, ◌&&◌, Bool, true, false, cond, eqb}
use Rattle.std.proofs.Common.{eq-eqb, nat_lt, nat_le, ltb-true, true≢false, List, [], ◌∷◌, ◌++◌, length, map, Some}
use Rattle.std.proofs.Common.{IsTrue, inl, inr, refl, sym, ap, ◌∙◌, subst, arith, length-append}
use Rattle.std.specs.Prelude.{codes, filter}
use Rattle.std.specs.Char.{digit_value, is_digit}
use Rattle.std.specs.Fmt.{digits, digits_onto, digit_glyph}
use Rattle.std.specs.List.{AllByRecursion, list_all, onto_first, slice_split}
use Rattle.std.specs.Str.Parse.{AllDigits, digits_value}
use Rattle.std.proofs.lemmas.Int.Digits.{digits_value-lt}
use Rattle.std.proofs.lemmas.Option.{cond_some}
use Rattle.hp_num.specs.Hexadecimal.{hexadecimal}
use Rattle.hp_num.specs.Numeral.{is_numeral}
use Rattle.hp_num.specs.ParsedHex.{parsed_hex}
use Rattle.hp_num.proofs.Laws.{and-true}
use Rattle.ht_lines.specs.Content.{Content, clear_line, module_line}
use Rattle.ht_lines.specs.Fields.{AreNumbers, field_ends, fields, is_blank}
use Rattle.ht_lines.specs.Kinds.{IsOfKind, after_kind}
use Rattle.ht_lines.specs.ModuleName.{IsModuleName, IsPlainName}
use Rattle.ht_lines.specs.Reads.{Reads}
use Rattle.ht_lines.specs.Written.{spelled, written}
use Rattle.ht_lines.specs.declared.item.Form.TheVariants.{Raw}
use Rattle.record_scripts.specs.ModuleLine.{is_module}

-- a number below 16 ^ k has at most k digits
onto-length : (most k n : ℕ) (rest : List ℕ) → 0 < k → n < 16 ^ k
    → length (digits_onto most 16 false n rest) ≤ k + length rest
onto-length zero k n rest some fits = omega arith
onto-length (suc most) zero n rest some fits = absurd (omega (arith, some))
onto-length (suc most) (suc zero) n rest some fits = by (eqb (n / 16) 0) (eq-eqb (n / 16) 0 (omega (arith, fits)))
  where
    by : (t : Bool) → t ≡ true
        → length
        (cond t (digit_glyph false (n % 16) ∷ rest)
        (digits_onto most 16 false (n / 16) (digit_glyph false (n % 16) ∷ rest)))
        ≤ 1 + length rest
    by true p = omega arith
    by false p = absurd (true≢false (sym p))
onto-length (suc most) (suc (suc k)) n rest some fits =
    by (eqb (n / 16) 0)
    (onto-length most (suc k) (n / 16) (digit_glyph false (n % 16) ∷ rest) (omega arith) (omega (arith, fits)))
  where
    by : (t : Bool)
        → length (digits_onto most 16 false (n / 16) (digit_glyph false (n % 16) ∷ rest))
        ≤ suc k + length (digit_glyph false (n % 16) ∷ rest)
        → length
        (cond t (digit_glyph false (n % 16) ∷ rest)
        (digits_onto most 16 false (n / 16) (digit_glyph false (n % 16) ∷ rest)))
        ≤ suc (suc k) + length rest
    by true more = omega arith
    by false more = omega (arith, more)

hex-length : (k n : ℕ) → 0 < k → n < 16 ^ k → length (hexadecimal n) ≤ k
unfolding digits
hex-length k n some fits = let most = onto-length 64 k n [] some fits in omega (arith, most)

-- no text of a number is shorter than its shortest
all-digits : (ds : List ℕ) → list_all (λ b. is_digit b 16) ds ≡ true → AllDigits 16 ds
all-digits [] is = tt
all-digits (d ∷ ds) is =
    let both = and-true (is_digit d 16) (list_all (λ b. is_digit b 16) ds) is in
    (ltb-true (digit_value d) 16 both.0, all-digits ds both.1)

shortest : (text : List ℕ) (n : ℕ) → parsed_hex text ≡ Some n → length (hexadecimal n) ≤ length text
unfolding parsed_hex
shortest text n is =
    let found = cond_some (is_numeral 16 16 text) (digits_value 16 text) n is in
    let parts =
    and-true (nat_lt 0 (length text) && nat_le (length text) 16) (list_all (λ b. is_digit b 16) text) found.0 in
    let some = and-true (nat_lt 0 (length text)) (nat_le (length text) 16) parts.0 in
    hex-length (length text) n (ltb-true 0 (length text) some.0)
    (subst (λ (v : ℕ). v < 16 ^ length text) found.1 (digits_value-lt 16 text (all-digits text parts.1)))

-- the bytes of fields, each with one before it
abbrev room : List (List ℕ) → ℕ
room [] = 0
room (field ∷ more) = 1 + length field + room more

spelled-room : (fs : List (List ℕ)) (ns : List ℕ) → AreNumbers fs ns → length (spelled ns) ≤ room fs
spelled-room [] [] are = omega arith
spelled-room [] (n ∷ ns) are = absurd (cc)
spelled-room (f ∷ fs) [] are = absurd (cc)
spelled-room (f ∷ fs) (n ∷ ns) are =
    let head : parsed_hex f ≡ Some n = cc in
    let tail : map parsed_hex fs ≡ map Some ns = cc in
    let one = shortest f n head in
    let rest = spelled-room fs ns tail in
    omega (arith, one, rest, length-append (hexadecimal n) (spelled ns))

abbrev kept : List (List ℕ) → List (List ℕ)
kept pieces = filter (λ piece. nat_lt 0 (length piece)) pieces

kept-room : (pieces : List (List ℕ)) → room (kept pieces) ≤ room pieces
kept-room [] = omega arith
kept-room (piece ∷ pieces) = by (nat_lt 0 (length piece)) (kept-room pieces)
  where
    by : (t : Bool) → room (kept pieces) ≤ room pieces
        → room (cond t (piece ∷ kept pieces) (kept pieces)) ≤ room (piece ∷ pieces)
    by true rest = omega (arith, rest)
    by false rest = omega (arith, rest)

split-room : (text : List ℕ) → room (slice_split is_blank text) ≡ length text + 1
split-room [] = omega arith
split-room (b ∷ bs) = by (is_blank b) (slice_split is_blank bs) (split-room bs)
  where
    by : (t : Bool) (parts : List (List ℕ)) → room parts ≡ length bs + 1
        → room (cond t ([] ∷ parts) (onto_first b parts)) ≡ length (b ∷ bs) + 1
    by true parts is = omega (arith, is)
    by false [] is = absurd (omega (arith, is))
    by false (part ∷ parts) is = omega (arith, is)

fields-room : (text : List ℕ) → IsTrue (field_ends text) → room (fields text) ≤ length text
unfolding fields
fields-room [] ends = omega arith
fields-room (b ∷ bs) ends = by (is_blank b) ends
  where
    by : (t : Bool) → t ≡ true
        → room (kept (cond t ([] ∷ slice_split is_blank bs) (onto_first b (slice_split is_blank bs)))) ≤ length (b ∷ bs)
    by true p = let some = kept-room (slice_split is_blank bs) in omega (arith, some, split-room bs)
    by false p = absurd (true≢false (sym p))

-- before the name there is a blank
some-blank : (c : ℕ) (rest blanks name tail : List ℕ) → c ≡ 32 → 0 < length name → AllByRecursion (λ b. b ≢ 32) name
    → c ∷ rest ≡ blanks ++ (name ++ tail) → 1 ≤ length blanks
some-blank c rest (x ∷ blanks) name tail is some none bytes = omega arith
some-blank c rest [] [] tail is some none bytes = absurd (omega (arith, some))
some-blank c rest [] (x ∷ name) tail is some none bytes = let head : c ≡ x = cc in absurd (none.0 (sym head ∙ is))

named : (line name tail : List ℕ) → IsOfKind 109 line → IsPlainName (after_kind line) name tail
    → 2 + length name + length tail ≤ length line
named [] name tail kind plain = absurd kind
named (b ∷ []) name tail kind plain =
    let some = plain.not_empty in
    absurd (omega
    (arith, some, ap length plain.bytes, length-append plain.blanks (name ++ tail), length-append name tail))
named (b ∷ c ∷ rest) name tail kind plain =
    let one = some-blank c rest plain.blanks name tail kind.1 plain.not_empty plain.no_blank plain.bytes in
    omega (arith, one, ap length plain.bytes, length-append plain.blanks (name ++ tail), length-append name tail)

plain-name : (rest name tail : List ℕ) → IsModuleName 2 rest name tail → IsPlainName rest name tail
plain-name rest name tail (inl sized) = absurd (omega (arith, sized.0))
plain-name rest name tail (inr plain) = plain.1

pub module-length : (line : List ℕ) (said : Content) → Reads Raw 2 line said → is_module said ≡ true
    → length (written 2 said) ≤ length line
module-length line (module_line name start ranges) reads is =
    let tail = reads.1.0 in
    let plain = plain-name (after_kind line) name tail reads.1.1 in
    let fits = named line name tail reads.0 plain in
    let numbers = spelled-room (fields tail) (start ∷ ranges) reads.1.2 in
    let some = fields-room tail plain.ends in
    omega (arith, fits, numbers, some, length-append name (spelled (start ∷ ranges)))
module-length line clear_line reads is =
    let fits =
    named line (codes "-") reads.1.0 reads.0 (plain-name (after_kind line) (codes "-") reads.1.0 reads.1.1) in
    let one : length (codes "-") ≡ 1 = refl in
    let three : length (written 2 clear_line) ≡ 3 = refl in
    omega (arith, fits, one, three)
module-length line _ reads is = absurd (true≢false (sym is))
