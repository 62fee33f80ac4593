-- Texts without a line feed, and texts of lines.
use Rattle.std.proofs.Common.{◌≡◌, ◌≢◌, ℕ, zero, suc, ◌+◌, ◌%◌, ◌/◌, Bool, true, false, cond, eqb, nat_lt, List, []}
use Rattle.std.proofs.Common.{◌∷◌, ◌++◌, refl, sym, arith, true≢false, ap, ◌∙◌, append_assoc}
use Rattle.std.specs.Fmt.{digits, digits_onto, digit_glyph}
use Rattle.std.proofs.lemmas.Bool.Decides.{nat_tests}
use Rattle.std.proofs.lemmas.List.Elements.{All-append, All-cons, All-nil}
use Rattle.hp_num.specs.Hexadecimal.{hexadecimal}
use Rattle.ht_lines.specs.Written.{spelled}
use Rattle.hp_outside.specs.WholeLines.{IsLineText, text_of_lines}

abbrev NoFeed : ℕ → Type 0
NoFeed b = b ≢ 10

glyph-text : (d : ℕ) → digit_glyph false d ≢ 10
glyph-text d = by (nat_lt d 10)
  where
    by : (t : Bool) → cond t (48 + d) (87 + d) ≢ 10
    by true e = omega (arith, e)
    by false e = omega (arith, e)

onto-text : (k base n : ℕ) (rest : List ℕ) → IsLineText rest → IsLineText (digits_onto k base false n rest)
onto-text zero base n rest h = h
onto-text (suc k) base n rest h =
    by (eqb (n / base) 0) (onto-text k base (n / base) (digit_glyph false (n % base) ∷ rest) glyph)
  where
    glyph : IsLineText (digit_glyph false (n % base) ∷ rest)
    glyph = All-cons NoFeed (digit_glyph false (n % base)) rest (glyph-text (n % base)) h

    by : (t : Bool) → IsLineText (digits_onto k base false (n / base) (digit_glyph false (n % base) ∷ rest))
        → IsLineText
        (cond t (digit_glyph false (n % base) ∷ rest)
        (digits_onto k base false (n / base) (digit_glyph false (n % base) ∷ rest)))
    by true more = glyph
    by false more = more

pub digits-text : (base n : ℕ) → IsLineText (digits base false n)
unfolding digits
digits-text base n = onto-text 64 base n [] (All-nil NoFeed)

pub byte-text : (b : ℕ) (rest : List ℕ) → b ≢ 10 → IsLineText rest → IsLineText (b ∷ rest)
byte-text b rest other h = All-cons NoFeed b rest other h

pub both-text : (xs ys : List ℕ) → IsLineText xs → IsLineText ys → IsLineText (xs ++ ys)
both-text xs ys a b = All-append NoFeed xs ys a b

pub none-text : IsLineText []
none-text = All-nil NoFeed

pub numbers-text : (ns : List ℕ) → IsLineText (spelled ns)
numbers-text [] = none-text
numbers-text (n ∷ ns) =
    byte-text 32 (hexadecimal n ++ spelled ns) (λ e. omega (arith, e))
    (both-text (hexadecimal n) (spelled ns) (digits-text 16 n) (numbers-text ns))

-- a kind and numbers
pub kind-text : (kind : ℕ) (ns : List ℕ) → kind ≢ 10 → IsLineText (kind ∷ spelled ns)
kind-text kind ns other = byte-text kind (spelled ns) other (numbers-text ns)

-- bytes that are tested one by one
abbrev pub has_no_feed : List ℕ → Bool
has_no_feed [] = true
has_no_feed (b ∷ rest) = cond (eqb b 10) false (has_no_feed rest)

pub literal-text : (xs : List ℕ) → has_no_feed xs ≡ true → IsLineText xs
literal-text [] none = none-text
literal-text (b ∷ rest) none = by (λ more. literal-text rest more) (eqb b 10) refl none
  where
    by : (has_no_feed rest ≡ true → IsLineText rest) → (t : Bool) → eqb b 10 ≡ t
        → cond t false (has_no_feed rest) ≡ true → IsLineText (b ∷ rest)
    by text true p none = absurd (true≢false (sym none))
    by text false p none = byte-text b rest (λ same. absurd (grind (arith, nat_tests, p, same))) (text none)

-- the text of lines behind others
pub text-append : (xs ys : List (List ℕ)) → text_of_lines (xs ++ ys) ≡ text_of_lines xs ++ text_of_lines ys
text-append [] ys = refl
text-append (line ∷ xs) ys =
    ap (λ (rest : List ℕ). line ++ (10 ∷ rest)) (text-append xs ys)
    ∙ sym (append_assoc line (10 ∷ text_of_lines xs) (text_of_lines ys))
