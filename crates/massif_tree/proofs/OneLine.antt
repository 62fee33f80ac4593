-- Texts of one line, as labels are.
use Rattle.std.proofs.Common.{◌≡◌, ◌≢◌, ℕ, zero, suc, ◌+◌, ◌-◌, ◌/◌, ◌%◌, ◌==◌, eqb, Bool, true, false, cond, List, []}
use Rattle.std.proofs.Common.{◌∷◌, ◌++◌, Option, None, Some, refl, arith}
use Rattle.std.specs.Prelude.{All, codes, decimal, nat_lt, slice_get, unwrap_or}
use Rattle.std.specs.Fmt.{digit_glyph, digits, digits_onto}
use Rattle.std.proofs.lemmas.Bool.{cond_both, eqb-false, false≢true}
use Rattle.std.proofs.lemmas.List.Elements.{All-append, All-cons, All-head, All-nil, All-tail}
use Rattle.std.proofs.lemmas.Option.{same_Some}
use Rattle.hp_num.specs.Hexadecimal.{hexadecimal}
use Rattle.hp_num.specs.Percent.{two_digits}
use Rattle.ht_trace.specs.declared.frame.FrameAt.{FrameAt}
use Rattle.ht_trace.specs.declared.frame.FrameFound.{FrameFound}
use Rattle.ht_trace.specs.declared.frame.Style.TheVariants.{Addressed}
use Rattle.ht_trace.specs.FrameText.{frame_at, frame_text, in_module, name_text, no_name, place_text, text_at, text_of}
use Rattle.ht_trace.specs.TableState.{TableState}
use Rattle.massif_file.specs.IsWritable.{IsLine, IsText}
use Rattle.massif_tree.specs.Labels.{gathered_label, places_label, root_label, threshold_text}

-- a text by the test of each of its bytes
is_line : List ℕ → Bool
is_line [] = true
is_line (b ∷ bs) = cond (eqb b 10) false (is_line bs)

line-tested : (text : List ℕ) → is_line text ≡ true → IsLine text
unfolding is_line
line-tested [] passes = All-nil (λ b. b ≢ 10)
line-tested (b ∷ bs) passes = by (eqb b 10) refl passes (line-tested bs)
  where
    by : (t : Bool) → eqb b 10 ≡ t → cond t false (is_line bs) ≡ true → (is_line bs ≡ true → IsLine bs)
        → IsLine (b ∷ bs)
    by true is passes more = absurd (false≢true passes)
    by false is passes more = All-cons (λ x. x ≢ 10) b bs (eqb-false b 10 is) (more passes)

-- digits are no line feeds
glyph-apart : (d : ℕ) → digit_glyph false d ≢ 10
glyph-apart d is = by (nat_lt d 10) is
  where
    by : (t : Bool) → cond t (48 + d) (87 + d) ≡ 10 → ⊥
    by true same = omega arith
    by false same = omega arith

digits-line : (k base n : ℕ) (rest : List ℕ) → IsLine rest → IsLine (digits_onto k base false n rest)
digits-line zero base n rest line = line
digits-line (suc k) base n rest line =
    let more : List ℕ = digit_glyph false (n % base) ∷ rest in
    let one : IsLine more = All-cons (λ x. x ≢ 10) (digit_glyph false (n % base)) rest (glyph-apart (n % base)) line in
    cond_both (n / base == 0) more (digits_onto k base false (n / base) more) IsLine (λ last. one)
    (λ goes_on. digits-line k base (n / base) more one)

decimal-line : (n : ℕ) → IsLine (decimal n)
unfolding digits
decimal-line n = digits-line 64 10 n [] (All-nil (λ b. b ≢ 10))

hexadecimal-line : (n : ℕ) → IsLine (hexadecimal n)
unfolding digits
hexadecimal-line n = digits-line 64 16 n [] (All-nil (λ b. b ≢ 10))

-- texts one after the other
both-lines : (a b : List ℕ) → IsLine a → IsLine b → IsLine (a ++ b)
both-lines a b = All-append (λ x. x ≢ 10) a b

-- a text that begins with a byte that is no blank
begins : (b : ℕ) (bs : List ℕ) → b ≢ 32 → IsLine (b ∷ bs) → IsText (b ∷ bs)
begins b bs apart line = record { line = line; begin = λ is. apart (same_Some b 32 is) }

-- the label of the root
pub root-text : IsText root_label
unfolding root_label is_line
root-text = begins 40 _ (λ is. omega arith) (line-tested (codes "(heap allocation functions) malloc/new/new[], --alloc-fns, etc.") refl)

-- the label of places that are gathered
two_digits-line : (n : ℕ) → IsLine (two_digits n)
two_digits-line n =
    cond_both (nat_lt n 10) (48 ∷ decimal n) (decimal n) IsLine
    (λ small. All-cons (λ x. x ≢ 10) 48 (decimal n) (λ is. omega arith) (decimal-line n)) (λ large. decimal-line n)

threshold-line : (threshold : ℕ) → IsLine (threshold_text threshold)
unfolding threshold_text is_line
threshold-line threshold =
    both-lines (decimal (threshold / 100)) _ (decimal-line (threshold / 100))
    (both-lines (codes ".") _ (line-tested (codes ".") refl)
    (both-lines (two_digits (threshold % 100)) (codes "%") (two_digits-line (threshold % 100))
    (line-tested (codes "%") refl)))

pub gathered-text : (threshold places : ℕ) → IsText (gathered_label threshold places)
unfolding gathered_label places_label is_line
gathered-text threshold places = by (places == 1)
  where
    rest : List ℕ
    rest = threshold_text threshold ++ codes ")"

    rest-line : IsLine (threshold_text threshold ++ codes ")")
    rest-line =
        both-lines (threshold_text threshold) (codes ")") (threshold-line threshold) (line-tested (codes ")") refl)

    one : IsLine (codes "in 1 place, below massif's threshold (" ++ (threshold_text threshold ++ codes ")"))
    one =
        both-lines (codes "in 1 place, below massif's threshold (") _
        (line-tested (codes "in 1 place, below massif's threshold (") refl) rest-line

    more : IsLine
        ((codes "in " ++ (decimal places ++ codes " places, all below massif's threshold ("))
        ++ (threshold_text threshold ++ codes ")"))
    more =
        both-lines (codes "in " ++ (decimal places ++ codes " places, all below massif's threshold (")) _
        (both-lines (codes "in ") _ (line-tested (codes "in ") refl)
        (both-lines (decimal places) _ (decimal-line places)
        (line-tested (codes " places, all below massif's threshold (") refl)))
        rest-line

    by : (t : Bool)
        → IsText
        (cond t (codes "in 1 place, below massif's threshold (")
        (codes "in " ++ (decimal places ++ codes " places, all below massif's threshold ("))
        ++ (threshold_text threshold ++ codes ")"))
    by true = begins 105 _ (λ is. omega arith) one
    by false = begins 105 _ (λ is. omega arith) more

-- a string that has no line feed, or none at all
string-line : (strings : List (List ℕ)) (n : ℕ) → All IsLine strings → IsLine (text_at strings n)
string-line strings n lines =
    cond_both (n == 0) None (slice_get strings (n - 1)) (λ found. IsLine (unwrap_or found []))
    (λ none. All-nil (λ b. b ≢ 10)) (λ some. held strings (n - 1) lines)
  where
    held : (xs : List (List ℕ)) (k : ℕ) → All IsLine xs → IsLine (unwrap_or (slice_get xs k) [])
    held [] k all = All-nil (λ b. b ≢ 10)
    held (x ∷ xs) zero all = All-head IsLine x xs all
    held (x ∷ xs) (suc k) all = held xs k (All-tail IsLine x xs all)

name-line : (strings : List (List ℕ)) (found : FrameFound) → All IsLine strings
    → IsLine (name_text Addressed strings found)
unfolding is_line
name-line strings found lines =
    cond_both (found.frame.function == 0) (no_name Addressed found.ip) (text_at strings found.frame.function) IsLine
    (λ none. line-tested (codes "???") refl) (λ some. string-line strings found.frame.function lines)

place-line : (strings : List (List ℕ)) (found : FrameFound) → All IsLine strings
    → IsLine (place_text Addressed strings found)
unfolding is_line
place-line strings found lines =
    cond_both (found.frame.file == 0) _ _ IsLine
    (λ no_file. cond_both (found.module_string == 0) [] (in_module Addressed (text_at strings found.module_string))
    IsLine (λ none. All-nil (λ b. b ≢ 10))
    (λ some. both-lines (codes " (in ") _ (line-tested (codes " (in ") refl)
    (both-lines (text_at strings found.module_string) (codes ")") (string-line strings found.module_string lines)
    (line-tested (codes ")") refl))))
    (λ file.
    both-lines (codes " (") _ (line-tested (codes " (") refl)
    (both-lines (text_at strings found.frame.file) _ (string-line strings found.frame.file lines)
    (both-lines (codes ":") _ (line-tested (codes ":") refl)
    (both-lines (decimal found.frame.line) (codes ")") (decimal-line found.frame.line)
    (line-tested (codes ")") refl)))))

-- the addressed text of a frame
pub frame-text : (tables : TableState) (at : FrameAt) → All IsLine tables.strings
    → IsText (frame_text Addressed tables at)
unfolding frame_text is_line
frame-text tables at lines = by (frame_at tables.instructions at)
  where
    by : (found : Option FrameFound) → IsText (text_of Addressed tables.strings at.index found)
    by None =
        cond_both (at.index == 0) (codes "??") (codes "(no stack)") IsText
        (λ unknown. begins 63 _ (λ is. omega arith) (line-tested (codes "??") refl))
        (λ empty. begins 40 _ (λ is. omega arith) (line-tested (codes "(no stack)") refl))
    by (Some found) =
        begins 48 _ (λ is. omega arith)
        (both-lines (codes "0x" ++ (hexadecimal found.ip ++ codes ": ")) _
        (both-lines (codes "0x") _ (line-tested (codes "0x") refl)
        (both-lines (hexadecimal found.ip) (codes ": ") (hexadecimal-line found.ip) (line-tested (codes ": ") refl)))
        (both-lines (name_text Addressed tables.strings found) (place_text Addressed tables.strings found)
        (name-line tables.strings found lines) (place-line tables.strings found lines)))
