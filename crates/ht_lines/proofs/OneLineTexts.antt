-- A line without a line feed gives texts without one, and texts without one give a written line without one.
use Rattle.std.proofs.Common.{◌≢◌, ℕ, zero, suc, ◌+◌, ◌%◌, ◌/◌, Bool, true, false, cond, eqb, nat_lt, List, [], ◌∷◌}
use Rattle.std.proofs.Common.{◌++◌, length, IfOk, Result, Ok, Err, sym, subst, inl, inr, arith}
use Rattle.std.specs.Fmt.{digits, digits_onto, digit_glyph}
use Rattle.std.proofs.lemmas.List.Elements.{All-append, All-cons, All-nil, All-head, All-tail, All-drop}
use Rattle.hp_num.specs.Hexadecimal.{hexadecimal}
use Rattle.ht_lines.specs.declared.item.Form.{Form}
use Rattle.ht_lines.specs.declared.item.Item.{Item}
use Rattle.ht_lines.specs.declared.item.Malformed.{Malformed}
use Rattle.ht_lines.specs.Content.{Content, version_line, executable_line, command_line, system_line, string_line}
use Rattle.ht_lines.specs.Content.{clear_line, module_line, instruction_line, node_line, info_line, allocation_line}
use Rattle.ht_lines.specs.Content.{free_line, raw_allocation_line, raw_free_line, clock_line, resident_line}
use Rattle.ht_lines.specs.Content.{attached_line, suppression_line, comment_line, other_line}
use Rattle.ht_lines.specs.ItemContent.{content}
use Rattle.ht_lines.specs.Kinds.{after_kind, plain_text}
use Rattle.ht_lines.specs.ModuleName.{IsModuleName}
use Rattle.ht_lines.specs.OneLine.{IsOneLine, HasOneLineTexts}
use Rattle.ht_lines.specs.Reads.{Reads}
use Rattle.ht_lines.specs.SizedText.{IsText}
use Rattle.ht_lines.specs.Written.{spelled, spelled_text, written}

abbrev NoFeed : ℕ → Type 0
NoFeed b = b ≢ 10

front : (xs ys : List ℕ) → IsOneLine (xs ++ ys) → IsOneLine xs
front [] ys h = All-nil NoFeed
front (x ∷ xs) ys h =
    All-cons NoFeed x xs (All-head NoFeed x (xs ++ ys) h) (front xs ys (All-tail NoFeed x (xs ++ ys) h))

back : (xs ys : List ℕ) → IsOneLine (xs ++ ys) → IsOneLine ys
back [] ys h = h
back (x ∷ xs) ys h = back xs ys (All-tail NoFeed x (xs ++ ys) h)

-- what is read

text_one : (version : ℕ) (plain bytes : List ℕ) → IsOneLine plain → IsText version plain bytes → IsOneLine bytes
text_one version plain bytes h (inl w) = All-tail NoFeed 32 bytes (back w.1.0 (32 ∷ bytes) (subst IsOneLine w.1.2 h))
text_one version plain bytes h (inr w) = subst IsOneLine (sym w.1) h

name_one : (version : ℕ) (rest name tail : List ℕ) → IsOneLine rest → IsModuleName version rest name tail
    → IsOneLine name
name_one version rest name tail h (inl w) =
    let sized = back w.1.blanks (w.1.digits ++ (32 ∷ (name ++ tail))) (subst IsOneLine w.1.bytes h) in
    front name tail (All-tail NoFeed 32 (name ++ tail) (back w.1.digits (32 ∷ (name ++ tail)) sized))
name_one version rest name tail h (inr w) =
    front name tail (back w.1.blanks (name ++ tail) (subst IsOneLine w.1.bytes h))

module _ (form : Form) (version : ℕ) (line : List ℕ) (one : IsOneLine line) where
  plain : (bytes : List ℕ) → IsText version (plain_text line) bytes → IsOneLine bytes
  plain bytes t = text_one version (plain_text line) bytes (All-drop NoFeed 2 line one) t

  pub Reads-one_line : (said : Content) → Reads form version line said → HasOneLineTexts said
  Reads-one_line (executable_line bytes) r = plain bytes r.1
  Reads-one_line (command_line bytes) r = plain bytes r.1
  Reads-one_line (suppression_line bytes) r = plain bytes r.1
  Reads-one_line (string_line bytes) r = plain bytes r.1
  Reads-one_line (module_line name start ranges) r =
      name_one version (after_kind line) name r.1.0 (All-drop NoFeed 1 line one) r.1.1
  Reads-one_line (comment_line bytes) r = All-tail NoFeed 35 bytes (subst IsOneLine r one)
  Reads-one_line (other_line bytes) r = subst IsOneLine (sym r.1) one
  Reads-one_line (version_line h f) r = tt
  Reads-one_line (system_line p q) r = tt
  Reads-one_line clear_line r = tt
  Reads-one_line (instruction_line ip m frames) r = tt
  Reads-one_line (node_line ip parent) r = tt
  Reads-one_line (info_line size trace) r = tt
  Reads-one_line (allocation_line info) r = tt
  Reads-one_line (free_line info) r = tt
  Reads-one_line (raw_allocation_line size trace ptr) r = tt
  Reads-one_line (raw_free_line ptr) r = tt
  Reads-one_line (clock_line ms) r = tt
  Reads-one_line (resident_line pages) r = tt
  Reads-one_line attached_line r = tt

  pub IfOk-one_line : (r : Result Item Malformed) → IfOk r (λ item. Reads form version line (content item))
      → IfOk r (λ item. HasOneLineTexts (content item))
  IfOk-one_line (Ok item) r = Reads-one_line (content item) r
  IfOk-one_line (Err fault) r = tt

-- what is written

glyph_no_feed : (d : ℕ) → digit_glyph false d ≢ 10
glyph_no_feed d = by (nat_lt d 10)
  where
    by : (t : Bool) → cond t (48 + d) (87 + d) ≢ 10
    by true e = omega (arith, e)
    by false e = omega (arith, e)

digits_one : (k n : ℕ) (rest : List ℕ) → IsOneLine rest → IsOneLine (digits_onto k 16 false n rest)
digits_one zero n rest h = h
digits_one (suc k) n rest h = by (eqb (n / 16) 0) (digits_one k (n / 16) (digit_glyph false (n % 16) ∷ rest) glyph)
  where
    glyph : IsOneLine (digit_glyph false (n % 16) ∷ rest)
    glyph = All-cons NoFeed (digit_glyph false (n % 16)) rest (glyph_no_feed (n % 16)) h

    by : (t : Bool) → IsOneLine (digits_onto k 16 false (n / 16) (digit_glyph false (n % 16) ∷ rest))
        → IsOneLine
        (cond t (digit_glyph false (n % 16) ∷ rest)
        (digits_onto k 16 false (n / 16) (digit_glyph false (n % 16) ∷ rest)))
    by true more = glyph
    by false more = more

hexadecimal_one : (n : ℕ) → IsOneLine (hexadecimal n)
unfolding digits
hexadecimal_one n = digits_one 64 n [] (All-nil NoFeed)

blank_one : (rest : List ℕ) → IsOneLine rest → IsOneLine (32 ∷ rest)
blank_one rest h = All-cons NoFeed 32 rest (λ e. omega (arith, e)) h

spelled_one : (ns : List ℕ) → IsOneLine (spelled ns)
spelled_one [] = All-nil NoFeed
spelled_one (n ∷ ns) =
    blank_one (hexadecimal n ++ spelled ns)
    (All-append NoFeed (hexadecimal n) (spelled ns) (hexadecimal_one n) (spelled_one ns))

spelled_text_one : (version : ℕ) (bytes : List ℕ) → IsOneLine bytes → IsOneLine (spelled_text version bytes)
spelled_text_one version bytes h = by (eqb version 3)
  where
    by : (t : Bool) → IsOneLine (cond t (hexadecimal (length bytes) ++ (32 ∷ bytes)) bytes)
    by true =
        All-append NoFeed (hexadecimal (length bytes)) (32 ∷ bytes) (hexadecimal_one (length bytes)) (blank_one bytes h)
    by false = h

-- a kind before the rest of a line
kind : (k : ℕ) (rest : List ℕ) → k ≢ 10 → IsOneLine rest → IsOneLine (k ∷ rest)
kind k rest other h = All-cons NoFeed k rest other h

numbers_one : (k : ℕ) (ns : List ℕ) → k ≢ 10 → IsOneLine (k ∷ spelled ns)
numbers_one k ns other = kind k (spelled ns) other (spelled_one ns)

text_line_one : (k version : ℕ) (bytes : List ℕ) → k ≢ 10 → IsOneLine bytes
    → IsOneLine (k ∷ 32 ∷ spelled_text version bytes)
text_line_one k version bytes other h =
    kind k (32 ∷ spelled_text version bytes) other
    (blank_one (spelled_text version bytes) (spelled_text_one version bytes h))

pub written-one_line : (version : ℕ) (said : Content) → HasOneLineTexts said → IsOneLine (written version said)
written-one_line version (executable_line bytes) h = text_line_one 120 version bytes (λ e. omega (arith, e)) h
written-one_line version (command_line bytes) h = text_line_one 88 version bytes (λ e. omega (arith, e)) h
written-one_line version (suppression_line bytes) h = text_line_one 83 version bytes (λ e. omega (arith, e)) h
written-one_line version (string_line bytes) h = text_line_one 115 version bytes (λ e. omega (arith, e)) h
written-one_line version (module_line name start ranges) h =
    kind 109 (32 ∷ (spelled_text version name ++ spelled (start ∷ ranges))) (λ e. omega (arith, e))
    (blank_one (spelled_text version name ++ spelled (start ∷ ranges))
    (All-append NoFeed (spelled_text version name) (spelled (start ∷ ranges)) (spelled_text_one version name h)
    (spelled_one (start ∷ ranges))))
written-one_line version clear_line h =
    kind 109 (32 ∷ 45 ∷ []) (λ e. omega (arith, e))
    (blank_one (45 ∷ []) (kind 45 [] (λ e. omega (arith, e)) (All-nil NoFeed)))
written-one_line version (version_line t f) h = numbers_one 118 (t ∷ f ∷ []) (λ e. omega (arith, e))
written-one_line version (system_line p q) h = numbers_one 73 (p ∷ q ∷ []) (λ e. omega (arith, e))
written-one_line version (instruction_line ip m frames) h = numbers_one 105 (ip ∷ m ∷ frames) (λ e. omega (arith, e))
written-one_line version (node_line ip parent) h = numbers_one 116 (ip ∷ parent ∷ []) (λ e. omega (arith, e))
written-one_line version (info_line size trace) h = numbers_one 97 (size ∷ trace ∷ []) (λ e. omega (arith, e))
written-one_line version (allocation_line info) h = numbers_one 43 (info ∷ []) (λ e. omega (arith, e))
written-one_line version (free_line info) h = numbers_one 45 (info ∷ []) (λ e. omega (arith, e))
written-one_line version (raw_allocation_line size trace ptr) h =
    numbers_one 43 (size ∷ trace ∷ ptr ∷ []) (λ e. omega (arith, e))
written-one_line version (raw_free_line ptr) h = numbers_one 45 (ptr ∷ []) (λ e. omega (arith, e))
written-one_line version (clock_line ms) h = numbers_one 99 (ms ∷ []) (λ e. omega (arith, e))
written-one_line version (resident_line pages) h = numbers_one 82 (pages ∷ []) (λ e. omega (arith, e))
written-one_line version attached_line h = kind 65 [] (λ e. omega (arith, e)) (All-nil NoFeed)
written-one_line version (comment_line bytes) h = kind 35 bytes (λ e. omega (arith, e)) h
written-one_line version (other_line bytes) h = h
