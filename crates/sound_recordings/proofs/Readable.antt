-- What lines say that are written and read again: where each of them can be read, a trace says exactly this.
use Rattle.std.proofs.Common.{◌≡◌, ℕ, ◌^◌, ◌<◌, List, [], ◌∷◌, ◌++◌, length, map, Option, Some, None, refl, ap, ◌∙◌}
use Rattle.std.proofs.Common.{arith}
use Rattle.std.specs.Prelude.{Result, option_and_then, slice_get, unwrap_or}
use Rattle.std.specs.List.{AllByRecursion, cons_option, filter_map}
use Rattle.std.specs.Result.{result_ok}
use Rattle.hp_num.specs.Hexadecimal.{hexadecimal}
use Rattle.hp_num.specs.ParsedHex.{parsed_hex}
use Rattle.hp_outside.specs.Lines.{lines_of}
use Rattle.hp_outside.specs.WholeLines.{text_of_lines}
use Rattle.ht_lines.specs.Content.{Content, version_line}
use Rattle.ht_lines.specs.OneLine.{HasOneLineTexts}
use Rattle.ht_lines.specs.Reading.{reading}
use Rattle.ht_lines.specs.Written.{IsWritable, written}
use Rattle.ht_lines.specs.declared.item.Form.TheVariants.{Raw}
use Rattle.ht_lines.specs.declared.item.Malformed.{Malformed}
use Rattle.ht_lines.proofs.Laws.{reading-written, written-one_line}
use Rattle.ht_trace.specs.FormContents.{version_in, versions}
use Rattle.ht_trace.specs.TraceLists.{pattern_in, patterns}
use Rattle.interpret.specs.RawContents.{IsRaw, contents, version_of}
use Rattle.record_book.proofs.Laws.{line-of}

-- a line of a raw trace of file version 2 says this: it has no line feed, is no longer than what
-- can be read, and suppresses nothing
pub record IsReadable (said : Content) : Type 0 where
  pub writable : IsWritable Raw 2 said
  pub one_line : HasOneLineTexts said
  pub raw : IsRaw said
  pub short : length (written 2 said) < 2 ^ 32
  pub no_pattern : pattern_in said ≡ None

pub all-append : {X : Type 0} (P : X → Type 0) (xs ys : List X) → AllByRecursion P xs → AllByRecursion P ys
    → AllByRecursion P (xs ++ ys)
all-append P [] ys a b = b
all-append P (x ∷ xs) ys a b = (a.0, all-append P xs ys a.1 b)

pub all-raw : (said : List Content) → AllByRecursion IsReadable said → AllByRecursion IsRaw said
all-raw [] all = tt
all-raw (x ∷ xs) all = (all.0.raw, all-raw xs all.1)

pub all-short : (said : List Content) → AllByRecursion IsReadable said
    → AllByRecursion (λ line. length line < 2 ^ 32) (map (written 2) said)
all-short [] all = tt
all-short (x ∷ xs) all = (all.0.short, all-short xs all.1)

pub no-patterns : (said : List Content) → AllByRecursion IsReadable said → patterns said ≡ []
no-patterns [] all = refl
no-patterns (x ∷ xs) all =
    ap (λ (o : Option (List ℕ)). cons_option o (filter_map pattern_in xs)) all.0.no_pattern ∙ no-patterns xs all.1

-- the lines of the text
pub lines-of : (said : List Content) → AllByRecursion IsReadable said
    → lines_of (text_of_lines (map (written 2) said)) ≡ map (written 2) said
lines-of [] all = refl
lines-of (x ∷ xs) all =
    line-of (written 2 x) (text_of_lines (map (written 2) xs)) (written-one_line 2 x all.0.one_line)
    ∙ ap (λ (rest : List (List ℕ)). written 2 x ∷ rest) (lines-of xs all.1)

module _ (back : (n : ℕ) → n < 2 ^ 64 → parsed_hex (hexadecimal n) ≡ Some n) where
  read-all : (said : List Content) → AllByRecursion IsReadable said
      → filter_map (λ line. result_ok (reading Raw 2 line)) (map (written 2) said) ≡ said
  read-all [] all = refl
  read-all (x ∷ xs) all =
      ap (λ (r : Result Content Malformed). cons_option (result_ok r)
      (filter_map (λ line. result_ok (reading Raw 2 line)) (map (written 2) xs))) (reading-written
      back Raw 2 x all.0.writable)
      ∙ ap (λ (rest : List Content). x ∷ rest) (read-all xs all.1)

  -- the version line stands first
  pub version-first : (heaptrack : ℕ) (rest : List (List ℕ)) → heaptrack < 2 ^ 64
      → version_of (written 2 (version_line heaptrack 2) ∷ rest) ≡ Some 2
  version-first heaptrack rest fits =
      ap (λ (r : Result Content Malformed). slice_get
      (cons_option (option_and_then version_in (result_ok r)) (versions Raw rest)) 0)
      (reading-written back Raw 1 (version_line heaptrack 2) (fits, omega arith, omega arith))

  -- what the lines say
  pub contents-of : (heaptrack : ℕ) (said : List Content) → AllByRecursion IsReadable (version_line heaptrack 2 ∷ said)
      → contents (map (written 2) (version_line heaptrack 2 ∷ said)) ≡ version_line heaptrack 2 ∷ said
  contents-of heaptrack said all =
      let all_said : List Content = version_line heaptrack 2 ∷ said in
      ap (λ (v : Option ℕ). filter_map (λ line. result_ok (reading Raw (unwrap_or v 1) line))
      (map (written 2) all_said)) (version-first
      heaptrack (map (written 2) said) all.0.writable.0)
      ∙ read-all all_said all
