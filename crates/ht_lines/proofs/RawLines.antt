-- A kind, numbers behind blanks and a line feed are a line of a raw trace.
use Rattle.std.proofs.Common.{◌≡◌, ◌≢◌, ℕ, suc, ◌+◌, ◌*◌, ◌^◌, ◌<◌, ◌≤◌, List, [], ◌∷◌, ◌++◌, length, take, drop}
use Rattle.std.proofs.Common.{get_or, map, All, Option, Some, None, IfSome, Ok, IsTrue, refl, sym, subst, ap, ◌∙◌}
use Rattle.std.proofs.Common.{append_assoc, length-append, length-drop, length-take, arith}
use Rattle.std.proofs.lemmas.List.{drop-drop, take-append-drop, length-take-le}
use Rattle.std.proofs.lemmas.List.Elements.{All-append, All-cons, All-nil}
use Rattle.std.proofs.lemmas.Int.Digits.{digits_more, digits_value-lt, digits_value_more}
use Rattle.std.proofs.Math.Nat.{pow-le-pow_right}
use Rattle.std.proofs.Math.Seq.{drop-cons}
use Rattle.std.specs.Char.{digit_value}
use Rattle.std.specs.Str.Parse.{AllDigits, digits_value}
use Rattle.hp_num.specs.ParsedHex.{parsed_hex}
use Rattle.hp_num.proofs.Laws.{parsed_digits}
use Rattle.ht_lines.specs.declared.raw.RawEvent.TheVariants.{Allocation, Free, Node}
use Rattle.ht_lines.specs.declared.raw.RawLine.{RawLine}
use Rattle.ht_lines.specs.declared.item.Form.TheVariants.{Raw}
use Rattle.ht_lines.specs.Content.{node_line, raw_allocation_line, raw_free_line}
use Rattle.ht_lines.specs.Fields.{AreNumbers, fields, field_ends}
use Rattle.ht_lines.specs.Kinds.{IsOfKind}
use Rattle.ht_lines.specs.RawLine.{BeginsWithRaw, IsFieldAt, raw_content}
use Rattle.ht_lines.specs.Reading.{reading}
use Rattle.ht_lines.proofs.EventLines.{digits-one_line}
use Rattle.ht_lines.proofs.LineSides.{of_kind, reading-item}
use Rattle.ht_lines.proofs.TextLemmas.{fields-nil, fields-number}

-- one more digit fits 64 bits after at most 15 of them
pub room-for-digit : (text : List ℕ) (i : ℕ) → i < 16 → AllDigits 16 (take i text)
    → digits_value 16 (take i text) * 16 + 15 < 2 ^ 64
room-for-digit text i few all =
    let upto : 16 ^ length (take i text) ≤ 16 ^ 15 =
    pow-le-pow_right {n = 16} (omega arith) {i = length (take i text)} {j = 15} (omega (arith, length-take i text)) in
    omega (arith, digits_value-lt 16 (take i text) all, upto)

-- one more digit, and the number with it
pub digit-more :
    (bytes : List ℕ) (digits number byte digit : ℕ)
    → digits < length bytes
    → AllDigits 16 (take digits bytes)
    → number ≡ digits_value 16 (take digits bytes)
    → byte ≡ get_or bytes digits 0
    → (digit_value byte < 16) × (digit ≡ digit_value byte)
    → AllDigits 16 (take (digits + 1) bytes) × (number * 16 + digit ≡ digits_value 16 (take (digits + 1) bytes))
digit-more bytes digits number byte digit within all value at told =
    let is : digit ≡ digit_value (get_or bytes digits 0) = told.1 ∙ ap digit_value at in (
      digits_more 16 bytes digits within all (subst (λ b. digit_value b < 16) at told.0),
      omega (arith, digits_value_more 16 bytes digits within),
    )

-- digits behind a blank are a field
pub field-at : (text : List ℕ) (start count number : ℕ) → start < length text → get_or text start 0 ≡ 32
    → start + 1 + count ≤ length text → 0 < count → count ≤ 16
    → AllDigits 16 (take count (drop (start + 1) text)) → number ≡ digits_value 16 (take count (drop (start + 1) text))
    → IsFieldAt text start number (start + 1 + count)
field-at text start count number within blank whole some most all value =
    let next : start + 1 ≡ suc start = omega arith in
    let digits : List ℕ = take count (drop (start + 1) text) in
    let size : length digits ≡ count =
    length-take-le count (drop (start + 1) text) (omega (arith, length-drop (start + 1) text)) in
    let behind : drop count (drop (start + 1) text) ≡ drop (start + 1 + count) text =
    drop-drop count (start + 1) text in
    record {
      digits = digits;
      split =
          drop-cons text start 0 within
          ∙ (ap (λ b. b ∷ drop (suc start) text) blank ∙ (ap (λ n. 32 ∷ drop n text) (sym next)
          ∙ ap (λ l. 32 ∷ l) (sym (take-append-drop count (drop (start + 1) text)) ∙ ap (λ l. digits ++ l) behind)));
      parsed = parsed_digits digits (omega (arith, size)) (omega (arith, size)) all ∙ ap Some (sym value);
      one_line = digits-one_line digits all;
      some = omega (arith, size);
      most = omega (arith, size);
      size = omega (arith, size);
    }

-- from a place of the text up to another stand fields that are these numbers
record AreFieldsAt (text : List ℕ) (start : ℕ) (ns : List ℕ) (end : ℕ) : Type 0 where
  tail : List ℕ
  split : drop start text ≡ tail ++ drop end text
  numbers : AreNumbers (fields tail) ns
  ends : IsTrue (field_ends tail)
  one_line : All (λ b. b ≢ 10) tail
  size : end ≡ start + length tail

no-fields : (text : List ℕ) (place : ℕ) → AreFieldsAt text place [] place
no-fields text place = record {
  tail = [];
  split = refl;
  numbers = ap (map parsed_hex) fields-nil;
  ends = refl;
  one_line = All-nil (λ b. b ≢ 10);
  size = omega arith;
}

one-field : (text : List ℕ) (start number mid : ℕ) (ns : List ℕ) (end : ℕ) → IsFieldAt text start number mid
    → AreFieldsAt text mid ns end → AreFieldsAt text start (number ∷ ns) end
one-field text start number mid ns end first others = record {
  tail = 32 ∷ (first.digits ++ others.tail);
  split =
      first.split
      ∙ ap (λ l. 32 ∷ l)
      (ap (λ l. first.digits ++ l) others.split ∙ sym (append_assoc first.digits others.tail (drop end text)));
  numbers =
      ap (map parsed_hex) (fields-number first.digits others.tail number first.parsed others.ends)
      ∙ (λ i. first.parsed i ∷ others.numbers i);
  ends = refl;
  one_line =
      All-cons (λ b. b ≢ 10) 32 (first.digits ++ others.tail) (λ z. omega (arith, z))
      (All-append (λ b. b ≢ 10) first.digits others.tail first.one_line others.one_line);
  size = omega (arith, first.size, others.size, length-append first.digits others.tail);
}

-- a kind before such fields, and a line feed behind them
begins : (found : RawLine) (text : List ℕ) (kind : ℕ) (ns : List ℕ) (end : ℕ) → get_or text 0 0 ≡ kind → kind ≢ 10
    → AreFieldsAt text 1 ns end → 3 ≤ end → end ≤ 52 → end < length text
    → get_or text end 0 ≡ 10 → found.bytes ≡ end + 1
    → ((version : ℕ) (tail : List ℕ) → IsOfKind kind (kind ∷ tail) → AreNumbers (fields tail) ns
    → reading Raw version (kind ∷ tail) ≡ Ok (raw_content found.says))
    → BeginsWithRaw text found
begins found text kind ns end is other held least most within feed counted reads = record {
  line = kind ∷ held.tail;
  rest = drop (suc end) text;
  split = drop-cons text 0 0 (omega arith) ∙ (ap (λ b. b ∷ drop 1 text) is ∙ ap (λ l. kind ∷ l) (held.split
      ∙ ap (λ l. held.tail ++ l) (drop-cons text end 0 within ∙ ap (λ b. b ∷ drop (suc end) text) feed)));
  counted = omega (arith, counted, held.size);
  at_least = omega (arith, held.size);
  at_most = omega (arith, held.size);
  one_line = All-cons (λ b. b ≢ 10) kind held.tail other held.one_line;
  said = λ version. reads version held.tail (of_kind kind held.tail held.ends) held.numbers;
}

pub allocation-begins : (text : List ℕ) (size trace ptr one two end : ℕ) → get_or text 0 0 ≡ 43
    → IsFieldAt text 1 size one → IsFieldAt text one trace two → IsFieldAt text two ptr end
    → end < length text → get_or text end 0 ≡ 10
    → BeginsWithRaw text (record { says = Allocation size trace ptr; bytes = end + 1 })
allocation-begins text size trace ptr one two end kind first second third within feed =
    begins _ text 43 (size ∷ trace ∷ ptr ∷ []) end kind (λ e. omega (arith, e))
    (one-field text 1 size one (trace ∷ ptr ∷ []) end first
    (one-field text one trace two (ptr ∷ []) end second
    (one-field text two ptr end [] end third (no-fields text end))))
    (omega (arith, first.size, first.some, second.size, third.size))
    (omega (arith, first.size, first.most, second.size, second.most, third.size, third.most)) within feed refl
    (λ version tail of_kind numbers. reading-item Raw version (43 ∷ tail) (raw_allocation_line size trace ptr)
    (of_kind, numbers, refl))

pub free-begins : (text : List ℕ) (ptr end : ℕ) → get_or text 0 0 ≡ 45 → IsFieldAt text 1 ptr end → end < length text
    → get_or text end 0 ≡ 10
    → BeginsWithRaw text (record { says = Free ptr; bytes = end + 1 })
free-begins text ptr end kind first within feed =
    begins _ text 45 (ptr ∷ []) end kind (λ e. omega (arith, e))
    (one-field text 1 ptr end [] end first (no-fields text end))
    (omega (arith, first.size, first.some)) (omega (arith, first.size, first.most)) within feed refl
    (λ version tail of_kind numbers. reading-item Raw version (45 ∷ tail) (raw_free_line ptr) (of_kind, numbers, refl))

pub node-begins : (text : List ℕ) (ip parent one end : ℕ) → get_or text 0 0 ≡ 116 → IsFieldAt text 1 ip one
    → IsFieldAt text one parent end → end < length text → get_or text end 0 ≡ 10
    → BeginsWithRaw text (record { says = Node ip parent; bytes = end + 1 })
node-begins text ip parent one end kind first second within feed =
    begins _ text 116 (ip ∷ parent ∷ []) end kind (λ e. omega (arith, e))
    (one-field text 1 ip one (parent ∷ []) end first
    (one-field text one parent end [] end second (no-fields text end)))
    (omega (arith, first.size, first.some, second.size))
    (omega (arith, first.size, first.most, second.size, second.most)) within feed refl
    (λ version tail of_kind numbers. reading-item Raw version (116 ∷ tail) (node_line ip parent) (of_kind, numbers))

-- a line at the front of a front
front-begins : (text : List ℕ) (found : RawLine) → BeginsWithRaw (take 53 text) found → BeginsWithRaw text found
front-begins text found front = record {
  line = front.line;
  rest = front.rest ++ drop 53 text;
  split =
      sym (take-append-drop 53 text)
      ∙ (ap (λ l. l ++ drop 53 text) front.split ∙ append_assoc front.line (10 ∷ front.rest) (drop 53 text));
  counted = front.counted;
  at_least = front.at_least;
  at_most = front.at_most;
  one_line = front.one_line;
  said = front.said;
}

pub front-some : (text : List ℕ) (found : Option RawLine) → IfSome found (λ line. BeginsWithRaw (take 53 text) line)
    → IfSome found (λ line. BeginsWithRaw text line)
front-some text None front = tt
front-some text (Some line) front = front-begins text line front
