-- A kind, a blank, digits and a line feed are the line of an event.
use Rattle.std.proofs.Common.{◌≡◌, ◌≢◌, ℕ, suc, ◌+◌, ◌^◌, ◌<◌, ◌≤◌, false, List, [], ◌∷◌, ◌++◌, length, take, drop}
use Rattle.std.proofs.Common.{get_or, map, All, Some, Ok, refl, sym, ap, subst, ◌∙◌, arith, lt-ltb}
use Rattle.std.proofs.lemmas.Bool.{false≢true}
use Rattle.std.proofs.lemmas.Int.Digits.{digits_value-lt}
use Rattle.std.proofs.lemmas.List.{take-take, take-append-drop, length-take-le, get_or-take}
use Rattle.std.proofs.lemmas.List.Elements.{All-cons, All-nil}
use Rattle.std.proofs.Math.Nat.{pow-le-pow_right}
use Rattle.std.proofs.Math.Seq.{drop-cons}
use Rattle.std.specs.Char.{digit_value, is_digit}
use Rattle.std.specs.Str.Parse.{AllDigits, digits_value}
use Rattle.hp_num.specs.ParsedHex.{parsed_hex}
use Rattle.hp_num.proofs.Laws.{parsed_digits}
use Rattle.ht_lines.specs.declared.event.EventKind.{EventKind}
use Rattle.ht_lines.specs.declared.event.EventKind.TheVariants.{Allocation, Free}
use Rattle.ht_lines.specs.declared.event.EventLine.{EventLine}
use Rattle.ht_lines.specs.declared.item.Form.TheVariants.{Interpreted}
use Rattle.ht_lines.specs.Content.{allocation_line, free_line}
use Rattle.ht_lines.specs.EventLine.{BeginsWithEvent, event_byte, event_content}
use Rattle.ht_lines.specs.Reading.{reading}
use Rattle.ht_lines.proofs.LineSides.{reading-item}
use Rattle.ht_lines.proofs.TextLemmas.{fields-lone_number}

pub digits-one_line : (ds : List ℕ) → AllDigits 16 ds → All (λ b. b ≢ 10) ds
digits-one_line [] h = All-nil (λ b. b ≢ 10)
digits-one_line (d ∷ ds) h =
    let feed : is_digit 10 16 ≡ false = refl in
    All-cons (λ b. b ≢ 10) d ds
    (λ z. false≢true (sym feed ∙ ap (λ b. is_digit b 16) (sym z) ∙ lt-ltb (digit_value d) 16 h.0))
    (digits-one_line ds h.1)

kind-one_line : (kind : EventKind) → event_byte kind ≢ 10
kind-one_line Allocation e = omega (arith, e)
kind-one_line Free e = omega (arith, e)

said : (kind : EventKind) (ds : List ℕ) (n : ℕ) → parsed_hex ds ≡ Some n → (version : ℕ)
    → reading Interpreted version (event_byte kind ∷ 32 ∷ ds) ≡ Ok (event_content kind n)
said Allocation ds n is version =
    reading-item Interpreted version (43 ∷ 32 ∷ ds) (allocation_line n)
    ((refl, refl), ap (map parsed_hex) (fields-lone_number ds n is) ∙ ap (λ o. o ∷ []) is, refl)
said Free ds n is version =
    reading-item Interpreted version (45 ∷ 32 ∷ ds) (free_line n)
    ((refl, refl), ap (map parsed_hex) (fields-lone_number ds n is) ∙ ap (λ o. o ∷ []) is, refl)

begins : (event : EventLine) (text ds rest : List ℕ) → text ≡ event_byte event.kind ∷ 32 ∷ (ds ++ (10 ∷ rest))
    → rest ≡ drop event.bytes text
    → event.bytes ≡ length ds + 3 → 0 < length ds → length ds ≤ 8 → AllDigits 16 ds → event.info ≡ digits_value 16 ds
    → BeginsWithEvent text event
begins event text ds rest split after counted some few all value =
    let is : parsed_hex ds ≡ Some event.info = parsed_digits ds some (omega arith) all ∙ ap Some (sym value) in
    let most : 16 ^ length ds ≤ 16 ^ 8 = pow-le-pow_right {n = 16} (omega arith) few in
    record {
      line = event_byte event.kind ∷ 32 ∷ ds;
      rest = rest;
      split = split;
      after = after;
      counted = omega arith;
      at_least = omega arith;
      at_most = omega arith;
      one_line =
          All-cons (λ b. b ≢ 10) (event_byte event.kind) (32 ∷ ds) (kind-one_line event.kind)
          (All-cons (λ b. b ≢ 10) 32 ds (λ z. omega (arith, z)) (digits-one_line ds all));
      small = omega (arith, digits_value-lt 16 ds all, most, value);
      said = said event.kind ds event.info is;
    }

-- the digits are `count` of those bytes of the front that follow the first two
pub event-begins : (event : EventLine) (text : List ℕ) (count : ℕ) → 11 ≤ length text
    → get_or (take 11 text) 0 0 ≡ event_byte event.kind → get_or (take 11 text) 1 0 ≡ 32
    → event.bytes ≡ count + 3 → 0 < count → count < 9 → AllDigits 16 (take count (drop 2 (take 11 text)))
    → event.info ≡ digits_value 16 (take count (drop 2 (take 11 text)))
    → get_or (drop 2 (take 11 text)) count 0 ≡ 10 → BeginsWithEvent text event
event-begins event [] count long kind blank counted some few all value feed = absurd (omega arith)
event-begins event (a ∷ []) count long kind blank counted some few all value feed = absurd (omega arith)
event-begins event (a ∷ b ∷ tail) count long kind blank counted some few all value feed =
    let same : take count (take 9 tail) ≡ take count tail = take-take count 9 tail (omega arith) in
    let at : get_or tail count 0 ≡ 10 = sym (get_or-take 9 tail count 0 (omega arith)) ∙ feed in
    let back : drop count tail ≡ 10 ∷ drop (suc count) tail =
    drop-cons tail count 0 (omega arith) ∙ ap (λ x. x ∷ drop (suc count) tail) at in
    let whole : tail ≡ take count tail ++ (10 ∷ drop (suc count) tail) =
    sym (take-append-drop count tail) ∙ ap (λ l. take count tail ++ l) back in
    let size : length (take count tail) ≡ count = length-take-le count tail (omega arith) in
    let after : drop event.bytes (a ∷ b ∷ tail) ≡ drop (suc count) tail =
    ap (λ n. drop n (a ∷ b ∷ tail))
    (counted ∙ (let three : count + 3 ≡ suc (suc (suc count)) = omega arith in three)) in
    begins event (a ∷ b ∷ tail) (take count tail) (drop (suc count) tail) (λ i. kind i ∷ blank i ∷ whole i) (sym after)
    (omega (arith, counted, size)) (omega (arith, size)) (omega (arith, size))
    (subst (AllDigits 16) same all) (value ∙ ap (digits_value 16) same)
