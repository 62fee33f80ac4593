-- What the crates above may cite: appends, one after another, of which the last may fail; the digits of hexadecimal
-- texts; and the elements of a list that grows.
use Rattle.std.proofs.Common.{◌≡◌, ℕ, zero, suc, ◌<◌, ◌≤◌, List, [], ◌∷◌, ◌++◌, length, take, drop, Result, Ok, Err}
use Rattle.std.proofs.Common.{OnOk, OnErr, refl, sym, ap, ◌∙◌, arith, Some}
use Rattle.std.proofs.lemmas.List.{take-append-le, length-take, take-append-drop}
use Rattle.std.proofs.Math.Seq.{take-append_seam, take-length}
use Rattle.std.specs.List.{slice_get}
use Rattle.std.specs.Str.Parse.{AllDigits, digits_value}
use Rattle.hp_num.specs.Extends.{Extends}
use Rattle.hp_num.specs.ParsedHex.{parsed_hex}
use Rattle.hp_num.proofs.HexTexts.{parsed_numeral}
pub use Rattle.hp_num.proofs.HexSteps.{hexadecimal_step}
pub use Rattle.hp_num.proofs.HexTexts.{room_for_digit}
pub use Rattle.hp_num.proofs.Numerals.{and-true}

pub extends_same : (old new : List ℕ) → new ≡ old → Extends old new
extends_same old new e = record { kept = ap (take (length old)) e ∙ take-length old }

pub extends_more : (old new more : List ℕ) → new ≡ old ++ more → Extends old new
extends_more old new more e = record { kept = ap (take (length old)) e ∙ take-append_seam old more }

pub extends_trans : (old mid new : List ℕ) → Extends old mid → Extends mid new → Extends old new
extends_trans old mid new a b =
    let small : length old ≤ length mid = omega (arith, ap length a.kept, length-take (length old) mid) in
    let whole : new ≡ mid ++ drop (length mid) new =
    sym (take-append-drop (length mid) new) ∙ ap (λ l. l ++ drop (length mid) new) b.kept in
    record {
      kept = ap (take (length old)) whole ∙ take-append-le (length old) mid (drop (length mid) new) small
          ∙ a.kept;
    }

-- what a call appends that, where it fails, leaves all as it was
pub extends_put : {T E : Type 0} (result : Result T E) (old new more : List ℕ) → OnOk result (new ≡ old ++ more)
    → OnErr result (new ≡ old) → Extends old new
extends_put (Ok x) old new more appended unchanged = extends_more old new more appended
extends_put (Err e) old new more appended unchanged = extends_same old new unchanged

-- 1 to 16 hexadecimal digits are a number
pub parsed_digits : (text : List ℕ) → 0 < length text → length text ≤ 16 → AllDigits 16 text
    → parsed_hex text ≡ Some (digits_value 16 text)
parsed_digits text some short digits = parsed_numeral text (record {
  some = some;
  short = short;
  digits = digits;
})

-- an element of a list, with more behind it
pub slice_get-front : {X : Type 0} (xs more : List X) (i : ℕ) → i < length xs
    → slice_get (xs ++ more) i ≡ slice_get xs i
slice_get-front [] more i within = absurd (omega (arith, within))
slice_get-front (x ∷ xs) more zero within = refl
slice_get-front (x ∷ xs) more (suc i) within = slice_get-front xs more i (omega arith)

-- the element at the end of a list
pub slice_get-end : {X : Type 0} (xs : List X) (x : X) (i : ℕ) → i ≡ length xs → slice_get (xs ++ x ∷ []) i ≡ Some x
slice_get-end [] x zero is = refl
slice_get-end [] x (suc i) is = absurd (omega arith)
slice_get-end (y ∷ xs) x zero is = absurd (omega arith)
slice_get-end (y ∷ xs) x (suc i) is = slice_get-end xs x i (omega arith)
