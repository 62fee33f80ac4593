-- Shown texts: no byte of one is below a blank, and none begins with a blank.
use Rattle.std.proofs.Common.{◌≡◌, ◌≢◌, ℕ, ◌<◌, ◌≤◌, List, [], ◌∷◌, map, All, Bool, true, false, cond, ltb, refl, arith}
use Rattle.std.specs.Prelude.{◌==◌}
use Rattle.std.proofs.lemmas.Bool.{ltb-false, le-ltb, eqb-true, eqb-false}
use Rattle.std.proofs.lemmas.List.Elements.{All-nil, All-cons}
use Rattle.dhat_json.specs.Shown.{shown, shown_byte, shown_first}

byte_above : (b : ℕ) → 32 ≤ shown_byte b
byte_above b = at (ltb b 32) refl
  where
    at : (low : Bool) → ltb b 32 ≡ low → 32 ≤ cond low 63 b
    at true e = omega arith
    at false e = omega (arith, ltb-false b 32 e)

first_above : (b : ℕ) → 32 < shown_first b
first_above b = at (b == 32) refl
  where
    behind : b ≢ 32 → (low : Bool) → ltb b 32 ≡ low → 32 < cond low 63 b
    behind other true e = omega arith
    behind other false e = omega (arith, ltb-false b 32 e, other)

    at : (blank : Bool) → (b == 32) ≡ blank → 32 < cond blank 63 (shown_byte b)
    at true e = omega arith
    at false e = behind (eqb-false b 32 e) (ltb b 32) refl

bytes_above : (bs : List ℕ) → All (λ b. 32 ≤ b) (map shown_byte bs)
bytes_above [] = All-nil (λ b. 32 ≤ b)
bytes_above (b ∷ bs) = All-cons (λ b. 32 ≤ b) (shown_byte b) (map shown_byte bs) (byte_above b) (bytes_above bs)

pub shown_above : (text : List ℕ) → All (λ b. 32 ≤ b) (shown text)
shown_above [] = All-cons (λ b. 32 ≤ b) 63 [] (omega arith) (All-nil (λ b. 32 ≤ b))
shown_above (b ∷ bs) =
    All-cons (λ b. 32 ≤ b) (shown_first b) (map shown_byte bs) (let h = first_above b in omega (arith, h))
    (bytes_above bs)

pub no_line_feed : (text : List ℕ) → All (λ b. b ≢ 10) (shown text)
no_line_feed text k d lt is = let h = shown_above text k d lt in omega (arith, h, is)

-- a byte that isn't below a blank is shown as it is
byte_stays : (b : ℕ) → 32 ≤ b → shown_byte b ≡ b
byte_stays b h = rw (le-ltb b 32 h) refl

first_stays : (b : ℕ) → 32 < b → shown_first b ≡ b
first_stays b h = at (b == 32) refl
  where
    at : (blank : Bool) → (b == 32) ≡ blank → cond blank 63 (shown_byte b) ≡ b
    at true e = let is = eqb-true b 32 e in absurd (omega (arith, h, is))
    at false e = byte_stays b (omega (arith, h))

both : (b c : ℕ) (bs cs : List ℕ) → b ≡ c → bs ≡ cs → b ∷ bs ≡ c ∷ cs
both b c bs cs e f = rw (e, f) refl

bytes_again : (bs : List ℕ) → map shown_byte (map shown_byte bs) ≡ map shown_byte bs
bytes_again [] = refl
bytes_again (b ∷ bs) = both _ _ _ _ (byte_stays (shown_byte b) (byte_above b)) (bytes_again bs)

pub shown_again : (text : List ℕ) → shown (shown text) ≡ shown text
shown_again [] = refl
shown_again (b ∷ bs) = both _ _ _ _ (first_stays (shown_first b) (first_above b)) (bytes_again bs)
