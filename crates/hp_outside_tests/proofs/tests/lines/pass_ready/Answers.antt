-- The bytes that are lent are one line with its line feed.
use Rattle.std.proofs.Common.{rules, ◌≡◌, ◌≢◌, ◌<◌, ℕ, List, [], ◌∷◌, length, take, refl, arith}
use Rattle.std.proofs.lemmas.List.Elements.{All-cons, All-nil}
use Rattle.hp_outside.specs.WholeLines.{IsLineText, IsWholeLines}
use Rattle.hp_outside_tests.proofs.tests.lines.pass_ready.Goals as goal

-- a byte more that is no line feed
other : (byte : ℕ) (line : List ℕ) → 10 < byte → IsLineText line → IsLineText (byte ∷ line)
other byte line above text = All-cons (λ b. b ≢ 10) byte line (λ is. omega (arith, is)) text

-- one line
whole : (bytes : List ℕ) → bytes ≡ 43 ∷ 32 ∷ 49 ∷ 10 ∷ [] → IsWholeLines bytes 1
whole bytes is = record {
  lines = (43 ∷ 32 ∷ 49 ∷ []) ∷ [];
  texts =
      All-cons IsLineText (43 ∷ 32 ∷ 49 ∷ []) []
      (other 43 (32 ∷ 49 ∷ []) (omega arith)
      (other 32 (49 ∷ []) (omega arith) (other 49 [] (omega arith) (All-nil (λ b. b ≢ 10)))))
      (All-nil IsLineText);
  text = is;
  count = refl;
}

pub pass-requires-clause-whole : goal.pass-requires-clause-whole
pass-requires-clause-whole c =
    let lent = take (length c.as_slice-ready.result.now) c.args.reader.now.kept in
    let same : lent ≡ 43 ∷ 32 ∷ 49 ∷ 10 ∷ [] = search rules in
    whole lent same
