-- Where a text is split, and what follows a key.
use Rattle.std.proofs.Common.{◌≡◌, ℕ, suc, ◌+◌, ◌≤◌, Bool, true, false, cond, eqb, ltb, List, [], ◌∷◌, length, take}
use Rattle.std.proofs.Common.{drop, refl, sym, ap, ◌∙◌, arith, Option, Some, None}
use Rattle.std.specs.Prelude.{unwrap_or, MatchOption, ◌&&◌}
use Rattle.std.specs.Cmp.Lexicographic.{pointwise}
use Rattle.std.specs.List.{position, position_or_len}
use Rattle.std.specs.Option.{option_copied}
use denote.Ref.{Bor}
use borrow.Author.Tests.{ltb-false}
use Rattle.massif_file.specs.Blanks.{before_byte, from_byte}
use Rattle.massif_file.specs.Fields.{value_after}

-- one more, written two ways
one-add : (n : ℕ) → 1 + n ≡ suc n
one-add n = omega arith

-- the place of the first such byte, and the length where there is none
abbrev end_of : ℕ → List ℕ → ℕ
end_of byte text = position_or_len (λ b. eqb b byte) text

module _ (byte b : ℕ) (bs : List ℕ) where
  -- the part before, at one byte more
  take-step : (t : Bool) → eqb b byte ≡ t → take (end_of byte bs) bs ≡ before_byte byte bs
      → take (end_of byte (b ∷ bs)) (b ∷ bs) ≡ before_byte byte (b ∷ bs)
  take-step true e h = rw e refl
  take-step false e h = rw e (rw one-add (ap (λ l. b ∷ l) h))

  -- the part from there on, at one byte more
  drop-step : (t : Bool) → eqb b byte ≡ t → drop (end_of byte bs) bs ≡ from_byte byte bs
      → drop (end_of byte (b ∷ bs)) (b ∷ bs) ≡ from_byte byte (b ∷ bs)
  drop-step true e h = rw e refl
  drop-step false e h = rw e (rw one-add h)

  -- the place is no further than the end, at one byte more
  within-step : (t : Bool) → eqb b byte ≡ t → end_of byte bs ≤ length bs → end_of byte (b ∷ bs) ≤ length (b ∷ bs)
  within-step true e h = rw e (omega arith)
  within-step false e h = rw e (omega arith)

-- the part before the place
take-first : (byte : ℕ) (text : List ℕ) → take (end_of byte text) text ≡ before_byte byte text
take-first byte [] = refl
take-first byte (b ∷ bs) = take-step byte b bs (eqb b byte) refl (take-first byte bs)

-- the part from the place on
drop-first : (byte : ℕ) (text : List ℕ) → drop (end_of byte text) text ≡ from_byte byte text
drop-first byte [] = refl
drop-first byte (b ∷ bs) = drop-step byte b bs (eqb b byte) refl (drop-first byte bs)

-- the place is no further than the end
end_within : (byte : ℕ) (text : List ℕ) → end_of byte text ≤ length text
end_within byte [] = omega arith
end_within byte (b ∷ bs) = within-step byte b bs (eqb b byte) refl (end_within byte bs)

-- the place that is found, or the end
place_or_end : (byte : ℕ) (text : List ℕ) (t : Bool) → ltb (end_of byte text) (length text) ≡ t
    → unwrap_or (cond t (Some (end_of byte text)) None) (length text) ≡ end_of byte text
place_or_end byte text true e = refl
place_or_end byte text false e = omega (arith, end_within byte text, ltb-false (end_of byte text) (length text) e)

-- the place where a text is split
end-place : (byte : ℕ) (text : List ℕ) (o : Option ℕ) (end : ℕ) → o ≡ position (λ b. eqb b byte) text
    → end ≡ unwrap_or o (length text) → end ≡ end_of byte text
end-place byte text o end p q =
    q ∙ ap (λ k. unwrap_or k (length text)) p ∙ place_or_end byte text (ltb (end_of byte text) (length text)) refl

-- the part before, by what the code found
pub take-end : (byte : ℕ) (text : List ℕ) (o : Option ℕ) (end : ℕ) → o ≡ position (λ b. eqb b byte) text
    → end ≡ unwrap_or o (length text) → take end text ≡ before_byte byte text
take-end byte text o end p q = ap (λ k. take k text) (end-place byte text o end p q) ∙ take-first byte text

-- the part from there on, by what the code found
pub drop-end : (byte : ℕ) (text : List ℕ) (o : Option ℕ) (end : ℕ) → o ≡ position (λ b. eqb b byte) text
    → end ≡ unwrap_or o (length text) → drop end text ≡ from_byte byte text
drop-end byte text o end p q = ap (λ k. drop k text) (end-place byte text o end p q) ∙ drop-first byte text

-- what the test of a front says
abbrev stripped : List ℕ → List ℕ → Option (List ℕ)
stripped key line = cond (pointwise eqb (take (length key) line) key) (Some (drop (length key) line)) None

-- the test of a front compares byte by byte
value_after-stripped : (key line : List ℕ) → value_after key line ≡ stripped key line
value_after-stripped [] line = refl
value_after-stripped (k ∷ key) [] = refl
value_after-stripped (k ∷ key) (b ∷ line) = by (eqb b k) (value_after-stripped key line)
  where
    by : (t : Bool) → value_after key line ≡ stripped key line
        → cond t (value_after key line) None
        ≡ cond (t && pointwise eqb (take (length key) line) key) (Some (drop (length key) line)) None
    by true h = h
    by false h = refl

-- what `strip_prefix` answers
pub strips : (key line : List ℕ) (o : Option (Bor (List ℕ)))
    → MatchOption o (pointwise eqb (take (length key) line) key ≡ false)
    (λ x. (pointwise eqb (take (length key) line) key ≡ true) × (x.now ≡ drop (length key) line)
    × (length x.now + length key ≡ length line))
    → option_copied o ≡ value_after key line
strips key line None h =
    sym (value_after-stripped key line ∙ ap (λ (t : Bool). cond t (Some (drop (length key) line)) None) h)
strips key line (Some x) h =
    ap Some h.1
    ∙ sym (value_after-stripped key line ∙ ap (λ (t : Bool). cond t (Some (drop (length key) line)) None) h.0)
