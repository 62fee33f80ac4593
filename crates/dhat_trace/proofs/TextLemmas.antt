-- Texts of a profile are UTF-8.
use Rattle.std.proofs.Common.{◌≡◌, ℕ, ◌<◌, suc, Bool, true, false, cond, List, [], ◌∷◌, codes, get_or, ltb, ◌&&◌, map}
use Rattle.std.proofs.Common.{Some, None, refl, sym, subst, arith}
use Rattle.std.specs.Prelude.{All, IsUtf8, Option}
use Rattle.std.specs.List.{flat_map, list_all}
use Rattle.std.specs.Str.{bytes_eq, is_utf8}
use Rattle.std.proofs.lemmas.Bool.{false≢true}
use Rattle.std.proofs.lemmas.Bool.Decides.{nat_tests}
use Rattle.std.proofs.lemmas.List.Concat.{flat_map-cons}
use Rattle.std.proofs.lemmas.List.Elements.{All-append, All-cons, All-filter, All-map, All-nil}
use Rattle.std.proofs.lemmas.Str.{IsUtf8-from_ascii, IsUtf8-from_is_utf8, is_utf8-from_IsUtf8}
use Rattle.std.proofs.lemmas.Str.Ascii.{IsAscii-from_all}
use Rattle.ht_trace.specs.TableState.{TableState}
use Rattle.ht_trace.specs.StackFrames.{stack_frames}
use Rattle.intern_tables.specs.WithoutRepeats.{without_repeats}
use Rattle.dhat_trace.specs.FrameTable.{frame_texts, profile_frame, table_of}
use Rattle.dhat_trace.specs.ProfileTexts.{ascii_byte, command_text, or_none, utf8_text, without_blanks}

-- a text that is UTF-8 stays
pub utf8_stays : (text : List ℕ) → IsUtf8 text → text ≡ utf8_text text
unfolding utf8_text
utf8_stays text utf8 = rw (is_utf8-from_IsUtf8 text utf8) refl

-- any other is made ASCII
pub ascii_is : (text : List ℕ) → (IsUtf8 text → ⊥) → map ascii_byte text ≡ utf8_text text
unfolding utf8_text
ascii_is text other =
    let by_test : (b : Bool) → is_utf8 text ≡ b → map ascii_byte text ≡ cond b text (map ascii_byte text) =
    λ b. elim b as (λ b. is_utf8 text ≡ b → map ascii_byte text ≡ cond b text (map ascii_byte text)) [
      | true ↦ λ e. absurd (other (IsUtf8-from_is_utf8 text e))
      | false ↦ λ e. refl
    ] in
    by_test (is_utf8 text) refl

is_small : (b : ℕ) → ascii_byte b < 128
is_small b = grind (arith, nat_tests)

ascii_is_utf8 : (text : List ℕ) → IsUtf8 (map ascii_byte text)
ascii_is_utf8 text =
    IsUtf8-from_ascii (map ascii_byte text)
    (IsAscii-from_all (map ascii_byte text)
    (All-map (λ b. b < 128) ascii_byte text (λ k d within. is_small (get_or text k d))))

-- a text whose bytes are seen to be ASCII
ascii_seen : (text : List ℕ) → list_all (λ b. ltb b 128) text ≡ true → All (λ b. b < 128) text
ascii_seen [] seen = All-nil (λ b. b < 128)
ascii_seen (b ∷ bs) seen =
    let by_test : (t : Bool) → ltb b 128 ≡ t → (t && list_all (λ b. ltb b 128) bs) ≡ true
    → All (λ b. b < 128) (b ∷ bs) =
    λ t. elim t as (λ t. ltb b 128 ≡ t → (t && list_all (λ b. ltb b 128) bs) ≡ true → All (λ b. b < 128) (b ∷ bs)) [
      | true ↦ λ small rest. All-cons (λ b. b < 128) b bs (grind (arith, nat_tests)) (ascii_seen bs rest)
      | false ↦ λ small rest. absurd (false≢true rest)
    ] in
    by_test (ltb b 128) refl seen

pub literal_is_utf8 : (text : List ℕ) → list_all (λ b. ltb b 128) text ≡ true → IsUtf8 text
literal_is_utf8 text seen = IsUtf8-from_ascii text (IsAscii-from_all text (ascii_seen text seen))

-- what is made of a text is UTF-8
pub made_is_utf8 : (text : List ℕ) → IsUtf8 (utf8_text text)
unfolding utf8_text
made_is_utf8 text =
    let by_test : (b : Bool) → is_utf8 text ≡ b → IsUtf8 (cond b text (map ascii_byte text)) =
    λ b. elim b as (λ b. is_utf8 text ≡ b → IsUtf8 (cond b text (map ascii_byte text))) [
      | true ↦ λ e. IsUtf8-from_is_utf8 text e
      | false ↦ λ e. ascii_is_utf8 text
    ] in
    by_test (is_utf8 text) refl

none_is_utf8 : (text : List ℕ) → IsUtf8 (or_none text)
none_is_utf8 [] = literal_is_utf8 (codes "(none)") refl
none_is_utf8 (b ∷ bs) = made_is_utf8 (b ∷ bs)

pub command_is_utf8 : (command : Option (List ℕ)) → IsUtf8 (command_text command)
unfolding command_text
command_is_utf8 None = literal_is_utf8 (codes "(none)") refl
command_is_utf8 (Some text) = none_is_utf8 (without_blanks text)

-- what is true of every element is true without repeats
firsts_all : {X : Type 0} (P : X → Type 0) (same : X → X → Bool) (xs : List X) → All P xs
    → All P (without_repeats same xs)
firsts_all P same [] all = all
firsts_all P same (x ∷ xs) all =
    let tail : All P xs = λ k d within. all (suc k) d (omega arith) in
    All-cons P x _ (all 0 x (omega arith)) (All-filter _ P (without_repeats same xs) (firsts_all P same xs tail))

frames_utf8 : (tables : TableState) (stack : ℕ) → All IsUtf8 (frame_texts tables stack)
unfolding frame_texts
frames_utf8 tables stack =
    All-map IsUtf8 (profile_frame tables) (stack_frames tables.instructions tables.nodes stack)
    (λ k d within. made_is_utf8 _)

all_frames_utf8 : (tables : TableState) (stacks : List ℕ) → All IsUtf8 (flat_map (frame_texts tables) stacks)
all_frames_utf8 tables [] = All-nil IsUtf8
all_frames_utf8 tables (stack ∷ stacks) =
    subst (All IsUtf8) (sym (flat_map-cons (frame_texts tables) stack stacks))
    (All-append IsUtf8 (frame_texts tables stack) (flat_map (frame_texts tables) stacks) (frames_utf8 tables stack)
    (all_frames_utf8 tables stacks))

pub table_utf8 : (tables : TableState) (stacks : List ℕ) → All IsUtf8 (table_of tables stacks)
unfolding table_of
table_utf8 tables stacks =
    firsts_all IsUtf8 bytes_eq (codes "[root]" ∷ flat_map (frame_texts tables) stacks)
    (All-cons IsUtf8 (codes "[root]") _ (literal_is_utf8 (codes "[root]") refl) (all_frames_utf8 tables stacks))
