-- Lemmas on the numbers of places as they are given out, and on what they tell.
use Rattle.std.proofs.Common.{◌≡◌, ◌≢◌, ℕ, suc, ◌+◌, ◌<◌, ◌≤◌, inl, inr, eqb, Bool, true, false, List, [], ◌∷◌, ◌++◌}
use Rattle.std.proofs.Common.{length, map, set, get_or, Some, refl, sym, ap, ◌∙◌, subst, arith}
use Rattle.std.specs.Prelude.{All, slice_get}
use Rattle.std.proofs.lemmas.Bool.{cases_lt}
use Rattle.std.proofs.lemmas.Bool.Decides.{nat_tests}
use Rattle.std.proofs.lemmas.Grind.{get_or-set_at}
use Rattle.std.proofs.lemmas.List.{get_or-set_other, length-set}
use Rattle.std.proofs.lemmas.Option.{get_or_from_slice_get, same_Some, slice_get-get_or, slice_get_within}
use Rattle.intern_tables.specs.Distinct.{AreDistinct}
use Rattle.ht_trace.specs.FrameText.{frame_text}
use Rattle.ht_trace.specs.StackFrames.{frames_of, stack_frames}
use Rattle.ht_trace.specs.TableState.{TableState}
use Rattle.ht_trace.specs.declared.frame.FrameAt.{FrameAt}
use Rattle.ht_trace.specs.declared.frame.Style.TheVariants.{Plain}
use Rattle.ht_print.specs.declared.places.Places.{Places}
use Rattle.ht_print.specs.PlaceTable.{AreKnown, instruction_place}
use Rattle.ht_print.specs.Places.{TellPlaces, number_at}
use Rattle.ht_print.specs.ReportGroups.{innermost, place_of}

-- a stack's place is that of its own instruction
pub place-by : (tables : TableState) (stack instruction : ℕ) (outer : List FrameAt)
    → stack_frames tables.instructions tables.nodes stack ≡ frames_of tables.instructions instruction ++ outer
    → 1 ≤ length (frames_of tables.instructions instruction)
    → place_of tables stack ≡ instruction_place tables instruction
unfolding place_of instruction_place
place-by tables stack instruction outer frames some =
    ap (λ (ats : List FrameAt). innermost (map (frame_text Plain tables) ats)) frames
    ∙ by (frames_of tables.instructions instruction) some
  where
    by : (own : List FrameAt) → 1 ≤ length own
        → innermost (map (frame_text Plain tables) (own ++ outer)) ≡ innermost (map (frame_text Plain tables) own)
    by [] none = absurd (omega arith)
    by (at ∷ more) some = refl

-- no instruction has a number yet
pub none-known : (tables : TableState) (names : List (List ℕ)) (known : List ℕ)
    → length known ≡ length tables.instructions + 1 → All (λ n. n ≡ 0) known → AreKnown tables names known
none-known tables names known count all = record {
  count = count;
  told = λ instruction number is.
      let at = get_or_from_slice_get known instruction (suc number) 0 is in
      let none = all instruction 0 (slice_get_within known instruction (suc number) is) in
      absurd (omega (arith, at, none));
}

-- what is known stays known as texts come
pub known-stays : (tables : TableState) (names new : List (List ℕ)) (known : List ℕ)
    → ((n : ℕ) (name : List ℕ) → slice_get names n ≡ Some name → slice_get new n ≡ Some name)
    → AreKnown tables names known → AreKnown tables new known
known-stays tables names new known stay are = record {
  count = are.count;
  told = λ instruction number is. stay number (instruction_place tables instruction) (are.told instruction number is);
}

set-within : (known : List ℕ) (instruction other number found : ℕ)
    → slice_get (set known instruction number) other ≡ Some found → other < length known
set-within known instruction other number found is =
    omega (
      arith,
      slice_get_within (set known instruction number) other found is,
      length-set known instruction number,
    )

-- one instruction more
pub known-more : (tables : TableState) (names : List (List ℕ)) (known : List ℕ) (instruction number : ℕ)
    → slice_get names number ≡ Some (instruction_place tables instruction)
    → AreKnown tables names known → AreKnown tables names (set known instruction (number + 1))
known-more tables names known instruction number has are = record {
  count = length-set known instruction (number + 1) ∙ are.count;
  told = λ other k is. by other k is (eqb other instruction) refl;
}
  where
    by : (other k : ℕ) → slice_get (set known instruction (number + 1)) other ≡ Some (suc k) → (b : Bool)
        → eqb other instruction ≡ b → slice_get names k ≡ Some (instruction_place tables other)
    by other k is true test =
        let same : other ≡ instruction = grind (arith, nat_tests) in
        let within = set-within known instruction other (number + 1) (suc k) is in
        let here = get_or-set_at known instruction other (number + 1) 0 same (omega (arith, within, same)) in
        let there = get_or_from_slice_get (set known instruction (number + 1)) other (suc k) 0 is in
        let number_is : number ≡ k = omega (arith, here, there) in
        subst (λ (n : ℕ). slice_get names n ≡ Some (instruction_place tables other)) number_is
        (subst (λ (n : ℕ). slice_get names number ≡ Some (instruction_place tables n)) (sym same) has)
    by other k is false test =
        let apart : other ≢ instruction = grind (arith, nat_tests) in
        let within = set-within known instruction other (number + 1) (suc k) is in
        let there : get_or known other 0 ≡ suc k =
        sym (get_or-set_other known instruction other (number + 1) 0 apart)
        ∙ get_or_from_slice_get (set known instruction (number + 1)) other (suc k) 0 is in
        are.told other k (slice_get-get_or known other 0 within ∙ ap (λ (n : ℕ). Some n) there)

-- a name stands at one place
one-place : (names : List (List ℕ)) (i j : ℕ) (name : List ℕ) → AreDistinct names → slice_get names i ≡ Some name
    → slice_get names j ≡ Some name → i ≡ j
one-place names i j name distinct at_i at_j =
    let within_i = slice_get_within names i name at_i in
    let within_j = slice_get_within names j name at_j in
    let same : get_or names i [] ≡ get_or names j [] =
    get_or_from_slice_get names i name [] at_i ∙ sym (get_or_from_slice_get names j name [] at_j) in
    elim (cases_lt i j) [
      | inl less ↦ absurd (distinct i j [] less within_j same)
      | inr over ↦ elim (cases_lt j i) [
        | inl more ↦ absurd (distinct j i [] more within_i (sym same))
        | inr under ↦ omega arith
      ]
    ]

-- the numbers of all stacks' texts tell their places apart
pub tell-places : (tables : TableState) (names : List (List ℕ)) (places : Places) → AreDistinct names
    → length places.numbers.items ≡ length tables.nodes + 1 → places.count ≡ length names
    → ((stack : ℕ) → stack < length tables.nodes + 1
    → slice_get names (number_at places stack) ≡ Some (place_of tables stack))
    → TellPlaces tables places
tell-places tables names places distinct held count told = record {
  held = held;
  within =
      λ stack within. let inside = slice_get_within names (number_at places stack) (place_of tables stack)
      (told stack (omega arith)) in omega (arith, inside, count);
  same_number = λ one other within_one within_other same.
      one-place names (number_at places one) (number_at places other) (place_of tables other) distinct
      (told one (omega arith) ∙ ap (λ (p : List ℕ). Some p) same) (told other (omega arith));
  same_place = λ one other within_one within_other same.
      same_Some (place_of tables one) (place_of tables other)
      (sym (told one (omega arith)) ∙ ap (λ (n : ℕ). slice_get names n) same ∙ told other (omega arith));
}
