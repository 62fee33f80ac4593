-- The places that texts have, as the table grows and as more texts come.
use Rattle.std.proofs.Common.{◌≡◌, ◌≢◌, ℕ, ◌+◌, ◌<◌, ◌≤◌, eqb, Bool, true, false, zero, suc, List, [], ◌∷◌, ◌++◌}
use Rattle.std.proofs.Common.{get_or, length, map, set, take, Some, refl, ap, ◌∙◌, sym, subst, arith, append_assoc}
use Rattle.std.proofs.Common.{append-nil}
use Rattle.std.specs.Prelude.{All, slice_get}
use Rattle.std.proofs.lemmas.Bool.{cond-false}
use Rattle.std.proofs.lemmas.Bool.Decides.{nat_tests}
use Rattle.std.proofs.lemmas.List.{get_or-set_other, length-set, map-append, map_push, take_more}
use Rattle.std.proofs.lemmas.List.Elements.{All-cons, All-nil}
use Rattle.std.proofs.lemmas.Grind.{get_or-set_at}
use Rattle.std.proofs.lemmas.Option.{get_or_from_slice_get, slice_get-get_or, slice_get_within}
use Rattle.intern_tables.specs.Numbers.{number_of}
use Rattle.ht_trace.specs.declared.frame.FrameAt.{FrameAt}
use Rattle.ht_trace.specs.StackFrames.{frames_of, outer_frames, stack_frames}
use Rattle.ht_trace.specs.TableState.{TableState}
use Rattle.dhat_trace.specs.FrameTable.{AddsTexts, Keeps, frame_texts, places_in, profile_frame}
use Rattle.dhat_trace.specs.KnownPlaces.{AreLists, GainsPlaces, HavePlaces, instruction_texts}
use Rattle.dhat_trace.proofs.PlaceLemmas.{adds_again, adds_more, adds_none, place_is, place_within}

-- they stay where a table keeps them
pub places_stay : (old new : List (List ℕ)) → Keeps old new → (texts : List (List ℕ)) (places : List ℕ)
    → HavePlaces old texts places → HavePlaces new texts places
places_stay old new keeps [] [] held = tt
places_stay old new keeps [] (place ∷ places) held = absurd held
places_stay old new keeps (text ∷ texts) [] held = absurd held
places_stay old new keeps (text ∷ texts) (place ∷ places) held =
    (keeps text (place + 1) held.0, places_stay old new keeps texts places held.1)

-- those of two lists
pub places_both : (table texts : List (List ℕ)) (places : List ℕ) (more : List (List ℕ)) (behind : List ℕ)
    → HavePlaces table texts places → HavePlaces table more behind
    → HavePlaces table (texts ++ more) (places ++ behind)
places_both table [] [] more behind held rest = rest
places_both table [] (place ∷ places) more behind held rest = absurd held
places_both table (text ∷ texts) [] more behind held rest = absurd held
places_both table (text ∷ texts) (place ∷ places) more behind held rest =
    (held.0, places_both table texts places more behind held.1 rest)

-- they are the places in the table
pub places_are : (table texts : List (List ℕ)) (places : List ℕ) → HavePlaces table texts places
    → places ≡ places_in table texts
places_are table [] [] held = refl
places_are table [] (place ∷ places) held = absurd held
places_are table (text ∷ texts) [] held = absurd held
places_are table (text ∷ texts) (place ∷ places) held =
    ap (λ (p : ℕ). p ∷ places) (sym (place_is table text place held.0))
    ∙ ap (λ (ps : List ℕ). places_in table (text ∷ []) ++ ps) (places_are table texts places held.1)

pub places_within : (table texts : List (List ℕ)) (places : List ℕ) → HavePlaces table texts places
    → All (λ place. place < length table) places
places_within table [] [] held = All-nil (λ p. p < length table)
places_within table [] (place ∷ places) held = absurd held
places_within table (text ∷ texts) [] held = absurd held
places_within table (text ∷ texts) (place ∷ places) held =
    All-cons (λ p. p < length table) place places (place_within table text place held.0)
    (places_within table texts places held.1)

-- texts that have places change nothing where they come again
pub adds_known : (table texts : List (List ℕ)) (places : List ℕ) → HavePlaces table texts places
    → AddsTexts table texts table
adds_known table [] [] held = adds_none table
adds_known table [] (place ∷ places) held = absurd held
adds_known table (text ∷ texts) [] held = absurd held
adds_known table (text ∷ texts) (place ∷ places) held =
    adds_more table table table (text ∷ []) texts (adds_again table text place held.0)
    (adds_known table texts places held.1)

-- no texts, and texts behind others
pub gains_none : (table : List (List ℕ)) (places : List ℕ) → GainsPlaces table places [] table places
gains_none table places = record {
  added = adds_none table;
  told = λ front held. subst (λ (texts : List (List ℕ)). HavePlaces table texts places) (sym (append-nil front)) held;
}

gains_more : (old one new texts more : List (List ℕ)) (first second third : List ℕ)
    → GainsPlaces old first texts one second → GainsPlaces one second more new third
    → GainsPlaces old first (texts ++ more) new third
gains_more old one new texts more first second third before behind = record {
  added = adds_more old one new texts more before.added behind.added;
  told =
      λ front held. subst (λ (all : List (List ℕ)). HavePlaces new all third) (append_assoc front texts more)
      (behind.told (front ++ texts) (before.told front held));
}

-- all places, where there were none before
pub gains_all : (old texts new : List (List ℕ)) (before after : List ℕ) → before ≡ []
    → GainsPlaces old before texts new after → HavePlaces new texts after
gains_all old texts new before after none gains = gains.told [] (subst (HavePlaces old []) (sym none) tt)

-- texts that came, with their places
gains_told : (old texts new : List (List ℕ)) (before places after : List ℕ) → AddsTexts old texts new
    → HavePlaces new texts places → after ≡ before ++ places
    → GainsPlaces old before texts new after
gains_told old texts new before places after added held appended = record {
  added = added;
  told =
      λ front was. subst (HavePlaces new (front ++ texts)) (sym appended)
      (places_both new front before texts places (places_stay old new added.keeps front before was) held);
}

-- one frame more
pub frame-more : {X : Type 0} (text_of : X → List ℕ) (frames : List X) (count : ℕ) (frame : X) → count < length frames
    → (first table new : List (List ℕ)) (before places more : List ℕ) (place : ℕ)
    → GainsPlaces first before (map text_of (take count frames)) table places
    → AddsTexts table (text_of (get_or frames count frame) ∷ []) new
    → number_of new (text_of (get_or frames count frame)) ≡ Some (place + 1)
    → more ≡ places ++ place ∷ [] → GainsPlaces first before (map text_of (take (count + 1) frames)) new more
frame-more {X} text_of frames count frame held first table new before places more place gains adds number appended =
    let text : List ℕ = text_of (get_or frames count frame) in
    let texts : map text_of (take (count + 1) frames) ≡ map text_of (take count frames) ++ text ∷ [] =
    ap (map text_of) (take_more frames count frame held)
    ∙ map_push text_of (take count frames) (get_or frames count frame) in
    subst (λ (ts : List (List ℕ)). GainsPlaces first before ts new more) (sym texts)
    (gains_more first table new (map text_of (take count frames)) (text ∷ []) before places more gains
    (gains_told table (text ∷ []) new places (place ∷ []) more adds (number, tt) appended))

-- the texts of a stack's frames: those of its own instruction, and of the stack that this is called from
abbrev pub outer_texts : TableState → ℕ → List (List ℕ)
outer_texts tables caller = map (profile_frame tables) (outer_frames tables.instructions tables.nodes caller)

pub outer_are : (tables : TableState) (stack : ℕ) → stack ≢ 0 → outer_texts tables stack ≡ frame_texts tables stack
unfolding frame_texts
outer_are tables stack some =
    ap (map (profile_frame tables))
    (cond-false (eqb stack 0) [] (stack_frames tables.instructions tables.nodes stack) (grind (arith, nat_tests)))

pub outer_step : (tables : TableState) (stack instruction caller : ℕ) → stack ≢ 0
    → stack_frames tables.instructions tables.nodes stack
    ≡ frames_of tables.instructions instruction ++ outer_frames tables.instructions tables.nodes caller
    → outer_texts tables stack ≡ instruction_texts tables instruction ++ outer_texts tables caller
outer_step tables stack instruction caller some frames =
    ap (map (profile_frame tables))
    (cond-false (eqb stack 0) [] (stack_frames tables.instructions tables.nodes stack) (grind (arith, nat_tests))
    ∙ frames)
    ∙ map-append (profile_frame tables) (frames_of tables.instructions instruction)
    (outer_frames tables.instructions tables.nodes caller)

-- of stack 0 there are none
pub outer_none : (tables : TableState) (stack : ℕ) → ((1 ≤ stack) × (stack ≤ length tables.nodes) → ⊥)
    → stack ≤ length tables.nodes → outer_texts tables stack ≡ []
outer_none tables zero unheld within = refl
outer_none tables (suc stack) unheld within = absurd (unheld (omega arith, within))

-- what is known stays known
pub known_later : (texts_of : ℕ → List (List ℕ)) (count : ℕ) (old new known : List (List ℕ)) → Keeps old new
    → AreLists texts_of count old known → AreLists texts_of count new known
known_later texts_of count old new known keeps are = record {
  count = are.count;
  told =
      λ number places held some. places_stay old new keeps (texts_of number) places (are.told number places held some);
}

-- one number more is known
pub known_more : (texts_of : ℕ → List (List ℕ)) (count : ℕ) (table known : List (List ℕ)) (number : ℕ) (own : List ℕ)
    → AreLists texts_of count table known → HavePlaces table (texts_of number) own
    → AreLists texts_of count table (set known number own)
known_more texts_of count table known number own are held = record {
  count = length-set known number own ∙ are.count;
  told = λ other places is some. by other places is some (eqb other number) refl;
}
  where
    by : (other : ℕ) (places : List ℕ) → slice_get (set known number own) other ≡ Some places → 0 < length places
        → (b : Bool) → eqb other number ≡ b
        → HavePlaces table (texts_of other) places
    by other places is some true test =
        let same : other ≡ number = grind (arith, nat_tests) in
        let within : other < length known =
        omega (arith, slice_get_within (set known number own) other places is, length-set known number own) in
        let there : own ≡ places =
        sym (get_or-set_at known number other own [] same (omega (arith, within, same)))
        ∙ get_or_from_slice_get (set known number own) other places [] is in
        subst (λ (n : ℕ). HavePlaces table (texts_of n) places) (sym same)
        (subst (HavePlaces table (texts_of number)) there held)
    by other places is some false test =
        let differs : other ≢ number = grind (arith, nat_tests) in
        let within : other < length known =
        omega (arith, slice_get_within (set known number own) other places is, length-set known number own) in
        let there : get_or known other [] ≡ places =
        sym (get_or-set_other known number other own [] differs)
        ∙ get_or_from_slice_get (set known number own) other places [] is in
        are.told other places (slice_get-get_or known other [] within ∙ ap Some there) some

-- nothing is known of empty lists
pub none_known : (texts_of : ℕ → List (List ℕ)) (count : ℕ) (table known : List (List ℕ)) → length known ≡ count
    → All (λ places. places ≡ []) known → AreLists texts_of count table known
none_known texts_of count table known size empty = record {
  count = size;
  told = λ number places held some.
      let is : places ≡ [] =
      sym (get_or_from_slice_get known number places [] held)
      ∙ empty number [] (slice_get_within known number places held) in
      let none : length places ≡ 0 = ap (λ (ps : List ℕ). length ps) is in
      absurd (omega (arith, some, none));
}

-- the places that were made of an instruction's frames
pub made_places : (tables : TableState) (instruction : ℕ) (old new : List (List ℕ)) (frames : List FrameAt)
    (none places own : List ℕ)
    → frames ≡ frames_of tables.instructions instruction
    → none ≡ [] → GainsPlaces old none (map (profile_frame tables) frames) new places → own ≡ places
    → HavePlaces new (instruction_texts tables instruction) own
made_places tables instruction old new frames none places own are empty gains is =
    subst (λ (ps : List ℕ). HavePlaces new (instruction_texts tables instruction) ps) (sym is)
    (subst (λ (fs : List FrameAt). HavePlaces new (map (profile_frame tables) fs) places) are
    (gains_all old (map (profile_frame tables) frames) new none places empty gains))
