-- What is gathered of a stack on the way outwards, with the segments that begin there.
use Rattle.std.proofs.Common.{◌≡◌, ◌≢◌, ℕ, ◌+◌, ◌-◌, ◌<◌, ◌≤◌, eqb, inl, inr, ◌⊎◌, Bool, true, false, List, [], ◌∷◌}
use Rattle.std.proofs.Common.{◌++◌, drop, get_or, length, set, take, Option, Some, refl, ap, ap₂, ◌∙◌, sym, subst}
use Rattle.std.proofs.Common.{arith, append_assoc, append-nil, length-append}
use Rattle.std.specs.Prelude.{All, IfSome}
use Rattle.std.proofs.lemmas.Bool.Decides.{nat_tests}
use Rattle.std.proofs.lemmas.List.{drop-append-le, drop-take, drop_all, get_or-set_other, length-set, length-take}
use Rattle.std.proofs.lemmas.List.{take-append-drop, take-append-le, take-take, take_all}
use Rattle.std.proofs.lemmas.List.Elements.{All-append, All-cons, All-nil, All-pop, All-weaker}
use Rattle.std.proofs.lemmas.Grind.{get_or-set_at}
use Rattle.std.proofs.lemmas.Option.{slice_get-get_or}
use Rattle.ht_trace.specs.StackFrames.{frames_of, outer_frames, stack_frames}
use Rattle.ht_trace.specs.TableState.{TableState}
use Rattle.cost_tree.specs.Following.{following}
use Rattle.dhat_trace.specs.declared.segment.Segment.{Segment}
use Rattle.dhat_trace.specs.Backtraces.{Tells, IsTold}
use Rattle.dhat_trace.specs.FrameTable.{AddsTexts, Keeps, frame_texts}
use Rattle.dhat_trace.specs.KnownPlaces.{AreTold, GainsPlaces, HavePlaces, instruction_texts}
use Rattle.dhat_trace.specs.Segments.{IsGathered, IsSegment}
use Rattle.dhat_trace.proofs.KnownLemmas.{adds_known, gains_all, known_later, known_more, outer_are, outer_step}
use Rattle.dhat_trace.proofs.KnownLemmas.{outer_texts, places_both, places_stay}
use Rattle.dhat_trace.proofs.PlaceLemmas.{adds_more, keeps_later}

-- the places from a segment's start on are those of its stack's frames, but for what the stack that is left has
pub record IsBegun (tables : TableState) (table : List (List ℕ)) (at : ℕ) (places : List ℕ)
    (segment : Segment) : Type 0 where
  pub held : segment.stack ≤ length tables.nodes
  pub within : segment.start ≤ length places
  pub behind : (new : List (List ℕ)) (outer : List ℕ) → Keeps table new → HavePlaces new (outer_texts tables at) outer
      → HavePlaces new (frame_texts tables segment.stack) (drop segment.start places ++ outer)

-- a segment that begins here
pub begun_here : (tables : TableState) (table : List (List ℕ)) (at : ℕ) (places : List ℕ) (start : ℕ) → at ≢ 0
    → at ≤ length tables.nodes → start ≡ length places
    → IsBegun tables table at places (record { stack = at; start = start })
begun_here tables table at places start some held is = record {
  held = held;
  within = omega (arith, is);
  behind = λ new outer keeps there.
      let nothing : drop start places ≡ [] = drop_all start places (omega (arith, is)) in
      subst (λ (front : List ℕ). HavePlaces new (frame_texts tables at) (front ++ outer)) (sym nothing)
      (subst (λ (texts : List (List ℕ)). HavePlaces new texts outer) (outer_are tables at some) there);
}

-- one that may begin here
pub begun_noted : (P : Segment → Type 0) (old new : List Segment) (segment : Segment)
    → (new ≡ old) ⊎ (new ≡ old ++ segment ∷ [])
    → All P old → P segment → All P new
begun_noted P old new segment noted all one = elim noted [
  | inl same ↦ subst (All P) (sym same) all
  | inr more ↦ subst (All P) (sym more) (All-append P old (segment ∷ []) all (All-cons P segment [] one (All-nil P)))
]

-- one instruction further
pub begun_more : (tables : TableState) (table new : List (List ℕ)) (at instruction caller : ℕ)
    (places own more : List ℕ) (segment : Segment)
    → at ≢ 0
    → stack_frames tables.instructions tables.nodes at
    ≡ frames_of tables.instructions instruction ++ outer_frames tables.instructions tables.nodes caller
    → Keeps table new → HavePlaces new (instruction_texts tables instruction) own → more ≡ places ++ own
    → IsBegun tables table at places segment → IsBegun tables new caller more segment
begun_more tables table new at instruction caller places own more segment some frames keeps there appended begun =
    let size = length-append places own in
    let longer = ap (λ (ps : List ℕ). length ps) appended in
    record {
      held = begun.held;
      within = omega (arith, begun.within, size, longer);
      behind = λ later outer kept held.
          let both : HavePlaces later (outer_texts tables at) (own ++ outer) =
          subst (λ (texts : List (List ℕ)). HavePlaces later texts (own ++ outer))
          (sym (outer_step tables at instruction caller some frames))
          (places_both later (instruction_texts tables instruction) own (outer_texts tables caller) outer
          (places_stay new later kept (instruction_texts tables instruction) own there) held) in
          let same : drop segment.start places ++ (own ++ outer) ≡ drop segment.start more ++ outer =
          sym (append_assoc (drop segment.start places) own outer)
          ∙ ap (λ (ps : List ℕ). ps ++ outer)
          (sym (ap (drop segment.start) appended ∙ drop-append-le segment.start places own begun.within)) in
          subst (HavePlaces later (frame_texts tables segment.stack)) same
          (begun.behind later (own ++ outer) (keeps_later table new later keeps kept) both);
    }

-- what the stack that is left has is there
begun_whole : (tables : TableState) (table : List (List ℕ)) (at : ℕ) (places outer whole : List ℕ) (segment : Segment)
    → HavePlaces table (outer_texts tables at) outer → whole ≡ places ++ outer
    → IsBegun tables table at places segment → IsSegment tables table whole segment
begun_whole tables table at places outer whole segment there is begun = record {
  held = begun.held;
  places =
      subst (HavePlaces table (frame_texts tables segment.stack))
      (sym (ap (drop segment.start) is ∙ drop-append-le segment.start places outer begun.within))
      (begun.behind table outer (λ text number held. held) there);
}

-- so the stack and all segments are gathered
pub gathered : (tables : TableState) (stack : ℕ) (old new : List (List ℕ)) (at : ℕ) (places outer whole : List ℕ)
    (segments : List Segment)
    → ((later : List (List ℕ)) → AddsTexts new (outer_texts tables at) later
    → AddsTexts old (frame_texts tables stack) later)
    → IsBegun tables new at places (record { stack = stack; start = 0 }) → All (IsBegun tables new at places) segments
    → HavePlaces new (outer_texts tables at) outer → whole ≡ places ++ outer
    → IsGathered tables stack old new whole segments
gathered tables stack old new at places outer whole segments adds first begun there is =
    let all : IsSegment tables new whole (record { stack = stack; start = 0 }) =
    begun_whole tables new at places outer whole (record { stack = stack; start = 0 }) there is first in
    record {
      added = adds new (adds_known new (outer_texts tables at) outer there);
      places = all.places;
      each =
          All-weaker (IsBegun tables new at places) (IsSegment tables new whole)
          (λ segment begun. begun_whole tables new at places outer whole segment there is begun) segments begun;
    }

-- what was told of the stack that is left
pub told_outer : (tables : TableState) (table told : List (List ℕ)) (at : ℕ) → at ≢ 0 → at ≤ length tables.nodes
    → AreTold tables table told → 0 < length (get_or told at [])
    → HavePlaces table (outer_texts tables at) (get_or told at [])
told_outer tables table told at some held are known =
    subst (λ (texts : List (List ℕ)). HavePlaces table texts (get_or told at [])) (sym (outer_are tables at some))
    (are.told at (get_or told at []) (slice_get-get_or told at [] (omega (arith, held, are.count))) known)

-- of stack 0
pub root_gathered : (tables : TableState) (stack : ℕ) (old texts new : List (List ℕ)) (none places whole : List ℕ)
    (segments : List Segment)
    → texts ≡ frame_texts tables stack
    → none ≡ [] → segments ≡ [] → whole ≡ places ++ [] → GainsPlaces old none texts new places
    → IsGathered tables stack old new whole segments
root_gathered tables stack old texts new none places whole segments are empty no_segments is gains = record {
  added = subst (λ (ts : List (List ℕ)). AddsTexts old ts new) are gains.added;
  places =
      subst (λ (ts : List (List ℕ)). HavePlaces new ts whole) are
      (subst (HavePlaces new texts) (sym (is ∙ append-nil places)) (gains_all old texts new none places empty gains));
  each = subst (All (IsSegment tables new whole)) (sym no_segments) (All-nil (IsSegment tables new whole));
}

-- one instruction further
pub adds_outwards : (tables : TableState) (old table new : List (List ℕ)) (stack at instruction caller : ℕ) → at ≢ 0
    → stack_frames tables.instructions tables.nodes at
    ≡ frames_of tables.instructions instruction ++ outer_frames tables.instructions tables.nodes caller
    → ((later : List (List ℕ)) → AddsTexts table (outer_texts tables at) later
    → AddsTexts old (frame_texts tables stack) later)
    → AddsTexts table (instruction_texts tables instruction) new
    → (later : List (List ℕ)) → AddsTexts new (outer_texts tables caller) later
    → AddsTexts old (frame_texts tables stack) later
adds_outwards tables old table new stack at instruction caller some frames adds added later more =
    adds later
    (subst (λ (texts : List (List ℕ)). AddsTexts table texts later)
    (sym (outer_step tables at instruction caller some frames))
    (adds_more table new later (instruction_texts tables instruction) (outer_texts tables caller) added more))

-- a stack that was told stays so where another one is told
still_told : (tables : TableState) (table told : List (List ℕ)) (stack : ℕ) (own : List ℕ) → stack < length told
    → HavePlaces table (frame_texts tables stack) own
    → (other : ℕ) → IsTold tables table told other → IsTold tables table (set told stack own) other
still_told tables table told stack own within held other was = by (eqb other stack) refl
  where
    by : (b : Bool) → eqb other stack ≡ b → IsTold tables table (set told stack own) other
    by true test =
        let same : other ≡ stack = grind (arith, nat_tests) in
        subst (λ (places : List ℕ). HavePlaces table (frame_texts tables other) places)
        (sym (get_or-set_at told stack other own [] same within))
        (subst (λ (n : ℕ). HavePlaces table (frame_texts tables n) own) (sym same) held)
    by false test =
        let differs : other ≢ stack = grind (arith, nat_tests) in
        subst (λ (places : List ℕ). HavePlaces table (frame_texts tables other) places)
        (sym (get_or-set_other told stack other own [] differs)) was

-- one stack is told
tells : (tables : TableState) (before table told : List (List ℕ)) (at : ℕ) (own : List ℕ) → at < length told
    → HavePlaces table (frame_texts tables at) own
    → AreTold tables table told → ((other : ℕ) → IsTold tables table before other → IsTold tables table told other)
    → AreTold tables table (set told at own)
    × ((other : ℕ) → IsTold tables table before other → IsTold tables table (set told at own) other)
tells tables before table told at own within held are kept = (
  known_more (frame_texts tables) (length tables.nodes + 1) table told at own are held,
  λ other was. still_told tables table told at own within held other (kept other was),
)

-- on the way inwards the places up to here, and then those of the list that comes next, are those of the stack
pub record IsInwards (tables : TableState) (stack : ℕ) (before table told : List (List ℕ)) (places : List ℕ) (end : ℕ)
    (next : Option ℕ) (segments : List Segment) : Type 0 where
  pub within : end ≤ length places
  pub held : IfSome next (λ other. other < length told)
  pub told_are : AreTold tables table told
  pub kept : (other : ℕ) → IsTold tables table before other → IsTold tables table told other
  pub own : HavePlaces table (frame_texts tables stack) (take end places ++ following told next)
  pub each : All (IsSegment tables table (take end places ++ following told next)) segments

-- from the outermost segment on
pub inwards_first : (tables : TableState) (stack : ℕ) (old told table : List (List ℕ)) (places : List ℕ) (end : ℕ)
    (next : Option ℕ) (segments : List Segment)
    → end ≡ length places
    → IfSome next (λ other. other < length told) → AreTold tables old told
    → IsGathered tables stack old table (places ++ following told next) segments
    → IsInwards tables stack told table told places end next segments
inwards_first tables stack old told table places end next segments is held are all =
    let whole : places ++ following told next ≡ take end places ++ following told next =
    ap (λ (ps : List ℕ). ps ++ following told next) (sym (take_all end places (omega (arith, is)))) in
    record {
      within = omega (arith, is);
      held = held;
      told_are = known_later (frame_texts tables) (length tables.nodes + 1) old table told all.added.keeps are;
      kept = λ other was. was;
      own = subst (HavePlaces table (frame_texts tables stack)) whole all.places;
      each = subst (λ (ps : List ℕ). All (IsSegment tables table ps) segments) whole all.each;
    }

-- the places of a segment, and those behind it
segment_places : (places rest : List ℕ) (start end : ℕ) → start < end → end ≤ length places
    → take (end - start) (drop start places) ++ rest ≡ drop start (take end places ++ rest)
segment_places places rest start end less within =
    let size = length-take end places in
    let sum : end ≡ start + (end - start) = omega arith in
    ap (λ (ps : List ℕ). ps ++ rest)
    (sym (ap (λ (n : ℕ). drop start (take n places)) sum ∙ drop-take start (end - start) places))
    ∙ sym (drop-append-le start (take end places) rest (omega (arith, less, within, size)))

segment_whole : (places rest own : List ℕ) (start end : ℕ) → start < end → end ≤ length places
    → own ≡ drop start (take end places ++ rest) → take start places ++ own ≡ take end places ++ rest
segment_whole places rest own start end less within is =
    let size = length-take end places in
    let first : take start (take end places ++ rest) ≡ take start places =
    take-append-le start (take end places) rest (omega (arith, less, within, size))
    ∙ take-take start end places (omega arith) in
    ap₂ (λ (front behind : List ℕ). front ++ behind) (sym first) is ∙ take-append-drop start (take end places ++ rest)

-- a segment more is told
pub inwards_more : (tables : TableState) (stack : ℕ) (before table told more : List (List ℕ)) (places own : List ℕ)
    (end : ℕ) (next : Option ℕ) (segments rest : List Segment) (segment : Segment)
    → segments ≡ rest ++ segment ∷ []
    → segment.start < end → own ≡ take (end - segment.start) (drop segment.start places)
    → more ≡ set told segment.stack (own ++ following told next)
    → IsInwards tables stack before table told places end next segments
    → IsInwards tables stack before table more places segment.start (Some segment.stack) rest
inwards_more tables stack before table told more places own end next segments rest segment are less own_is more_is is =
    let whole : List ℕ = take end places ++ following told next in
    let list : List ℕ = own ++ following told next in
    let popped = All-pop (IsSegment tables table whole) segments rest (Some segment) are is.each in
    let list_is : list ≡ drop segment.start whole =
    ap (λ (ps : List ℕ). ps ++ following told next) own_is
    ∙ segment_places places (following told next) segment.start end less is.within in
    let within : segment.stack < length told = omega (arith, popped.1.held, is.told_are.count) in
    let told_list : get_or more segment.stack [] ≡ list =
    ap (λ (lists : List (List ℕ)). get_or lists segment.stack []) more_is
    ∙ get_or-set_at told segment.stack segment.stack list [] refl within in
    let same : whole ≡ take segment.start places ++ get_or more segment.stack [] =
    sym (segment_whole places (following told next) list segment.start end less is.within list_is)
    ∙ ap (λ (ps : List ℕ). take segment.start places ++ ps) (sym told_list) in
    let own_held : HavePlaces table (frame_texts tables segment.stack) list =
    subst (HavePlaces table (frame_texts tables segment.stack)) (sym list_is) popped.1.places in
    let both = tells tables before table told segment.stack list within own_held is.told_are is.kept in
    let count = length-set told segment.stack list in
    let many = ap (λ (lists : List (List ℕ)). length lists) more_is in
    record {
      within = omega (arith, less, is.within);
      held = omega (arith, within, count, many);
      told_are = subst (AreTold tables table) (sym more_is) both.0;
      kept =
          λ other was. subst (λ (lists : List (List ℕ)). IsTold tables table lists other) (sym more_is)
          (both.1 other was);
      own = subst (HavePlaces table (frame_texts tables stack)) same is.own;
      each = subst (λ (ps : List ℕ). All (IsSegment tables table ps) rest) same popped.0;
    }

-- and the stack itself
pub inwards_last : (tables : TableState) (stack : ℕ) (old before table told more : List (List ℕ)) (places own : List ℕ)
    (end : ℕ) (next : Option ℕ) (segments : List Segment)
    → stack ≤ length tables.nodes
    → Keeps old table → own ≡ take end places → more ≡ set told stack (own ++ following told next)
    → IsInwards tables stack before table told places end next segments → Tells tables stack old before table more
inwards_last tables stack old before table told more places own end next segments node keeps own_is more_is is =
    let list : List ℕ = own ++ following told next in
    let within : stack < length told = omega (arith, node, is.told_are.count) in
    let held : HavePlaces table (frame_texts tables stack) list =
    subst (HavePlaces table (frame_texts tables stack)) (ap (λ (ps : List ℕ). ps ++ following told next) (sym own_is))
    is.own in
    let both = tells tables before table told stack list within held is.told_are is.kept in
    subst (Tells tables stack old before table) (sym more_is) (record {
      told_are = both.0;
      own =
          subst (HavePlaces table (frame_texts tables stack)) (sym (get_or-set_at told stack stack list [] refl within))
          held;
      kept =
          λ other was. both.1 other (places_stay old table keeps (frame_texts tables other)
          (get_or before other []) was);
    })
