-- Instructions by their parts of the frames, and strings by those of the texts, when more are appended.
use Rattle.std.proofs.Common.{◌≡◌, ℕ, ◌+◌, ◌-◌, ◌^◌, ◌<◌, ◌≤◌, List, [], ◌∷◌, ◌++◌, length, take, drop, map, refl, ap}
use Rattle.std.proofs.Common.{◌∙◌, arith}
use Rattle.std.specs.List.{AllByRecursion}
use Rattle.std.proofs.lemmas.List.{map-append, take-append-le, drop-append-le, length-append, length-drop}
use Rattle.std.proofs.Math.Seq.{drop-append_seam, take-length}
use Rattle.ht_trace.specs.declared.frame.Frame.{Frame}
use Rattle.ht_trace.specs.declared.instructions.InstructionEntry.{InstructionEntry}
use Rattle.ht_trace.specs.declared.strings.TextSpan.{TextSpan}
use Rattle.ht_trace.specs.Instruction.{Instruction}
use Rattle.ht_trace.specs.InstructionEntries.{AreInstructions, instruction_of, instructions_of}
use Rattle.ht_trace.proofs.Growing.{all-push, all-weaker}
use Rattle.ht_trace.specs.StringEntries.{AreStrings, text_of, texts_of}

-- two functions that agree where P holds give the same list
map-agree : {X Y : Type 0} (P : X → Type 0) (f g : X → Y) → ((x : X) → P x → f x ≡ g x) → (xs : List X)
    → AllByRecursion P xs → map f xs ≡ map g xs
map-agree P f g same [] all = refl
map-agree P f g same (x ∷ xs) all =
    ap (λ y. y ∷ map f xs) (same x all.0) ∙ ap (λ ys. g x ∷ ys) (map-agree P f g same xs all.1)

-- a part of the frames stays the same when more are appended
part-same : (frames more : List Frame) (entry : InstructionEntry) → entry.start + entry.count ≤ length frames
    → instruction_of (frames ++ more) entry ≡ instruction_of frames entry
part-same frames more entry within =
    let front = drop-append-le entry.start frames more (omega arith) in
    let part =
    take-append-le entry.count (drop entry.start frames) more (omega (arith, length-drop entry.start frames)) in
    let same = ap (take entry.count) front ∙ part in
    ap (λ (own : List Frame). record { ip = entry.ip; module_string = entry.module_string; frames = own }) same

-- the instructions with one more, whose frames are appended
pub instructions-push : (frames more : List Frame) (entries : List InstructionEntry) (entry : InstructionEntry)
    → AreInstructions frames entries → entry.start ≡ length frames → entry.count ≡ length more
    → instructions_of (frames ++ more) (entries ++ entry ∷ [])
    ≡ instructions_of frames entries ++ record { ip = entry.ip; module_string = entry.module_string; frames = more }
    ∷ []
instructions-push frames more entries entry are start count =
    let before =
    map-agree (λ (e : InstructionEntry). e.start + e.count ≤ length frames) (instruction_of (frames ++ more))
    (instruction_of frames) (part-same frames more) entries are.within in
    let own : take entry.count (drop entry.start (frames ++ more)) ≡ more =
    rw (count, start, drop-append_seam frames more) (take-length more) in
    map-append (instruction_of (frames ++ more)) entries (entry ∷ [])
    ∙ ap (λ (xs : List Instruction). xs ++ instruction_of (frames ++ more) entry ∷ []) before
    ∙ ap (λ (own : List Frame). instructions_of frames entries
    ++ record { ip = entry.ip; module_string = entry.module_string; frames = own } ∷ []) own

pub AreInstructions-push : (frames more : List Frame) (entries : List InstructionEntry) (entry : InstructionEntry)
    → AreInstructions frames entries → entry.start ≡ length frames → entry.count ≡ length more
    → length (entries ++ entry ∷ []) ≤ 2 ^ 32 - 1 → AreInstructions (frames ++ more) (entries ++ entry ∷ [])
AreInstructions-push frames more entries entry are start count few = record {
  within =
      all-push (λ (e : InstructionEntry). e.start + e.count ≤ length (frames ++ more)) entries entry
      (all-weaker (λ (e : InstructionEntry). e.start + e.count ≤ length frames)
      (λ (e : InstructionEntry). e.start + e.count ≤ length (frames ++ more))
      (λ e within. omega (arith, length-append frames more)) entries are.within)
      (omega (arith, length-append frames more));
  few = few;
}

-- a part of the texts stays the same when more are appended
text-same : (bytes more : List ℕ) (span : TextSpan) → span.start + span.len ≤ length bytes
    → text_of (bytes ++ more) span ≡ text_of bytes span
text-same bytes more span within =
    let front = drop-append-le span.start bytes more (omega arith) in
    let part = take-append-le span.len (drop span.start bytes) more (omega (arith, length-drop span.start bytes)) in
    ap (take span.len) front ∙ part

-- the strings stay when bytes are appended
pub texts-stay : (bytes more : List ℕ) (spans : List TextSpan) → AreStrings bytes spans
    → texts_of (bytes ++ more) spans ≡ texts_of bytes spans
texts-stay bytes more spans are =
    map-agree (λ (span : TextSpan). span.start + span.len ≤ length bytes) (text_of (bytes ++ more)) (text_of bytes)
    (text-same bytes more) spans are.within

-- the strings with one more, whose text is appended
pub texts-push : (bytes text : List ℕ) (spans : List TextSpan) (span : TextSpan) → AreStrings bytes spans
    → span.start ≡ length bytes → span.len ≡ length text → texts_of (bytes ++ text)
    (spans ++ span ∷ []) ≡ texts_of bytes spans ++ text ∷ []
texts-push bytes text spans span are start len =
    let own : take span.len (drop span.start (bytes ++ text)) ≡ text = rw (len, start, drop-append_seam bytes text)
    (take-length text) in
    map-append (text_of (bytes ++ text)) spans (span ∷ [])
    ∙ ap (λ (texts : List (List ℕ)). texts ++ text_of (bytes ++ text) span ∷ []) (texts-stay bytes text spans are)
    ∙ ap (λ (own : List ℕ). texts_of bytes spans ++ own ∷ []) own

pub AreStrings-push : (bytes text : List ℕ) (spans : List TextSpan) (span : TextSpan) → AreStrings bytes spans
    → span.start ≡ length bytes → span.len ≡ length text → length spans < 2 ^ 32 - 1 → AreStrings (bytes ++ text)
    (spans ++ span ∷ [])
AreStrings-push bytes text spans span are start len few = record {
  within = all-push (λ (s : TextSpan). s.start + s.len ≤ length (bytes ++ text)) spans span
      (all-weaker (λ (s : TextSpan). s.start + s.len ≤ length bytes)
      (λ (s : TextSpan). s.start + s.len ≤ length (bytes ++ text))
      (λ s within. omega (arith, length-append bytes text)) spans are.within) (omega (arith, length-append bytes text));
  few = omega (arith, length-append spans (span ∷ []));
}
