-- Lemmas on texts by numbers of names.
use Rattle.std.proofs.Common.{◌≡◌, ℕ, ◌<◌, ◌≤◌, List, [], ◌∷◌, ◌++◌, length, map, get_or, Option, Some, refl, sym, ap}
use Rattle.std.proofs.Common.{◌∙◌, subst, arith}
use Rattle.std.specs.Prelude.{All, slice_index, unwrap_or}
use Rattle.std.proofs.lemmas.List.{get_or-map, length-map, map-append}
use Rattle.std.proofs.lemmas.List.Elements.{All-cons, All-get_or, All-head, All-nil, All-push, All-tail, All-weaker}
use Rattle.cost_tree.specs.Texts.{AreTexts, IsText, lists_of, text_of, texts_of}
use Rattle.dhat_json.specs.declared.profile.Dhat.{Dhat}
use Rattle.dhat_json.specs.declared.profile.Point.{Point}
use Rattle.dhat_json.specs.IsSound.{IsSound, IsSoundPoint}
use Rattle.dhat_json.specs.Shown.{shown}
use Rattle.intern_tables.specs.Numbers.{name_at}
use Rattle.dhat_view.specs.Numbers.{AreNumbers, numbers_at, numbers_in}
use Rattle.dhat_view.specs.PointFronts.{lists_in, point_fronts, texts_at}

-- numbers stay those of their texts while names are added
pub kept : (old new : List (List ℕ)) → ((n : ℕ) → n ≤ length old → name_at new n ≡ name_at old n)
    → length old ≤ length new → (numbers : List ℕ) (texts : List (List ℕ)) → AreNumbers old numbers texts
    → AreNumbers new numbers texts
unfolding text_of
kept old new stay none_lost numbers texts are = record {
  held = All-weaker (IsText old) (IsText new) (λ n is. (is.0, omega arith)) numbers are.held;
  texts_are = same numbers are.held ∙ are.texts_are;
}
  where
    same : (ns : List ℕ) → All (IsText old) ns → texts_of new ns ≡ texts_of old ns
    same [] held = refl
    same (n ∷ ns) held =
        let first = All-head (IsText old) n ns held in
        let rest = same ns (All-tail (IsText old) n ns held) in
        ap (λ (found : Option (List ℕ)). unwrap_or found [] ∷ texts_of new ns) (stay n first.1)
        ∙ ap (λ (ts : List (List ℕ)). text_of old n ∷ ts) rest

-- a number more
pub pushed : (names : List (List ℕ)) (numbers : List ℕ) (texts : List (List ℕ)) (number : ℕ) (text : List ℕ)
    → AreNumbers names numbers texts → IsText names number → text_of names number ≡ text
    → AreNumbers names (numbers ++ number ∷ []) (texts ++ text ∷ [])
pushed names numbers texts number text are is text_is = record {
  held = All-push (IsText names) numbers number are.held is;
  texts_are =
      map-append (text_of names) numbers (number ∷ [])
      ∙ ap (λ (ts : List (List ℕ)). ts ++ text_of names number ∷ []) are.texts_are
      ∙ ap (λ (t : List ℕ). texts ++ t ∷ []) text_is;
}

-- a text by the name that has its number
pub named : (names : List (List ℕ)) (n : ℕ) (text : List ℕ) → name_at names n ≡ Some text → text_of names n ≡ text
unfolding text_of
named names n text is = ap (λ (found : Option (List ℕ)). unwrap_or found []) is

-- no numbers
pub no-numbers : (names : List (List ℕ)) → AreNumbers names [] []
no-numbers names = record { held = All-nil (IsText names); texts_are = refl }

-- one number for each text
pub numbers-count : (names : List (List ℕ)) (numbers : List ℕ) (texts : List (List ℕ)) → AreNumbers names numbers texts
    → length numbers ≡ length texts
numbers-count names numbers texts are = sym (length-map numbers (text_of names)) ∙ ap length are.texts_are

-- the numbers of frames are those of their texts
one-text : (names : List (List ℕ)) (numbers : List ℕ) (texts : List (List ℕ)) (frame : ℕ)
    → AreNumbers names numbers texts → frame < length texts
    → text_of names (slice_index numbers frame) ≡ get_or texts frame []
one-text names numbers texts frame are within =
    let count = numbers-count names numbers texts are in
    sym (get_or-map (text_of names) numbers frame 0 [] (omega arith))
    ∙ ap (λ (ts : List (List ℕ)). get_or ts frame []) are.texts_are

pub frames-numbered : (names : List (List ℕ)) (numbers : List ℕ) (texts : List (List ℕ)) (frames : List ℕ)
    → AreNumbers names numbers texts → All (λ frame. frame < length texts) frames
    → AreNumbers names (numbers_at numbers frames) (texts_at texts frames)
frames-numbered names numbers texts [] are within = no-numbers names
frames-numbered names numbers texts (frame ∷ frames) are within =
    let count = numbers-count names numbers texts are in
    let here = All-head (λ f. f < length texts) frame frames within in
    let rest = frames-numbered names numbers texts frames are (All-tail (λ f. f < length texts) frame frames within) in
    record {
      held =
          All-cons (IsText names) (slice_index numbers frame) (numbers_at numbers frames)
          (All-get_or (IsText names) numbers frame 0 (omega arith) are.held) rest.held;
      texts_are =
          ap (λ (t : List ℕ). t ∷ texts_of names (numbers_at numbers frames))
          (one-text names numbers texts frame are here)
          ∙ ap (λ (ts : List (List ℕ)). get_or texts frame [] ∷ ts) rest.texts_are;
    }

-- and so are those of all points
pub points-texts : (names : List (List ℕ)) (numbers : List ℕ) (texts : List (List ℕ)) (points : List Point)
    → AreNumbers names numbers texts → All (λ (point : Point). All (λ frame. frame < length texts) point.fs) points
    → AreTexts names (numbers_in numbers points) × (lists_of names (numbers_in numbers points) ≡ lists_in texts points)
points-texts names numbers texts [] are within = (All-nil (All (IsText names)), refl)
points-texts names numbers texts (point ∷ points) are within =
    let P : Point → Type 0 = λ p. All (λ frame. frame < length texts) p.fs in
    let here = frames-numbered names numbers texts point.fs are (All-head P point points within) in
    let rest = points-texts names numbers texts points are (All-tail P point points within) in (
      All-cons (All (IsText names)) (numbers_at numbers point.fs) (numbers_in numbers points) here.held rest.0,
      ap (λ (ts : List (List ℕ)). ts ∷ lists_of names (numbers_in numbers points)) here.texts_are
          ∙ ap (λ (ls : List (List (List ℕ))). texts_at texts point.fs ∷ ls) rest.1,
    )

-- so are those of a profile
pub sound-texts : (dhat : Dhat) (names : List (List ℕ)) (numbers read : List ℕ) (shape : List (List ℕ)) → IsSound dhat
    → AreNumbers names numbers (map shown dhat.ftbl) → read ≡ numbers → shape ≡ numbers_in read dhat.pps
    → AreTexts names shape × (lists_of names shape ≡ point_fronts dhat)
unfolding point_fronts
sound-texts dhat names numbers read shape sound are same is =
    let table : List (List ℕ) = map shown dhat.ftbl in
    let P : Point → Type 0 = λ p. All (λ frame. frame < length table) p.fs in
    let count = length-map dhat.ftbl shown in
    let within : All P dhat.pps =
    All-weaker (IsSoundPoint dhat.bklt dhat.bkacc (length dhat.ftbl)) P
    (λ point is_sound. All-weaker (λ frame. frame < length dhat.ftbl) (λ frame. frame < length table)
    (λ frame below. omega arith) point.fs is_sound.in_table)
    dhat.pps sound.points in
    let texts = points-texts names numbers table dhat.pps are within in
    let S : List (List ℕ) → Type 0 = λ lists. AreTexts names lists × (lists_of names lists ≡ lists_in table dhat.pps) in
    subst S (sym (is ∙ ap (λ (ns : List ℕ). numbers_in ns dhat.pps) same)) texts
