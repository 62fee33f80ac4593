-- Lemmas on frames whose functions are listed.
use Rattle.std.proofs.Common.{◌≡◌, ℕ, zero, suc, ◌+◌, ◌<◌, ◌↔◌, ◌||◌, Bool, true, false, eqb, List, [], ◌∷◌, ◌++◌}
use Rattle.std.proofs.Common.{length, drop, get_or, Option, refl, sym, ap, ◌∙◌, arith}
use Rattle.std.specs.Prelude.{Contains, IsTrue, slice_get}
use Rattle.std.specs.List.{list_any, prefix_len}
use Rattle.std.specs.Option.{option_map_or}
use Rattle.std.specs.Str.{bytes_eq}
use Rattle.std.proofs.lemmas.Bool.{cond-false}
use Rattle.std.proofs.lemmas.Bool.Decides.{nat_tests, same_from_decides}
use Rattle.std.proofs.lemmas.List.Folds.{prefix_len-append}
use Rattle.std.proofs.lemmas.Map.Views.{Contains-from_any}
use Rattle.std.proofs.lemmas.Slice.Eq.{bytes_eq-Decides}
use Rattle.hp_num.proofs.Laws.{slice_get-front}
use Rattle.ht_trace.specs.declared.frame.FrameAt.{FrameAt}
use Rattle.ht_trace.specs.StackFrames.{stack_frames}
use Rattle.ht_trace.specs.TableState.{TableState}
use Rattle.massif_tree.specs.FunctionLists.{is_ignored, is_listed, without_listed}

-- a name of the list passes its test
listed-passes : (name : List ℕ) (texts : List (List ℕ)) (k : ℕ) → k < length texts → get_or texts k name ≡ name
    → list_any (bytes_eq name) texts ≡ true
listed-passes name [] k within is = absurd (omega arith)
listed-passes name (text ∷ texts) zero within is =
    ap (λ (b : Bool). b || list_any (bytes_eq name) texts) ((bytes_eq-Decides name text).1 (sym is))
listed-passes name (text ∷ texts) (suc k) within is =
    ap (λ (b : Bool). bytes_eq name text || b) (listed-passes name texts k (omega arith) is)
    ∙ either (bytes_eq name text)
  where
    either : (b : Bool) → (b || true) ≡ true
    either true = refl
    either false = refl

-- an answer that is true exactly for the names of a list is that test
pub answer-is : (texts : List (List ℕ)) (name : List ℕ) (answer : Bool) → (IsTrue answer ↔ Contains texts name)
    → answer ≡ list_any (bytes_eq name) texts
answer-is texts name answer is =
    same_from_decides {P = Contains texts name} answer (list_any (bytes_eq name) texts) (is.0, is.1) (
      (λ found. Contains-from_any {eq = bytes_eq} (λ x y. (bytes_eq-Decides x y).0) name texts found),
      (λ held. listed-passes name texts held.0 held.1 held.2),
    )

-- the frame behind the listed ones is the first of the others
pub first-unlisted : {X : Type 0} (xs : List X) (n : ℕ) → slice_get (drop n xs) 0 ≡ slice_get xs n
first-unlisted [] zero = refl
first-unlisted [] (suc n) = refl
first-unlisted (x ∷ xs) zero = refl
first-unlisted (x ∷ xs) (suc n) = first-unlisted xs n

-- whether a stack is ignored is read off the first frame that is left
pub ignored-is : (tables : TableState) (alloc_fns ignore_fns : List (List ℕ)) (stack n : ℕ) (frames : List FrameAt)
    → frames ≡ stack_frames tables.instructions tables.nodes stack → n ≡ prefix_len (is_listed tables alloc_fns) frames
    → is_ignored tables alloc_fns ignore_fns stack
    ≡ option_map_or (is_listed tables ignore_fns) (slice_get frames n) false
unfolding is_ignored without_listed
ignored-is tables alloc_fns ignore_fns stack n frames are front =
    let all : List FrameAt = stack_frames tables.instructions tables.nodes stack in
    let listed : FrameAt → Bool = is_listed tables alloc_fns in
    let answer : Option FrameAt → Bool = λ found. option_map_or (is_listed tables ignore_fns) found false in
    ap answer (first-unlisted all (prefix_len listed all))
    ∙ ap (λ (xs : List FrameAt). answer (slice_get xs (prefix_len listed xs))) (sym are)
    ∙ ap (λ (k : ℕ). answer (slice_get frames k)) (sym front)

-- and where one of the innermost frames is left, off these alone
pub ignored-own : (tables : TableState) (alloc_fns ignore_fns : List (List ℕ)) (stack n : ℕ) (own outer : List FrameAt)
    → stack_frames tables.instructions tables.nodes stack ≡ own ++ outer
    → n ≡ prefix_len (is_listed tables alloc_fns) own → n < length own
    → is_ignored tables alloc_fns ignore_fns stack ≡ option_map_or (is_listed tables ignore_fns) (slice_get own n) false
ignored-own tables alloc_fns ignore_fns stack n own outer are front within =
    let listed : FrameAt → Bool = is_listed tables alloc_fns in
    let some : prefix_len listed own < length own = omega (arith, front, within) in
    let part : eqb (prefix_len listed own) (length own) ≡ false = grind (arith, nat_tests) in
    let whole =
    prefix_len-append listed own outer
    ∙ cond-false (eqb (prefix_len listed own) (length own)) (length own + prefix_len listed outer)
    (prefix_len listed own) part in
    ignored-is tables alloc_fns ignore_fns stack n (own ++ outer) (sym are) (front ∙ sym whole)
    ∙ ap (λ (found : Option FrameAt). option_map_or (is_listed tables ignore_fns) found false)
    (slice_get-front own outer n within)
