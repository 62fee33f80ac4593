-- The frames of stacks, and the points that have them.
use Rattle.std.proofs.Common.{◌≡◌, ℕ, ◌+◌, ◌<◌, true, false, List, [], ◌∷◌, ◌++◌, codes, get_or, length, map, take}
use Rattle.std.proofs.Common.{refl, ap, ap₂, ◌∙◌, sym, subst, append-nil}
use Rattle.std.specs.Prelude.{All}
use Rattle.std.specs.List.{flat_map}
use Rattle.std.specs.Str.{bytes_eq}
use Rattle.std.proofs.lemmas.Grind.{flat_map-append}
use Rattle.std.proofs.lemmas.List.{map_push, take_more}
use Rattle.std.proofs.lemmas.List.Elements.{All-append, All-cons, All-head, All-nil, All-tail, All-weaker}
use Rattle.dhat_json.specs.declared.profile.Point.{Point}
use Rattle.dhat_json.specs.IsSound.{IsSoundPoint}
use Rattle.ht_trace.specs.TableState.{TableState}
use Rattle.intern_tables.specs.WithoutRepeats.{without_repeats}
use Rattle.dhat_trace.specs.declared.points.CalledStack.{CalledStack}
use Rattle.dhat_trace.specs.declared.points.PointFigures.{PointFigures}
use Rattle.dhat_trace.specs.Backtraces.{AreBacktraces, Tells, IsTold}
use Rattle.dhat_trace.specs.FrameTable.{AddsTexts, frame_texts, places_in, table_of}
use Rattle.dhat_trace.specs.Points.{called_with, point_with, points_in, points_of}
use Rattle.dhat_trace.proofs.KnownLemmas.{places_are, places_within}

-- the table with the texts of one stack more
table_more : (tables : TableState) (stacks : List ℕ) (stack : ℕ) (old new : List (List ℕ))
    → old ≡ table_of tables stacks → AddsTexts old (frame_texts tables stack) new
    → new ≡ table_of tables (stacks ++ stack ∷ [])
unfolding table_of
table_more tables stacks stack old new is adds =
    adds.first_places (codes "[root]" ∷ flat_map (frame_texts tables) stacks) is
    ∙ ap (λ (texts : List (List ℕ)). without_repeats bytes_eq (codes "[root]" ∷ texts))
    (sym (flat_map-append (frame_texts tables) stacks (stack ∷ [])
    ∙ ap (λ (texts : List (List ℕ)). flat_map (frame_texts tables) stacks ++ texts)
    (append-nil (frame_texts tables stack))))

-- one stack more
one_more : (tables : TableState) (stacks : List ℕ) (stack : ℕ) (old new told more : List (List ℕ))
    → AreBacktraces tables stacks old told → AddsTexts old (frame_texts tables stack) new
    → Tells tables stack old told new more → AreBacktraces tables (stacks ++ stack ∷ []) new more
one_more tables stacks stack old new told more are adds tells =
    let later = IsTold tables new more in
    record {
      table_is = table_more tables stacks stack old new are.table_is adds;
      told_are = tells.told_are;
      all =
          All-append later stacks (stack ∷ []) (All-weaker (IsTold tables old told) later tells.kept stacks are.all)
          (All-cons later stack [] tells.own (All-nil later));
    }

-- those of the first stacks of a list, and of one more
pub next_backtraces : (tables : TableState) (stacks : List CalledStack) (at : ℕ) (called : CalledStack)
    (old new told more : List (List ℕ))
    → at < length stacks
    → AreBacktraces tables (map (λ (c : CalledStack). c.stack) (take at stacks)) old told
    → AddsTexts old (frame_texts tables (get_or stacks at called).stack) new
    → Tells tables (get_or stacks at called).stack old told new more
    → AreBacktraces tables (map (λ (c : CalledStack). c.stack) (take (at + 1) stacks)) new more
next_backtraces tables stacks at called old new told more within are adds tells =
    let numbers : CalledStack → ℕ = λ c. c.stack in
    let next = get_or stacks at called in
    let longer : map numbers (take (at + 1) stacks) ≡ map numbers (take at stacks) ++ next.stack ∷ [] =
    ap (map numbers) (take_more stacks at called within) ∙ map_push numbers (take at stacks) next in
    subst (λ (ns : List ℕ). AreBacktraces tables ns new more) (sym longer)
    (one_more tables (map numbers (take at stacks)) next.stack old new told more are adds tells)

-- the points of the stacks
points_are : (tables : TableState) (table told : List (List ℕ)) (figures : ℕ → PointFigures) (stacks : List ℕ)
    → All (IsTold tables table told) stacks
    → points_in (called_with figures stacks) told ≡ points_of table tables figures stacks
points_are tables table told figures [] all = refl
points_are tables table told figures (stack ∷ stacks) all =
    ap₂ (λ (own : List ℕ) (rest : List Point). point_with (figures stack) own ∷ rest)
    (places_are table (frame_texts tables stack) (get_or told stack [])
    (All-head (IsTold tables table told) stack stacks all))
    (points_are tables table told figures stacks (All-tail (IsTold tables table told) stack stacks all))

pub all_points : (tables : TableState) (figures : ℕ → PointFigures) (stacks : List ℕ) (table told : List (List ℕ))
    → AreBacktraces tables stacks table told
    → points_in (called_with figures stacks) told ≡ points_of (table_of tables stacks) tables figures stacks
all_points tables figures stacks table told are =
    points_are tables table told figures stacks are.all
    ∙ ap (λ (t : List (List ℕ)). points_of t tables figures stacks) are.table_is

-- each of them has its frames in the table
points_sound : (tables : TableState) (table told : List (List ℕ)) (figures : ℕ → PointFigures) (stacks : List ℕ)
    → All (IsTold tables table told) stacks
    → All (IsSoundPoint true false (length table)) (points_of table tables figures stacks)
points_sound tables table told figures [] all = All-nil (IsSoundPoint true false (length table))
points_sound tables table told figures (stack ∷ stacks) all =
    let texts = frame_texts tables stack in
    let held = All-head (IsTold tables table told) stack stacks all in
    All-cons (IsSoundPoint true false (length table)) (point_with (figures stack) (places_in table texts))
    (points_of table tables figures stacks)
    (record {
      life = refl;
      access = refl;
      in_table =
          subst (All (λ frame. frame < length table)) (places_are table texts (get_or told stack []) held)
          (places_within table texts (get_or told stack []) held);
    })
    (points_sound tables table told figures stacks (All-tail (IsTold tables table told) stack stacks all))

pub all_sound : (tables : TableState) (figures : ℕ → PointFigures) (stacks : List ℕ) (table told : List (List ℕ))
    → AreBacktraces tables stacks table told
    → All (IsSoundPoint true false (length (table_of tables stacks)))
    (points_of (table_of tables stacks) tables figures stacks)
all_sound tables figures stacks table told are =
    subst (λ (t : List (List ℕ)). All (IsSoundPoint true false (length t)) (points_of t tables figures stacks))
    are.table_is (points_sound tables table told figures stacks are.all)

-- the points of the first stacks of a list, and one more
pub next_points : (stacks : List CalledStack) (told : List (List ℕ)) (at : ℕ) (called : CalledStack) (places : List ℕ)
    → at < length stacks → places ≡ get_or told (get_or stacks at called).stack []
    → points_in (take at stacks) told ++ point_with (get_or stacks at called).figures places ∷ []
    ≡ points_in (take (at + 1) stacks) told
next_points stacks told at called places within is =
    let next = get_or stacks at called in
    let point : CalledStack → Point = λ c. point_with c.figures (get_or told c.stack []) in
    ap (λ (ps : List ℕ). points_in (take at stacks) told ++ point_with next.figures ps ∷ []) is
    ∙ sym (ap (map point) (take_more stacks at called within) ∙ map_push point (take at stacks) next)
