-- Points that come one by one.
use Rattle.std.proofs.Common.{◌≡◌, ◌≢◌, ℕ, suc, ◌+◌, ◌-◌, ◌^◌, ◌<◌, ◌≤◌, List, [], ◌∷◌, ◌++◌, length, map, All, Bool}
use Rattle.std.proofs.Common.{true, false, ltb, Option, Some, None, refl, sym, ap, ◌∙◌, subst, arith}
use Rattle.std.specs.Prelude.{is_some, unwrap_or}
use Rattle.std.proofs.lemmas.Bool.{lt-ltb, ltb-false, ltb-true}
use Rattle.std.proofs.lemmas.List.{length-append, map-append}
use Rattle.std.proofs.lemmas.List.Elements.{All-head, All-tail}
use Rattle.json.specs.Json.{parse_map}
use Rattle.json.specs.Token.{Token}
use Rattle.serde_json.specs.Data.{Data, Items, item, no_items}
use Rattle.dhat_json.specs.declared.fault.DhatFault.{DhatFault}
use Rattle.dhat_json.specs.declared.gathered.Gathered.{Gathered}
use Rattle.dhat_json.specs.declared.key.Key.TheVariants.{Fs, Tb, Tbk}
use Rattle.dhat_json.specs.declared.profile.Point.{Point}
use Rattle.dhat_json.specs.declared.shape.Shape.{Shape}
use Rattle.dhat_json.specs.DhatFault.{Finding, access_findings, first_of, frame_finding, frame_value, frames_findings}
use Rattle.dhat_json.specs.DhatFault.{life_findings, pair_findings, point_findings, points_findings}
use Rattle.dhat_json.specs.Gathered.{FaultIs, HasGathered, shape_findings}
use Rattle.dhat_json.specs.Kinds.{as_whole, list_of}
use Rattle.dhat_json.specs.ProfileIn.{list_at, point_in, whole_in}
use Rattle.dhat_json.specs.Reads.{UnlessNoMemory}
use Rattle.dhat_json.proofs.Findings.{fault_follows, first_later, first_stays, passed_then}
use Rattle.dhat_json.proofs.KindLemmas.{AllNone, first_none, none_both, none_first, none_left, none_right}

some_none : (fault : DhatFault) → Some fault ≡ None → ⊥
some_none fault e = absurd cc

-- ---- one more

findings_push : (bklt bkacc : Bool) (frames n : ℕ) (ds : List Data) (d : Data)
    → points_findings bklt bkacc frames n (ds ++ d ∷ [])
    ≡ points_findings bklt bkacc frames n ds ++ first_of (point_findings bklt bkacc frames (n + length ds) d) ∷ []
findings_push bklt bkacc frames n [] d =
    let same : n ≡ n + 0 = omega arith in ap (λ (m : ℕ). first_of (point_findings bklt bkacc frames m d) ∷ []) same
findings_push bklt bkacc frames n (x ∷ ds) d =
    let same : suc n + length ds ≡ n + suc (length ds) = omega arith in
    ap (λ (os : List Finding). first_of (point_findings bklt bkacc frames n x) ∷ os)
    (findings_push bklt bkacc frames (suc n) ds d
    ∙ ap (λ (m : ℕ). points_findings bklt bkacc frames (suc n) ds ++ first_of (point_findings bklt bkacc frames m d)
    ∷ []) same)

-- the number of the point that comes next
at_end : (ds : List Data) (n : ℕ) → n ≡ length ds → 0 + length ds ≡ n
at_end ds n is = omega (arith, is)

one : (o : Finding) → first_of (o ∷ []) ≡ o
one None = refl
one (Some fault) = refl

pub next_is : (bklt bkacc : Bool) (frames : ℕ) (ds : List Data) (d : Data) (n : ℕ) → n ≡ length ds
    → first_of (points_findings bklt bkacc frames 0 ds) ≡ None
    → first_of (points_findings bklt bkacc frames 0 (ds ++ d ∷ [])) ≡ first_of (point_findings bklt bkacc frames n d)
next_is bklt bkacc frames ds d n is none =
    ap first_of (findings_push bklt bkacc frames 0 ds d) ∙ first_later (points_findings bklt bkacc frames 0 ds) _ none
    ∙ one _ ∙ ap (λ (m : ℕ). first_of (point_findings bklt bkacc frames m d)) (at_end ds n is)

pub fault_stays : (bklt bkacc : Bool) (frames : ℕ) (ds : List Data) (d : Data) (fault : DhatFault)
    → first_of (points_findings bklt bkacc frames 0 ds) ≡ Some fault
    → first_of (points_findings bklt bkacc frames 0 (ds ++ d ∷ [])) ≡ Some fault
fault_stays bklt bkacc frames ds d fault found =
    ap first_of (findings_push bklt bkacc frames 0 ds d)
    ∙ first_stays (points_findings bklt bkacc frames 0 ds) _ fault found

-- ---- another table

frames_within : (number frames other : ℕ) (ds : List Data) → AllNone (map (frame_finding number frames) ds)
    → All (λ frame. frame < other) (map whole_in ds) → AllNone (map (frame_finding number other) ds)
frames_within number frames other [] none below = tt
frames_within number frames other (d ∷ ds) none below = (
  at (as_whole d) none.0 (All-head (λ frame. frame < other) (whole_in d) (map whole_in ds) below),
  frames_within number frames other ds none.1
      (All-tail (λ frame. frame < other) (whole_in d) (map whole_in ds) below),
)
  where
    at : (o : Option ℕ) → frame_value number frames o ≡ None → unwrap_or o 0 < other → frame_value number other o ≡ None
    at None never lt = absurd cc
    at (Some frame) passed lt = rw (lt-ltb _ _ lt) refl

point_within : (bklt bkacc : Bool) (frames other number : ℕ) (d : Data)
    → first_of (point_findings bklt bkacc frames number d) ≡ None
    → All (λ frame. frame < other) (map whole_in (list_at Fs d))
    → first_of (point_findings bklt bkacc other number d) ≡ None
point_within bklt bkacc frames other number d none below =
    let counts = pair_findings number Tb Tbk d in
    let life = life_findings bklt number d in
    let access = access_findings bkacc number d in
    let all = none_first (point_findings bklt bkacc frames number d) none in
    let from_life = none_right counts (life ++ (access ++ frames_findings number frames d)) all.1 in
    let from_access = none_right life (access ++ frames_findings number frames d) from_life in
    let fs = none_right access (frames_findings number frames d) from_access in
    let fs' : AllNone (frames_findings number other d) =
    (fs.0, frames_within number frames other (list_at Fs d) fs.1 below) in
    first_none (point_findings bklt bkacc other number d) (
      all.0,
      none_both counts _ (none_left counts _ all.1)
          (none_both life _ (none_left life _ from_life) (none_both access _ (none_left access _ from_access) fs')),
    )

both_none : (a : Finding) (os : List Finding) → first_of (a ∷ os) ≡ None → (a ≡ None) × (first_of os ≡ None)
both_none None os none = (refl, none)
both_none (Some fault) os none = absurd cc

pub points_within : (bklt bkacc : Bool) (frames other n : ℕ) (ds : List Data)
    → first_of (points_findings bklt bkacc frames n ds) ≡ None
    → All (λ point. All (λ frame. frame < other) point.fs) (map (point_in bklt bkacc) ds)
    → first_of (points_findings bklt bkacc other n ds) ≡ None
points_within bklt bkacc frames other n [] none below = refl
points_within bklt bkacc frames other n (d ∷ ds) none below =
    let parts = both_none (first_of (point_findings bklt bkacc frames n d)) _ none in
    let P : Point → Type 0 = λ point. All (λ frame. frame < other) point.fs in
    passed_then _ (points_findings bklt bkacc other (suc n) ds)
    (point_within bklt bkacc frames other n d parts.0
    (All-head P (point_in bklt bkacc d) (map (point_in bklt bkacc) ds) below))
    ∙ points_within bklt bkacc frames other (suc n) ds parts.1
    (All-tail P (point_in bklt bkacc d) (map (point_in bklt bkacc) ds) below)

-- ---- what was gathered, with one item more

module _ (old new : Gathered) (ds : List Data) (d : Data) (few : old.count < 2 ^ 32 - 1)
    (count : new.count ≡ old.count + 1) (shape : new.shape ≡ old.shape) (h : HasGathered old ds) where
  longer : length (ds ++ d ∷ []) ≡ length ds + 1
  longer = length-append ds (d ∷ [])

  counted : length (ds ++ d ∷ []) < 2 ^ 32 - 1 → new.count ≡ length (ds ++ d ∷ [])
  counted lt =
      let before : length ds < 2 ^ 32 - 1 = omega (arith, longer, lt) in omega (arith, count, h.count before, longer)

  filled : 2 ^ 32 - 1 ≤ length (ds ++ d ∷ []) → new.count ≡ 2 ^ 32 - 1
  filled le = at (ltb (length ds) (2 ^ 32 - 1)) refl
    where
      at : (b : Bool) → ltb (length ds) (2 ^ 32 - 1) ≡ b → new.count ≡ 2 ^ 32 - 1
      at true e = let lt = ltb-true _ _ e in omega (arith, count, h.count lt, longer, le, lt)
      at false e = let full = h.full (ltb-false _ _ e) in absurd (omega (arith, full, few))

  before : length (ds ++ d ∷ []) < 2 ^ 32 - 1 → length ds < 2 ^ 32 - 1
  before lt = omega (arith, longer, lt)

  -- what is found in the shape of the old one is found in that of the new one
  reshaped : (P : Shape → Type 0) → P old.shape → P new.shape
  reshaped P p = subst P (sym shape) p

  found_so_far : length (ds ++ d ∷ []) < 2 ^ 32 - 1 → old.fault ≡ None → first_of (shape_findings old.shape ds) ≡ None
  found_so_far lt none =
      subst (λ (o : Finding). FaultIs o (first_of (shape_findings old.shape ds))) none (h.fault (before lt))

  abbrev here : Finding
  here = first_of (point_findings old.shape.bklt old.shape.bkacc old.shape.frames old.count d)

  found_here : length (ds ++ d ∷ []) < 2 ^ 32 - 1 → old.fault ≡ None
      → first_of (shape_findings old.shape (ds ++ d ∷ [])) ≡ here
  found_here lt none =
      next_is old.shape.bklt old.shape.bkacc old.shape.frames ds d old.count (h.count (before lt))
      (found_so_far lt none)

  -- a fault before it
  pub fault_kept : (fault : DhatFault) → old.fault ≡ Some fault → new.fault ≡ Some fault
      → HasGathered new (ds ++ d ∷ [])
  fault_kept fault was is = record {
    count = counted;
    full = filled;
    fault = λ lt.
        let found =
        subst (λ (o : Finding). FaultIs o (first_of (shape_findings old.shape ds))) was (h.fault (before lt)) in
        let stays =
        fault_follows _ _ fault found
        (λ e. fault_stays old.shape.bklt old.shape.bkacc old.shape.frames ds d fault e) in
        subst (λ (o : Finding). FaultIs o (first_of (shape_findings new.shape (ds ++ d ∷ [])))) (sym is)
        (reshaped (λ (s : Shape). UnlessNoMemory fault (first_of (shape_findings s (ds ++ d ∷ [])) ≡ Some fault))
        stays);
    points = λ lt none. absurd (some_none fault (sym is ∙ none));
  }

  -- a fault of it
  pub fault_found : (fault : DhatFault) → old.fault ≡ None → new.fault ≡ Some fault
      → UnlessNoMemory fault (here ≡ Some fault) → HasGathered new (ds ++ d ∷ [])
  fault_found fault none is found = record {
    count = counted;
    full = filled;
    fault = λ lt.
        let first = fault_follows _ _ fault found (λ e. found_here lt none ∙ e) in
        subst (λ (o : Finding). FaultIs o (first_of (shape_findings new.shape (ds ++ d ∷ [])))) (sym is)
        (reshaped (λ (s : Shape). UnlessNoMemory fault (first_of (shape_findings s (ds ++ d ∷ [])) ≡ Some fault))
        first);
    points = λ lt none'. absurd (some_none fault (sym is ∙ none'));
  }

  -- no fault
  pub point_taken : old.fault ≡ None → new.fault ≡ None → here ≡ None
      → new.points ≡ old.points ++ point_in old.shape.bklt old.shape.bkacc d ∷ [] → HasGathered new (ds ++ d ∷ [])
  point_taken none is found points = record {
    count = counted;
    full = filled;
    fault = λ lt.
        subst (λ (o : Finding). FaultIs o (first_of (shape_findings new.shape (ds ++ d ∷ [])))) (sym is)
        (reshaped (λ (s : Shape). first_of (shape_findings s (ds ++ d ∷ [])) ≡ None) (found_here lt none ∙ found));
    points = λ lt none'. reshaped (λ (s : Shape). new.points ≡ map (point_in s.bklt s.bkacc) (ds ++ d ∷ []))
        (points
        ∙ ap (λ (ps : List Point). ps ++ point_in old.shape.bklt old.shape.bkacc d ∷ []) (h.points (before lt) none)
        ∙ sym (map-append (point_in old.shape.bklt old.shape.bkacc) ds (d ∷ [])));
  }

-- where they are too many, one more is passed over
pub full_stays : (gathered : Gathered) (ds : List Data) (d : Data) → gathered.count ≡ 2 ^ 32 - 1
    → HasGathered gathered ds → HasGathered gathered (ds ++ d ∷ [])
full_stays gathered ds d full h =
    let longer : length (ds ++ d ∷ []) ≡ length ds + 1 = length-append ds (d ∷ []) in
    let never : length (ds ++ d ∷ []) < 2 ^ 32 - 1 → ⊥ =
    λ lt. let before : length ds
    < 2 ^ 32 - 1 = omega (arith, longer, lt) in omega (arith, h.count before, full, before) in record {
      count = λ lt. absurd (never lt);
      full = λ le. full;
      fault = λ lt. absurd (never lt);
      points = λ lt none. absurd (never lt);
    }

pub is_few : (gathered : Gathered) (ds : List Data) → gathered.count ≢ 2 ^ 32 - 1 → HasGathered gathered ds
    → gathered.count < 2 ^ 32 - 1
is_few gathered ds not_full h = at (ltb (length ds) (2 ^ 32 - 1)) refl
  where
    at : (b : Bool) → ltb (length ds) (2 ^ 32 - 1) ≡ b → gathered.count < 2 ^ 32 - 1
    at true e = let lt = ltb-true _ _ e in omega (arith, h.count lt, lt)
    at false e = absurd (not_full (h.full (ltb-false _ _ e)))

pub is_none : (o : Option DhatFault) → is_some o ≡ false → o ≡ None
is_none None e = refl
is_none (Some fault) e = absurd cc

pub which : (o : Option DhatFault) → is_some o ≡ true → (fault : DhatFault) × (o ≡ Some fault)
which None e = absurd cc
which (Some fault) e = (fault, refl)

-- in a shape that differs in the table alone, which has all frames
pub fits : (gathered : Gathered) (shape : Shape) (ds : List Data) → gathered.fault ≡ None
    → gathered.shape.bklt ≡ shape.bklt → gathered.shape.bkacc ≡ shape.bkacc
    → All (λ point. All (λ frame. frame < shape.frames) point.fs) gathered.points → HasGathered gathered ds
    → HasGathered (record gathered { shape = shape }) ds
fits gathered shape ds none bklt bkacc below h = record {
  count = h.count;
  full = h.full;
  fault = λ lt.
      let found = subst (λ (o : Finding). FaultIs o (first_of (shape_findings gathered.shape ds))) none (h.fault lt) in
      let all = subst (All (λ point. All (λ frame. frame < shape.frames) point.fs)) (h.points lt none) below in
      let here =
      points_within gathered.shape.bklt gathered.shape.bkacc gathered.shape.frames shape.frames 0 ds found all in
      subst (λ (o : Finding). FaultIs o (first_of (shape_findings shape ds))) (sym none)
      (subst (λ (b : Bool). first_of (points_findings b shape.bkacc shape.frames 0 ds) ≡ None) bklt
      (subst (λ (b : Bool). first_of (points_findings gathered.shape.bklt b shape.frames 0 ds) ≡ None) bkacc here));
  points = λ lt none'.
      subst (λ (b : Bool). gathered.points ≡ map (point_in b shape.bkacc) ds) bklt
      (subst (λ (b : Bool). gathered.points ≡ map (point_in gathered.shape.bklt b) ds) bkacc (h.points lt none'));
}

-- ---- the items so far

abbrev pub items_before : List Data → Items → Items
items_before [] rest = rest
items_before (d ∷ ds) rest = item d (items_before ds rest)

before_push : (ds : List Data) (d : Data) (rest : Items)
    → items_before ds (item d rest) ≡ items_before (ds ++ d ∷ []) rest
before_push [] d rest = refl
before_push (x ∷ ds) d rest = ap (item x) (before_push ds d rest)

pub none_before : (ahead : Option (Items × List Token)) → ahead ≡ parse_map (items_before []) ahead
none_before None = refl
none_before (Some p) = refl

pub one_more : (ds : List Data) (d : Data) (ahead : Option (Items × List Token))
    → parse_map (items_before ds) (parse_map (item d) ahead) ≡ parse_map (items_before (ds ++ d ∷ [])) ahead
one_more ds d None = refl
one_more ds d (Some p) = ap (λ (items : Items). Some (items, p.1)) (before_push ds d p.0)

pub all_before : (ds : List Data) → list_of (items_before ds no_items) ≡ ds
all_before [] = refl
all_before (d ∷ ds) = ap (λ (rest : List Data). d ∷ rest) (all_before ds)
