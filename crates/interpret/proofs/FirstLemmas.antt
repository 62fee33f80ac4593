-- Places in lists, and lists in which each element stands once.
use Rattle.std.proofs.Common.{◌≡◌, ℕ, ◌+◌, ◌<◌, Bool, true, false, not, cond, ◌||◌, List, [], ◌∷◌, ◌++◌, length, map}
use Rattle.std.proofs.Common.{Option, Some, None, refl, sym, ap, ◌∙◌, arith, true≢false, length-append}
use Rattle.std.specs.Prelude.{position, nat_lt, find, ◌==◌}
use Rattle.std.specs.List.{list_any, position_or_len}
use Rattle.std.specs.Map.{lookup, keys_of}
use Rattle.std.specs.Option.{is_some, option_map}
use Rattle.std.proofs.lemmas.Bool.Decides.{nat_tests}
use Rattle.std.specs.Str.{bytes_eq}
use Rattle.indexmap.specs.IndexMap.{insert_entry}
use Rattle.intern_tables.specs.Numbers.{number_of}
use Rattle.ht_trace.specs.declared.error.LineError.{LineError}
use Rattle.ht_trace.specs.declared.error.LineError.TheVariants.{TooMany}
use Rattle.interpret.specs.FirstAppearances.{over_fault, with_new}
use Rattle.interpret.specs.RawTables.{KnownIp}
use Rattle.interpret.specs.KnownEntries.{known_kept}

-- where an element passes, the first place is one of the list
pub place-within : {X : Type 0} (p : X → Bool) (xs : List X) → list_any p xs ≡ true → position_or_len p xs < length xs
place-within p [] none = absurd (true≢false (sym none))
place-within p (x ∷ xs) some =
    elim (p x) as (λ b. (b || list_any p xs) ≡ true → cond (not b) (1 + position_or_len p xs) 0 < length (x ∷ xs)) [
      | true ↦ λ _. omega arith
      | false ↦ λ rest. let there = place-within p xs rest in omega arith
    ] some

-- where none passes, it is the length
pub place-none : {X : Type 0} (p : X → Bool) (xs : List X) → list_any p xs ≡ false → position_or_len p xs ≡ length xs
place-none p [] none = refl
place-none p (x ∷ xs) none =
    elim (p x) as (λ b. (b || list_any p xs) ≡ false → cond (not b) (1 + position_or_len p xs) 0 ≡ length (x ∷ xs)) [
      | true ↦ λ passes. absurd (true≢false passes)
      | false ↦ λ rest. let there = place-none p xs rest in omega arith
    ] none

pub position-none : {X : Type 0} (p : X → Bool) (xs : List X) → position p xs ≡ None → list_any p xs ≡ false
position-none p xs none = by (list_any p xs) refl
  where
    by : (b : Bool) → list_any p xs ≡ b → b ≡ false
    by true some = let there = place-within p xs some in absurd (grind (arith, nat_tests))
    by false rest = refl

pub position-some : {X : Type 0} (p : X → Bool) (xs : List X) (i : ℕ) → position p xs ≡ Some i
    → (list_any p xs ≡ true) × (position_or_len p xs ≡ i)
position-some p xs i some = by (list_any p xs) refl
  where
    by : (b : Bool) → list_any p xs ≡ b → (b ≡ true) × (position_or_len p xs ≡ i)
    by true found = let there = place-within p xs found in (refl, grind (arith, nat_tests))
    by false none = let there = place-none p xs none in absurd (grind (arith, nat_tests))

-- entries of instruction pointers
pub known-any : (es : List (ℕ × ℕ)) (ip : ℕ)
    → list_any (λ (k : KnownIp). ip == k.ip) (map known_kept es) ≡ list_any (λ k. ip == k) (keys_of es)
known-any [] ip = refl
known-any (e ∷ es) ip = ap (λ (b : Bool). (ip == e.0) || b) (known-any es ip)

pub known-place : (es : List (ℕ × ℕ)) (ip : ℕ)
    → position_or_len (λ (k : KnownIp). ip == k.ip) (map known_kept es) ≡ position_or_len (λ k. ip == k) (keys_of es)
known-place [] ip = refl
known-place (e ∷ es) ip = ap (λ (n : ℕ). cond (not (ip == e.0)) (1 + n) 0) (known-place es ip)

pub known-frames : (es : List (ℕ × ℕ)) (ip : ℕ)
    → option_map (λ (k : KnownIp). k.frames) (find (λ (k : KnownIp). ip == k.ip) (map known_kept es))
    ≡ lookup (λ k. ip == k) es
known-frames [] ip = refl
known-frames (e ∷ es) ip = by (ip == e.0) (known-frames es ip)
  where
    by : (b : Bool)
        → option_map (λ (k : KnownIp). k.frames) (find (λ (k : KnownIp). ip == k.ip) (map known_kept es))
        ≡ lookup (λ k. ip == k) es
        → option_map (λ (k : KnownIp). k.frames)
        (cond {A = Option KnownIp} b (Some (known_kept e)) (find (λ (k : KnownIp). ip == k.ip) (map known_kept es)))
        ≡ cond {A = Option ℕ} b (Some e.1) (lookup (λ k. ip == k) es)
    by true rest = refl
    by false rest = rest

-- an instruction pointer that isn't there goes last
pub known-added : (es : List (ℕ × ℕ)) (ip frames : ℕ)
    → list_any (λ (k : KnownIp). ip == k.ip) (map known_kept es) ≡ false
    → map known_kept (insert_entry (λ x y. x == y) es ip frames)
    ≡ map known_kept es ++ record { ip = ip; frames = frames } ∷ []
known-added [] ip frames none = refl
known-added (e ∷ es) ip frames none = by (ip == e.0) none (λ none. known-added es ip frames none)
  where
    by : (b : Bool) → (b || list_any (λ (k : KnownIp). ip == k.ip) (map known_kept es)) ≡ false
        → (list_any (λ (k : KnownIp). ip == k.ip) (map known_kept es) ≡ false
        → map known_kept (insert_entry (λ x y. x == y) es ip frames)
        ≡ map known_kept es ++ record { ip = ip; frames = frames } ∷ [])
        → map known_kept
        (cond {A = List (ℕ × ℕ)} b ((e.0, frames) ∷ es) (e ∷ insert_entry (λ x y. x == y) es ip frames))
        ≡ known_kept e ∷ (map known_kept es ++ record { ip = ip; frames = frames } ∷ [])
    by true none rest = absurd (true≢false none)
    by false none rest = ap (λ (ks : List KnownIp). known_kept e ∷ ks) (rest none)

-- an element that is there leaves the list as it is
pub with-held : {X : Type 0} (same : X → X → Bool) (xs : List X) (x : X) → list_any (same x) xs ≡ true
    → with_new same xs x ≡ xs
with-held same xs x there = ap (λ (b : Bool). cond b xs (xs ++ x ∷ [])) there

-- and one that isn't goes last
pub with-absent : {X : Type 0} (same : X → X → Bool) (xs : List X) (x : X) → list_any (same x) xs ≡ false
    → with_new same xs x ≡ xs ++ x ∷ []
with-absent same xs x none = ap (λ (b : Bool). cond b xs (xs ++ x ∷ [])) none

-- one more than the most is a fault
pub over-absent : {X : Type 0} (same : X → X → Bool) (xs : List X) (x : X) (most : ℕ) → list_any (same x) xs ≡ false
    → length xs ≡ most → over_fault most (length (with_new same xs x)) ≡ Some TooMany
over-absent same xs x most none full =
    let count : length (with_new same xs x) ≡ length xs + 1 =
    ap length (with-absent same xs x none) ∙ length-append xs (x ∷ []) in
    let above : nat_lt most (length (with_new same xs x)) ≡ true = grind (arith, nat_tests, count, full) in
    ap (λ (b : Bool). cond {A = Option LineError} b (Some TooMany) None) above

-- whether a name has a number
pub named-any : (names : List (List ℕ)) (name : List ℕ)
    → is_some (number_of names name) ≡ list_any (bytes_eq name) names
unfolding number_of
named-any names name = by (position (bytes_eq name) names) refl
  where
    by : (o : Option ℕ) → position (bytes_eq name) names ≡ o
        → is_some (option_map (λ place. place + 1) o) ≡ list_any (bytes_eq name) names
    by None is = sym (position-none (bytes_eq name) names is)
    by (Some place) is = sym ((position-some (bytes_eq name) names place is).0)

pub some-of : {X : Type 0} (o : Option X) → is_some o ≡ true → (x : X) × (o ≡ Some x)
some-of None is = absurd (true≢false (sym is))
some-of (Some x) is = (x, refl)

pub none-of : {X : Type 0} (o : Option X) → is_some o ≡ false → o ≡ None
none-of None is = refl
none-of (Some x) is = absurd (true≢false is)
