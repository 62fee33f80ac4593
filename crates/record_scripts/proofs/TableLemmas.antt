-- What one turn more in the last script changes.
use Rattle.std.proofs.Common.{◌≡◌, ℕ, zero, suc, ◌+◌, ◌^◌, ◌<◌, List, [], ◌∷◌, ◌++◌, get_or, length, reverse, Some}
use Rattle.std.proofs.Common.{refl, sym, ap, ◌∙◌, subst, arith, length-append, append-nil}
use Rattle.std.specs.Prelude.{flat_map, slice_get}
use Rattle.std.proofs.lemmas.List.{reverse-append}
use Rattle.std.proofs.lemmas.Option.{same_Some}
use Rattle.std.proofs.lemmas.List.Sums.{sum_by-append, sum_by-cons}
use Rattle.std.proofs.lemmas.Grind.{flat_map-append}
use Rattle.std.specs.List.{AllByRecursion}
use Rattle.ht_lines.specs.Written.{AreWords}
use Rattle.record_scripts.specs.Turns.{AreBounded, IsBounded, Turn, is_live, is_live_after, script_at}
use Rattle.record_scripts.specs.Events.{Event, event_count, events_of, events_of_turn}
use Rattle.record_scripts.specs.Job.{in_last, last_script}
use Rattle.record_scripts.specs.Playable.{AreInTurn, Follows, IsInTurn}

events-push : (script : List Turn) (turn : Turn)
    → length (events_of (script ++ turn ∷ [])) ≡ length (events_of script) + length (events_of_turn turn)
events-push script turn =
    ap length (flat_map-append events_of_turn script (turn ∷ []))
    ∙ length-append (events_of script) (flat_map events_of_turn (turn ∷ []))
    ∙ ap (λ (events : List Event). length (events_of script) + length events) (append-nil (events_of_turn turn))

-- the events are more by those of the turn
pub count-push : (scripts : List (List Turn)) (turn : Turn) → 0 < length scripts
    → event_count (in_last scripts turn) ≡ event_count scripts + length (events_of_turn turn)
count-push [] turn some = absurd (omega (arith, some))
count-push (script ∷ []) turn some =
    let new = sum_by-cons (λ s. length (events_of s)) (script ++ turn ∷ []) [] in
    let old = sum_by-cons (λ s. length (events_of s)) script [] in
    omega (arith, events-push script turn, new, old)
count-push (script ∷ next ∷ more) turn some =
    let front : event_count (script ∷ in_last (next ∷ more) turn)
    ≡ length (events_of script) + event_count (in_last (next ∷ more) turn) =
    sum_by-cons (λ s. length (events_of s)) script (in_last (next ∷ more) turn) in
    let old : event_count (script ∷ next ∷ more) ≡ length (events_of script) + event_count (next ∷ more) =
    sum_by-cons (λ s. length (events_of s)) script (next ∷ more) in
    let rest = count-push (next ∷ more) turn (omega arith) in
    omega (arith, front, old, rest)

-- the last script has the turn
pub last-push : (scripts : List (List Turn)) (turn : Turn) → 0 < length scripts
    → last_script (in_last scripts turn) ≡ last_script scripts ++ turn ∷ []
last-push [] turn some = absurd (omega (arith, some))
last-push (script ∷ []) turn some = refl
last-push (script ∷ next ∷ []) turn some = refl
last-push (script ∷ next ∷ third ∷ more) turn some = last-push (next ∷ third ∷ more) turn (omega arith)

-- which blocks are live after a turn
pub live-push : (script : List Turn) (turn : Turn) (id : ℕ)
    → is_live (script ++ turn ∷ []) id ≡ is_live_after (turn ∷ reverse script) id
live-push script turn id = ap (λ (turns : List Turn). is_live_after turns id) (reverse-append script (turn ∷ []))

-- an empty script has no event
pub count-begun : (scripts : List (List Turn)) → event_count (scripts ++ [] ∷ []) ≡ event_count scripts
count-begun scripts = sum_by-append (λ s. length (events_of s)) scripts ([] ∷ []) ∙ omega arith

-- an empty script is the last one where it was begun
pub last-begun : (scripts : List (List Turn)) → last_script (scripts ++ [] ∷ []) ≡ []
last-begun [] = refl
last-begun (script ∷ []) = refl
last-begun (script ∷ next ∷ more) = last-begun (next ∷ more)

-- bounds of a turn more
bounded-more : (script : List Turn) (turn : Turn) → AllByRecursion IsBounded script → IsBounded turn
    → AllByRecursion IsBounded (script ++ turn ∷ [])
bounded-more [] turn all here = (here, tt)
bounded-more (first ∷ script) turn all here = (all.0, bounded-more script turn all.1 here)

pub bounded-push : (scripts : List (List Turn)) (turn : Turn) → AreBounded scripts → IsBounded turn
    → AreBounded (in_last scripts turn)
bounded-push [] turn all here = tt
bounded-push (script ∷ []) turn all here = (bounded-more script turn all.0 here, tt)
bounded-push (script ∷ next ∷ more) turn all here = (all.0, bounded-push (next ∷ more) turn all.1 here)

-- numbers that fit 64 bits, one by one
pub are-words : (ns : List ℕ) → ((i : ℕ) → get_or ns i 0 < 2 ^ 64) → AreWords ns
are-words [] fits = tt
are-words (n ∷ ns) fits = (fits 0, are-words ns (λ i. fits (suc i)))

-- a turn more that follows the last script
in-turn-more : (script : List Turn) (turn : Turn) → IsInTurn script → Follows (reverse script) turn
    → IsInTurn (script ++ turn ∷ [])
in-turn-more script turn are follows = subst AreInTurn (sym (reverse-append script (turn ∷ []))) (follows, are)

pub in-turn-push : (scripts : List (List Turn)) (turn : Turn) → AllByRecursion IsInTurn scripts
    → Follows (reverse (last_script scripts)) turn → AllByRecursion IsInTurn (in_last scripts turn)
in-turn-push [] turn all follows = tt
in-turn-push (script ∷ []) turn all follows = (in-turn-more script turn all.0 follows, tt)
in-turn-push (script ∷ next ∷ more) turn all follows = (all.0, in-turn-push (next ∷ more) turn all.1 follows)

-- the bounds of a turn of a script
bounded-in : (script : List Turn) (k : ℕ) (turn : Turn) → AllByRecursion IsBounded script
    → slice_get script k ≡ Some turn → IsBounded turn
bounded-in [] k turn all at = absurd (grind (arith, at))
bounded-in (first ∷ script) zero turn all at = subst IsBounded (same_Some first turn at) all.0
bounded-in (first ∷ script) (suc k) turn all at = bounded-in script k turn all.1 at

pub bounded-at : (scripts : List (List Turn)) (thread k : ℕ) (turn : Turn) → AreBounded scripts
    → slice_get (script_at scripts thread) k ≡ Some turn → IsBounded turn
bounded-at [] thread k turn all at = absurd (grind (arith, at))
bounded-at (script ∷ scripts) zero k turn all at = bounded-in script k turn all.0 at
bounded-at (script ∷ scripts) (suc thread) k turn all at = bounded-at scripts thread k turn all.1 at
