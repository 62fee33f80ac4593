-- A script has few turns.
use Rattle.std.proofs.Common.{◌≡◌, ℕ, zero, suc, ◌+◌, ◌^◌, ◌<◌, ◌≤◌, List, [], ◌∷◌, length, Some, arith, length-append}
use Rattle.std.specs.Prelude.{slice_get}
use Rattle.std.proofs.lemmas.List.Sums.{sum_by-cons}
use Rattle.std.proofs.lemmas.Option.{slice_get_within}
use Rattle.record_scripts.specs.Events.{event_count, events_of, events_of_turn}
use Rattle.record_scripts.specs.Turns.{Turn, script_at}
use Rattle.record_book.proofs.OrderLemmas.{some_events}

-- a script has no more turns than there are events
few-turns : (script : List Turn) → length script ≤ length (events_of script)
few-turns [] = omega arith
few-turns (turn ∷ script) =
    omega (arith, few-turns script, some_events turn, length-append (events_of_turn turn) (events_of script))

few-at : (scripts : List (List Turn)) (thread : ℕ) → length (script_at scripts thread) ≤ event_count scripts
few-at [] thread = omega arith
few-at (script ∷ scripts) zero =
    let whole : event_count (script ∷ scripts) ≡ length (events_of script) + event_count scripts =
    sum_by-cons (λ (s : List Turn). length (events_of s)) script scripts in
    omega (arith, whole, few-turns script)
few-at (script ∷ scripts) (suc thread) =
    let whole : event_count (script ∷ scripts) ≡ length (events_of script) + event_count scripts =
    sum_by-cons (λ (s : List Turn). length (events_of s)) script scripts in
    omega (arith, whole, few-at scripts thread)

-- a turn stands before the end of all events
pub place-few : (scripts : List (List Turn)) (thread place : ℕ) (turn : Turn)
    → slice_get (script_at scripts thread) place ≡ Some turn → event_count scripts < 2 ^ 24 → place + 1 ≤ 2 ^ 24
place-few scripts thread place turn at few =
    omega (arith, slice_get_within (script_at scripts thread) place turn at, few-at scripts thread, few)
