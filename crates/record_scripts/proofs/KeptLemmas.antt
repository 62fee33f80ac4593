-- Scripts as they are kept: one turn more in the last of them, and more nodes.
use Rattle.std.proofs.Common.{◌≡◌, ℕ, zero, suc, ◌+◌, ◌<◌, ◌≤◌, List, [], ◌∷◌, ◌++◌, length, map, Some, refl, sym, ap}
use Rattle.std.proofs.Common.{ap₂, ◌∙◌, subst, arith}
use Rattle.std.specs.Prelude.{slice_get, slice_set, vec_capacity, vec_len, Result, Ok, Err, OnErr}
use Rattle.std.specs.List.{AllByRecursion}
use Rattle.std.proofs.lemmas.List.{map-append}
use Rattle.std.proofs.lemmas.Option.{same_Some}
use Rattle.stack_table.specs.Node.{Node}
use Rattle.stack_table.specs.Continues.{Continues}
use Rattle.record_scripts.specs.declared.turn_entry.TurnEntry.{TurnEntry}
use Rattle.record_scripts.specs.declared.script.Script.{Script}
use Rattle.record_scripts.specs.Turns.{Turn}
use Rattle.record_scripts.specs.Job.{in_last}
use Rattle.record_scripts.specs.KeptTurn.{line_kept}
use Rattle.record_scripts.specs.ScriptTurns.{AreHeld, HasRoom, IsHeld, script_kept, scripts_kept, turn_kept, turn_said}

-- one turn more in the last script
pub kept-set : (nodes : List Node) (turn : TurnEntry) (new : Script) (scripts : List Script) (k : ℕ) (script : Script)
    → k + 1 ≡ length scripts → slice_get scripts k ≡ Some script → new.turns.items ≡ script.turns.items ++ turn ∷ []
    → scripts_kept nodes (slice_set scripts k new) ≡ in_last (scripts_kept nodes scripts) (turn_kept nodes turn)
kept-set nodes turn new [] k script last at grown = absurd (omega (arith, last))
kept-set nodes turn new (s ∷ []) zero script last at grown =
    let same : s ≡ script = same_Some s script at in
    ap (λ (items : List TurnEntry). map (turn_kept nodes) items ∷ [])
    (grown ∙ ap (λ (t : Script). t.turns.items ++ turn ∷ []) (sym same))
    ∙ ap (λ (turns : List Turn). turns ∷ []) (map-append (turn_kept nodes) s.turns.items (turn ∷ []))
kept-set nodes turn new (s ∷ []) (suc k) script last at grown = absurd (omega (arith, last))
kept-set nodes turn new (s ∷ t ∷ more) zero script last at grown = absurd (omega (arith, last))
kept-set nodes turn new (s ∷ t ∷ more) (suc k) script last at grown =
    ap (λ (rest : List (List Turn)). script_kept nodes s ∷ rest)
    (kept-set nodes turn new (t ∷ more) k script (omega (arith, last)) at grown)

pub all-push : {X : Type 0} (P : X → Type 0) (xs : List X) (x : X) → AllByRecursion P xs → P x
    → AllByRecursion P (xs ++ x ∷ [])
all-push P [] x all here = (here, tt)
all-push P (y ∷ ys) x all here = (all.0, all-push P ys x all.1 here)

-- a script that is replaced by one with the same turns
pub kept-same : (nodes : List Node) (new : Script) (scripts : List Script) (k : ℕ) (script : Script)
    → slice_get scripts k ≡ Some script → new.turns.items ≡ script.turns.items
    → scripts_kept nodes (slice_set scripts k new) ≡ scripts_kept nodes scripts
kept-same nodes new [] k script at same = refl
kept-same nodes new (s ∷ more) zero script at same =
    let here : s ≡ script = same_Some s script at in
    ap (λ (items : List TurnEntry). map (turn_kept nodes) items ∷ scripts_kept nodes more)
    (same ∙ ap (λ (t : Script). t.turns.items) (sym here))
kept-same nodes new (s ∷ more) (suc k) script at same =
    ap (λ (rest : List (List Turn)). script_kept nodes s ∷ rest) (kept-same nodes new more k script at same)

-- room in the last script
pub room-set : (new : Script) (scripts : List Script) (k : ℕ) → k + 1 ≡ length scripts
    → vec_len new.turns < vec_capacity new.turns → HasRoom (slice_set scripts k new)
room-set new [] k last room = absurd (omega (arith, last))
room-set new (s ∷ []) zero last room = room
room-set new (s ∷ []) (suc k) last room = absurd (omega (arith, last))
room-set new (s ∷ t ∷ more) zero last room = absurd (omega (arith, last))
room-set new (s ∷ t ∷ more) (suc zero) last room = room-set new (t ∷ more) zero (omega (arith, last)) room
room-set new (s ∷ t ∷ more) (suc (suc k)) last room = room-set new (t ∷ more) (suc k) (omega (arith, last)) room

pub room-at : (scripts : List Script) (k : ℕ) (script : Script) → k + 1 ≡ length scripts
    → slice_get scripts k ≡ Some script → HasRoom scripts → vec_len script.turns < vec_capacity script.turns
room-at [] k script last at room = absurd (omega (arith, last))
room-at (s ∷ []) zero script last at room =
    subst (λ (t : Script). vec_len t.turns < vec_capacity t.turns) (same_Some s script at) room
room-at (s ∷ []) (suc k) script last at room = absurd (omega (arith, last))
room-at (s ∷ t ∷ more) zero script last at room = absurd (omega (arith, last))
room-at (s ∷ t ∷ more) (suc k) script last at room = room-at (t ∷ more) k script (omega (arith, last)) at room

turn-grown : (nodes new : List Node) → Continues nodes new → (turn : TurnEntry)
    → IsHeld (length nodes) turn → turn_kept new turn ≡ turn_kept nodes turn
turn-grown nodes new grown turn held =
    ap (λ (ips : List ℕ). turn_said (line_kept turn) ips) (grown.stacks turn.node held)

turns-grown : (nodes new : List Node) → Continues nodes new → (turns : List TurnEntry)
    → AllByRecursion (IsHeld (length nodes)) turns → map (turn_kept new) turns ≡ map (turn_kept nodes) turns
turns-grown nodes new grown [] held = refl
turns-grown nodes new grown (turn ∷ turns) held =
    ap₂ (λ (t : Turn) (ts : List Turn). t ∷ ts) (turn-grown nodes new grown turn held.0)
    (turns-grown nodes new grown turns held.1)

-- more nodes change no script
pub kept-grown : (nodes new : List Node) → Continues nodes new → (scripts : List Script)
    → AreHeld (length nodes) scripts → scripts_kept new scripts ≡ scripts_kept nodes scripts
kept-grown nodes new grown [] held = refl
kept-grown nodes new grown (script ∷ scripts) held =
    ap₂ (λ (t : List Turn) (ts : List (List Turn)). t ∷ ts) (turns-grown nodes new grown script.turns.items held.0)
    (kept-grown nodes new grown scripts held.1)

turn-held : (count more : ℕ) → count ≤ more → (turn : TurnEntry) → IsHeld count turn
    → IsHeld more turn
turn-held count more within turn held = omega (arith, within, held)

turns-held : (count more : ℕ) → count ≤ more → (turns : List TurnEntry) → AllByRecursion (IsHeld count) turns
    → AllByRecursion (IsHeld more) turns
turns-held count more within [] held = tt
turns-held count more within (turn ∷ turns) held =
    (turn-held count more within turn held.0, turns-held count more within turns held.1)

pub held-grown : (count more : ℕ) → count ≤ more → (scripts : List Script) → AreHeld count scripts
    → AreHeld more scripts
held-grown count more within [] held = tt
held-grown count more within (script ∷ scripts) held =
    (turns-held count more within script.turns.items held.0, held-grown count more within scripts held.1)

-- what is said of every error
pub on-err : {X E : Type 0} (r : Result X E) (P : Type 0) → P → OnErr r P
on-err (Ok x) P p = tt
on-err (Err e) P p = p
