-- Which blocks of a recording are live, by the turns that its threads have taken.
use Rattle.std.proofs.Common.{◌≡◌, ◌≢◌, ℕ, zero, suc, ◌+◌, ◌<◌, ◌==◌, ◌&&◌, Bool, true, false, cond, List, [], ◌∷◌}
use Rattle.std.proofs.Common.{◌++◌, length, take, drop, reverse, Option, None, Some, refl, sym, ap, ◌∙◌, subst, arith}
use Rattle.std.proofs.Common.{true≢false}
use Rattle.std.specs.Prelude.{is_some, slice_get, slice_set}
use Rattle.std.specs.List.{AllByRecursion}
use Rattle.std.proofs.lemmas.Bool.Decides.{nat_tests}
use Rattle.std.proofs.lemmas.List.{reverse-append, take-append-drop}
use Rattle.std.proofs.lemmas.Option.{get_or_from_slice_get, slice_get_within}
use Rattle.std.proofs.Math.Seq.{take-suc}
use Rattle.record_scripts.specs.Playable.{AreInTurn, Follows, IsInTurn}
use Rattle.record_scripts.specs.Turns.{Turn, allocates, frees, reallocates, is_live_after, script_at}
use Rattle.record_book.specs.declared.live_blocks.LiveEntry.{LiveEntry}
use Rattle.record_book.specs.Actions.{Action}
use Rattle.record_book.specs.HeapPlaces.{Place, class_of, next_address, places_after, released}
use Rattle.record_book.specs.HeapState.{AreOnly, entry_in}
use Rattle.record_book.specs.StreamState.{done_at}
use Rattle.record_book.specs.TraceState.{with_turn}
use Rattle.record_book.proofs.HeapLemmas.{entry-released, only-released, same}
use Rattle.record_book.proofs.PlaceLemmas.{entry-allocated}
use Rattle.record_book.proofs.DoneLemmas.{done-here, done-other}

-- whether a block with an ID is live after a turn, by whether it was before
abbrev live_with : Turn → Bool → ℕ → Bool
live_with (allocates id size ips) before i = cond (id == i) true before
live_with (frees id) before i = cond (id == i) false before
live_with (reallocates id size ips) before i = cond (id == i) true before

live-more : (turn : Turn) (turns : List Turn) (i : ℕ)
    → is_live_after (turn ∷ turns) i ≡ live_with turn (is_live_after turns i) i
live-more (allocates id size ips) turns i = refl
live-more (frees id) turns i = refl
live-more (reallocates id size ips) turns i = refl

-- what is live in places after it
allocated : (b d : Bool) (entry : LiveEntry) (rest : Option LiveEntry)
    → is_some (cond (b && d) (Some entry) rest) ≡ cond b (cond d true (is_some rest)) (is_some rest)
allocated true true entry rest = refl
allocated true false entry rest = refl
allocated false d entry rest = refl

freed : (b d : Bool) (rest : Option LiveEntry)
    → is_some (cond (b && d) None rest) ≡ cond b (cond d false (is_some rest)) (is_some rest)
freed true true rest = refl
freed true false rest = refl
freed false d rest = refl

both : (b d : Bool) (entry : LiveEntry) (rest : Option LiveEntry)
    → is_some (cond (b && d) (Some entry) (cond (b && d) None rest))
    ≡ cond b (cond d true (is_some rest)) (is_some rest)
both true true entry rest = refl
both true false entry rest = refl
both false d entry rest = refl

live-turn : (thread : ℕ) (turn : Turn) (acts : List Action) (t i : ℕ) → AreOnly (places_after acts)
    → is_some (entry_in (places_after (with_turn thread turn acts)) t i)
    ≡ cond (thread == t) (live_with turn (is_some (entry_in (places_after acts) t i)) i)
    (is_some (entry_in (places_after acts) t i))
live-turn thread (allocates id size ips) acts t i only =
    ap is_some (entry-allocated thread id size ips (places_after acts) t i only)
    ∙ allocated (thread == t) (id == i) _ (entry_in (places_after acts) t i)
live-turn thread (frees id) acts t i only =
    ap is_some (entry-released thread id (places_after acts) t i)
    ∙ freed (thread == t) (id == i) (entry_in (places_after acts) t i)
live-turn thread (reallocates id size ips) acts t i only =
    let left = released thread id (places_after acts) in
    let entry : LiveEntry =
    record { address = next_address (class_of size) (released thread id left); class = class_of size } in
    ap is_some (entry-allocated thread id size ips left t i (only-released thread id (places_after acts) only)
    ∙ ap (λ (rest : Option LiveEntry). cond (same thread id t i) (Some entry) rest)
    (entry-released thread id (places_after acts) t i))
    ∙ both (thread == t) (id == i) entry (entry_in (places_after acts) t i)

-- the turns that are taken, with one more
take-turn : (script : List Turn) (n : ℕ) (turn : Turn) → slice_get script n ≡ Some turn
    → reverse (take (n + 1) script) ≡ turn ∷ reverse (take n script)
take-turn script n turn at =
    let up : n + 1 ≡ suc n = omega arith in
    let more : take (n + 1) script ≡ take n script ++ turn ∷ [] =
    ap (λ (m : ℕ). take m script) up ∙ take-suc script n turn (slice_get_within script n turn at)
    ∙ ap (λ (x : Turn). take n script ++ x ∷ []) (get_or_from_slice_get script n turn turn at) in
    ap (λ (turns : List Turn). reverse turns) more ∙ reverse-append (take n script) (turn ∷ [])

-- what is live after them
pub live-next : (scripts : List (List Turn)) (done : List ℕ) (thread : ℕ) (turn : Turn) (acts : List Action)
    → AreOnly (places_after acts) → thread < length done
    → slice_get (script_at scripts thread) (done_at done thread) ≡ Some turn
    → ((t i : ℕ)
    → is_some (entry_in (places_after acts) t i)
    ≡ is_live_after (reverse (take (done_at done t) (script_at scripts t))) i)
    → (t i : ℕ) → is_some (entry_in (places_after (with_turn thread turn acts)) t i)
    ≡ is_live_after (reverse (take (done_at (slice_set done thread (done_at done thread + 1)) t) (script_at scripts t)))
    i
live-next scripts done thread turn acts only within at before t i =
    live-turn thread turn acts t i only ∙ by (thread == t) refl
  where
    own : is_live_after
        (reverse (take (done_at (slice_set done thread (done_at done thread + 1)) thread) (script_at scripts thread))) i
        ≡ live_with turn (is_live_after (reverse (take (done_at done thread) (script_at scripts thread))) i) i
    own =
        ap (λ (n : ℕ). is_live_after (reverse (take n (script_at scripts thread))) i)
        (done-here done thread (done_at done thread + 1) within)
        ∙ ap (λ (turns : List Turn). is_live_after turns i)
        (take-turn (script_at scripts thread) (done_at done thread) turn at)
        ∙ live-more turn (reverse (take (done_at done thread) (script_at scripts thread))) i

    by : (b : Bool) → (thread == t) ≡ b
        → cond b (live_with turn (is_some (entry_in (places_after acts) t i)) i)
        (is_some (entry_in (places_after acts) t i))
        ≡ is_live_after
        (reverse (take (done_at (slice_set done thread (done_at done thread + 1)) t) (script_at scripts t))) i
    by true p =
        let here : thread ≡ t = grind (arith, nat_tests, p) in
        ap (λ (b : Bool). live_with turn b i) (before t i)
        ∙ subst (λ (k : ℕ). live_with turn (is_live_after (reverse (take (done_at done k) (script_at scripts k))) i) i
        ≡ is_live_after
        (reverse (take (done_at (slice_set done thread (done_at done thread + 1)) k) (script_at scripts k))) i)
        here (sym own)
    by false p =
        let apart : thread ≢ t = λ (here : thread ≡ t). absurd (grind (arith, nat_tests, p, here)) in
        before t i
        ∙ ap (λ (n : ℕ). is_live_after (reverse (take n (script_at scripts t))) i)
        (sym (done-other done thread t (done_at done thread + 1) apart))

-- a turn of a script follows those before it
in-turn-front : (back front : List Turn) → AreInTurn (back ++ front) → AreInTurn front
in-turn-front [] front all = all
in-turn-front (turn ∷ back) front all = in-turn-front back front all.1

follows-at : (script : List Turn) (n : ℕ) (turn : Turn) → IsInTurn script → slice_get script n ≡ Some turn
    → Follows (reverse (take n script)) turn
follows-at script n turn is at =
    let whole : reverse script ≡ reverse (drop (n + 1) script) ++ reverse (take (n + 1) script) =
    ap (λ (turns : List Turn). reverse turns) (sym (take-append-drop (n + 1) script))
    ∙ reverse-append (take (n + 1) script) (drop (n + 1) script) in
    let front =
    in-turn-front (reverse (drop (n + 1) script)) (reverse (take (n + 1) script)) (subst AreInTurn whole is) in
    (subst AreInTurn (take-turn script n turn at) front).0

in-turn-at : (scripts : List (List Turn)) (thread : ℕ) → AllByRecursion IsInTurn scripts
    → IsInTurn (script_at scripts thread)
in-turn-at [] thread all = tt
in-turn-at (script ∷ scripts) zero all = all.0
in-turn-at (script ∷ scripts) (suc thread) all = in-turn-at scripts thread all.1

none-from : (found : Option LiveEntry) → is_some found ≡ false → found ≡ None
none-from None none = refl
none-from (Some entry) none = absurd (true≢false none)

-- the block of an allocation isn't live
pub none-live : (scripts : List (List Turn)) (thread n id size : ℕ) (ips : List ℕ) (places : List Place)
    → AllByRecursion IsInTurn scripts
    → slice_get (script_at scripts thread) n ≡ Some (allocates id size ips)
    → is_some (entry_in places thread id) ≡ is_live_after (reverse (take n (script_at scripts thread))) id
    → entry_in places thread id ≡ None
none-live scripts thread n id size ips places all at is =
    none-from (entry_in places thread id)
    (is ∙ (follows-at (script_at scripts thread) n (allocates id size ips) (in-turn-at scripts thread all) at).0)
