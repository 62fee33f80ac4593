-- Lists of events that a trace can have, with one more event at the end.
use Rattle.std.proofs.Common.{◌≡◌, ℕ, zero, suc, List, [], ◌∷◌, ◌++◌, take, subst}
use Rattle.std.specs.Prelude.{Some, None, slice_get}
use Rattle.live_ledger.specs.declared.event.Event.{Event}
use Rattle.live_ledger.specs.declared.event.Event.TheVariants.{Alloc, Free, Tick}
use Rattle.live_ledger.specs.Faults.{fault_of}
use Rattle.live_ledger.specs.LedgerState.{HeldInfo, IsAmong, LedgerState, IsHeld}
use Rattle.live_ledger.specs.Possible.{AreAmong, ArePossible, HaveNoFault}
use Rattle.live_ledger.specs.StandsFor.{HasTotals}

-- what holds of each event and those before it holds with one more event of which it holds
each-more :
    (P : List Event → Event → Type 0) (events : List Event) (last : Event)
    → ((k : ℕ) (event : Event) → slice_get events k ≡ Some event → P (take k events) event)
    → P events last
    → (k : ℕ) (event : Event)
    → slice_get (events ++ last ∷ []) k ≡ Some event
    → P (take k (events ++ last ∷ [])) event
each-more P [] last each here zero event is =
    let same : last ≡ event = cc in
    subst (λ (e : Event). P [] e) same here
each-more P [] last each here (suc k) event is = cc
each-more P (x ∷ xs) last each here zero event is = each zero event is
each-more P (x ∷ xs) last each here (suc k) event is =
    each-more (λ before e. P (x ∷ before) e) xs last (λ j e at. each (suc j) e at) here k event is

-- the events of infos are so with one more
pub among-more : (infos : List HeldInfo) (events : List Event) (last : Event) → AreAmong infos events
    → IsAmong infos last → AreAmong infos (events ++ last ∷ [])
among-more infos events last each here = each-more (λ before event. IsAmong infos event) events last each here

-- events without a fault are so with one more
pub faultless-more : (events : List Event) (last : Event) → HaveNoFault events → fault_of events last ≡ None
    → HaveNoFault (events ++ last ∷ [])
faultless-more events last each here = each-more (λ before event. fault_of before event ≡ None) events last each here

-- a list that a ledger stands for is possible with an event that the ledger takes
pub possible-more : (state : LedgerState) (events : List Event) (event : Event) → IsHeld state event
    → HasTotals state events → fault_of events event ≡ None → ArePossible (events ++ event ∷ [])
possible-more state events event held stands none = record {
  among = (state.infos, among-more state.infos events event stands.held held);
  no_fault = faultless-more events event stands.no_fault none;
}

-- an element stays where it is when one more comes
slice_get-push : (infos : List HeldInfo) (i : ℕ) (one held : HeldInfo) → slice_get infos i ≡ Some one
    → slice_get (infos ++ held ∷ []) i ≡ Some one
slice_get-push [] i one held is = cc
slice_get-push (x ∷ xs) zero one held is = is
slice_get-push (x ∷ xs) (suc i) one held is = slice_get-push xs i one held is

-- an event that is of some infos is of more
among-push : (infos : List HeldInfo) (held : HeldInfo) (event : Event) → IsAmong infos event
    → IsAmong (infos ++ held ∷ []) event
among-push infos held (Alloc info stack size) is = slice_get-push infos info _ held is
among-push infos held (Free info stack size) is = slice_get-push infos info _ held is
among-push infos held (Tick ms) is = tt

-- events that are of some infos are of more
pub among-infos : (infos : List HeldInfo) (held : HeldInfo) (events : List Event) → AreAmong infos events
    → AreAmong (infos ++ held ∷ []) events
among-infos infos held events each = λ k event at. among-push infos held event (each k event at)
