-- Which stacks are ignored, one after another.
use Rattle.std.proofs.Common.{◌≡◌, ℕ, zero, suc, ◌+◌, ◌<◌, ◌≤◌, List, [], ◌∷◌, ◌++◌, length, Bool, false, Some, refl}
use Rattle.std.proofs.Common.{ap, sym, subst, ◌∙◌, inl, inr, arith}
use Rattle.std.specs.Prelude.{slice_get}
use Rattle.std.proofs.lemmas.Bool.{cases_lt}
use Rattle.std.proofs.lemmas.List.{length_push}
use Rattle.ht_trace.specs.TableState.{TableState}
use Rattle.live_ledger.specs.declared.event.Event.{Event}
use Rattle.live_ledger.specs.Events.{event_count}
use Rattle.massif_sample.specs.declared.options.MassifOptions.{MassifOptions}
use Rattle.massif_sample.specs.Offers.{offer_at, offers}
use Rattle.massif_sample.specs.SamplesState.{SamplesState}
use Rattle.massif_sample.specs.FunctionNames.{FunctionNames, ignores}
use Rattle.massif_sample.specs.StandsFor.{AreJudged, IsSampling, StandsFor}

-- an element that is there stays, and behind them is the next
get-below : (xs : List Bool) (y : Bool) (i : ℕ) → i < length xs → slice_get (xs ++ y ∷ []) i ≡ slice_get xs i
get-below [] y i within = absurd (omega (arith, within))
get-below (x ∷ xs) y zero within = refl
get-below (x ∷ xs) y (suc i) within = get-below xs y i (omega arith)

get-at : (xs : List Bool) (y : Bool) (i : ℕ) → i ≡ length xs → slice_get (xs ++ y ∷ []) i ≡ Some y
get-at [] y zero is = refl
get-at [] y (suc i) is = absurd (omega arith)
get-at (x ∷ xs) y zero is = absurd (omega arith)
get-at (x ∷ xs) y (suc i) is = get-at xs y i (omega arith)

-- one stack more
pub judged-push : (names : FunctionNames) (tables : TableState) (flags : List Bool) (stack : ℕ) (flag : Bool)
    → AreJudged names tables flags → stack ≡ length flags → flag ≡ ignores tables names stack
    → AreJudged names tables (flags ++ flag ∷ [])
judged-push names tables flags stack flag judged at is k held =
    elim (cases_lt k (length flags)) [
      | inl below ↦ get-below flags flag k below ∙ judged k below
      | inr last ↦
          (let count = length_push flags flag in
          let same : k ≡ stack = omega arith in
          get-at flags flag k (omega arith)
          ∙ ap (λ (b : Bool). Some b) (is ∙ ap (ignores tables names) (let back : stack ≡ k = omega arith in back)))
    ]

pub judged-none : (names : FunctionNames) (tables : TableState) → AreJudged names tables []
judged-none names tables k held = absurd (let none : k < 0 = held in omega arith)

-- a sampler that takes account of the next stack
pub stands-judged : (flags : List Bool) (samples : SamplesState) (names : FunctionNames) (tables : TableState)
    (events : List Event) (flag : Bool)
    → StandsFor flags samples names tables events → length flags ≤ length tables.nodes
    → flag ≡ ignores tables names (length flags) → StandsFor (flags ++ flag ∷ []) samples names tables events
stands-judged flags samples names tables events flag stands room is = record {
  judged = judged-push names tables flags (length flags) flag stands.judged refl is;
  held = let count = length_push flags flag in omega arith;
  sampling = stands.sampling;
  some = stands.some;
}

-- a sampler of no events, which was offered the snapshot of this moment
pub stands-new : (flags : List Bool) (before samples : SamplesState) (names : FunctionNames) (tables : TableState)
    → AreJudged names tables flags
    → length flags ≤ length tables.nodes + 1
    → samples.options ≡ before.options
    → IsSampling samples names tables []
    ([] ++ offer_at before.options (ignores tables names) [] false (event_count []) ∷ [])
    → 0 < length samples.array.kept.entries
    → StandsFor flags samples names tables []
unfolding offers
stands-new flags before samples names tables judged held same sampling some = record {
  judged = judged;
  held = held;
  sampling =
      subst (λ (o : MassifOptions). IsSampling samples names tables []
      (offer_at o (ignores tables names) [] false 0 ∷ [])) (sym
      same) sampling;
  some = some;
}
