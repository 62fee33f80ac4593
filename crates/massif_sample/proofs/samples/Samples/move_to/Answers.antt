use Rattle.std.proofs.Common.{ℕ, ◌++◌, ◌∷◌, [], subst, sym}
use Rattle.live_ledger.specs.Events.{event_count}
use Rattle.cost_history.specs.HistoryState.{RoomyHistory, TellsNow}
use Rattle.massif_sample.specs.FunctionNames.{ignores}
use Rattle.massif_sample.specs.Snapshots.{cost_at}
use Rattle.massif_sample.specs.StandsFor.{IsSampling}
use Rattle.massif_sample.specs.View.{state_of}
use Rattle.massif_sample.proofs.Costs.{cost-other}
use Rattle.massif_sample.proofs.Sampling.{sampling-moved}
use Rattle.massif_sample.proofs.samples.Samples.move_to.Goals as goal

pub returns-clause-sampling : goal.returns-clause-sampling
returns-clause-sampling c =
    let inside = c.self.inside in
    let old = state_of inside.options inside.running inside.array inside.failed inside.fronts inside.history in
    rw (← c.self.view_is)
    (λ names tables events made event was of_stack is_in figures.
    let costs = λ (es : _) (stack : ℕ). cost_at (ignores tables names) es (event_count es) stack in
    let tells =
    c.mark.ensures.tells (costs events) (costs (events ++ event ∷ [])) was.told
    (λ other apart. cost-other (ignores tables names) events event c.args.stack other is_in apart) in
    subst (λ (h : RoomyHistory). IsSampling (record old { running = c.args.next; history = h.history }) names tables
    (events ++ event ∷ []) made) (sym
    c.mark.ensures.rest)
    (sampling-moved old c.mark.new.self.history.marks names tables events made event c.args.next was of_stack figures
    (subst (λ (h : RoomyHistory). TellsNow h.history (costs (events ++ event ∷ []))) c.mark.ensures.rest tells)))
