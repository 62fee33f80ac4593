use Rattle.std.proofs.Common.{ℕ, ◌≡◌, ◌≤◌, Bool, true, false, Ok, length, sym, ap, ◌∙◌, refl, subst}
use Rattle.std.specs.Prelude.{◌||◌, is_some, unwrap_or}
use Rattle.std.proofs.lemmas.Result.{MatchResult-weaker}
use Rattle.ht_lines.specs.ItemContent.{content}
use Rattle.ht_lines.specs.declared.item.Form.TheVariants.{Interpreted}
use Rattle.ht_lines.specs.Reading.{reading}
use Rattle.ht_trace.specs.VersionLines.{may_stand_first}
use Rattle.ht_trace.specs.TableState.{TableState}
use Rattle.ht_trace.proofs.GrowthLemmas.{continues-answer, continues-trans}
use Rattle.ht_trace.proofs.SoundLemmas.{held-after}
use Rattle.ht_trace.specs.Continues.{Continues}
use Rattle.std.specs.List.{AllByRecursion}
use Rattle.ht_trace.proofs.LineLemmas.{events-push, fault-told, grows-after, stands-push}
use Rattle.ht_trace.specs.Sound.{IsSound}
use Rattle.ht_trace.proofs.tables.Tables.line.Goals as goal
use Rattle.ht_trace.proofs.tables.Tables.line.Goals.{else-is_none-via-then-is_none+else-not-may_stand_first}
use Rattle.ht_trace.proofs.tables.Tables.line.Goals.{else-is_none-via-else-is_none}

or-right : (a b : Bool) → b ≡ true → (a || b) ≡ true
or-right true b is = refl
or-right false b is = is

-- the line may stand where it stands
may_stand : (c : goal.After-take) → (is_some c.args.self.now.version || may_stand_first c.args.line.now) ≡ true
may_stand c =
    elim c.else-is_none.branch [
      | else-is_none-via-then-is_none+else-not-may_stand_first w ↦ or-right (is_some c.args.self.now.version)
          (may_stand_first c.args.line.now) (sym w.may_stand_first.ensures ∙ w.if-not-may_stand_first.false)
      | else-is_none-via-else-is_none w ↦ ap (λ (t : TableState). is_some t.version || may_stand_first c.args.line.now)
          (sym c.self.view_is)
          ∙ ap (λ (versioned : Bool). versioned || may_stand_first c.args.line.now) w.if-is_none.ensures
    ]

-- what the line says in the file version so far
read_as : (c : goal.After-take)
    → reading Interpreted (unwrap_or c.args.self.now.version 1) c.args.line.now ≡ Ok (content c.in_ok-item.item)
read_as c =
    let version = c.unwrap_or.ensures ∙ ap (λ (t : TableState). unwrap_or t.version 1) c.self.view_is in
    ap (λ (v : ℕ). reading Interpreted v c.args.line.now) (sym version) ∙ c.in_ok-item.ensures.exact

pub returns-clause-stands : goal.returns-clause-stands
returns-clause-stands c =
    MatchResult-weaker c.take.result c.take.ensures.takes
    (λ step takes. stands-push _ _ _ step c.args.line.now (may_stand c) (read_as c) takes) (λ error all. all)

pub returns-clause-events : goal.returns-clause-events
returns-clause-events c =
    MatchResult-weaker c.take.result c.take.ensures.takes
    (λ step takes. events-push _ _ _ step c.args.line.now (may_stand c) (read_as c) takes) (λ error all. all)

pub returns-clause-fault : goal.returns-clause-fault
returns-clause-fault c =
    MatchResult-weaker c.take.result c.take.ensures.refuses (λ step all. all)
    (λ error refuses. fault-told c.args.self.now (content c.in_ok-item.item) c.args.line.now error (may_stand c)
    (read_as c) refuses.fault)

pub returns-clause-grows : goal.returns-clause-grows
returns-clause-grows c =
    MatchResult-weaker c.take.result c.take.ensures.takes
    (λ step takes. grows-after c.args.self.now c.take.new.self (content c.in_ok-item.item) step takes)
    (λ error all. all)

-- the tables go on
continues : (c : goal.After-take) → Continues c.args.self.now c.take.new.self
continues c =
    let sound =
    subst (λ (t : TableState). IsSound t.version (length t.strings) t.instructions t.nodes t.infos) c.self.view_is
    c.self.invariant in
    continues-answer c.args.self.now c.take.new.self (content c.in_ok-item.item) c.take.result sound
    c.take.ensures.takes c.take.ensures.refuses

pub returns-clause-continues : goal.returns-clause-continues
returns-clause-continues c = continues c

pub returns-clause-goes_on : goal.returns-clause-goes_on
returns-clause-goes_on c = λ before one. continues-trans before c.args.self.now c.take.new.self one (continues c)

pub returns-clause-stack_held : goal.returns-clause-stack_held
returns-clause-stack_held c =
    let infos =
    subst (λ (t : TableState). AllByRecursion (λ info. info.stack ≤ length t.nodes) t.infos) c.self.view_is
    c.self.invariant.infos_held in
    MatchResult-weaker c.take.result c.take.ensures.takes
    (λ step takes. held-after c.args.self.now c.take.new.self (content c.in_ok-item.item) step infos takes)
    (λ error all. all)
