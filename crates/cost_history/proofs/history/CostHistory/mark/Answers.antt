use Rattle.std.proofs.Common.{◌≡◌, ℕ, true, ap, refl, sym, subst, ◌∙◌}
use Rattle.cost_history.specs.Marks.{RoomyMarks, is_marked}
use Rattle.cost_history.proofs.Marking.{marked_with-full, marked_with-listed, marked_with-marked, marked_with-other}
use Rattle.cost_history.proofs.Marking.{marked_with-still}
use Rattle.cost_history.proofs.Telling.{tells-marked}
use Rattle.cost_history.proofs.history.CostHistory.mark.Goals as goal

pub returns-clause-others : goal.returns-clause-others
returns-clause-others c =
    rw (← c.self.view_is)
    (λ room other apart. ap (λ (state : RoomyMarks). is_marked state.marks other) c.mark.ensures
    ∙ marked_with-other c.self.inside.marks c.args.stack other room apart)

pub returns-clause-listed : goal.returns-clause-listed
returns-clause-listed c =
    rw (← c.self.view_is)
    (λ room. ap (λ (state : RoomyMarks). state.marks) c.mark.ensures
    ∙ marked_with-listed c.self.inside.marks c.args.stack room)

pub returns-clause-full : goal.returns-clause-full
returns-clause-full c =
    rw (← c.self.view_is)
    (λ full. ap (λ (state : RoomyMarks). state.marks) c.mark.ensures
    ∙ marked_with-full c.self.inside.marks c.args.stack full)

pub returns-clause-marked : goal.returns-clause-marked
returns-clause-marked c =
    subst (λ (state : RoomyMarks). is_marked state.marks c.args.stack ≡ true) (sym c.mark.ensures)
    (marked_with-marked c.self.inside.marks c.args.stack)

pub returns-clause-tells : goal.returns-clause-tells
returns-clause-tells c =
    let marked =
    subst (λ (state : RoomyMarks). is_marked state.marks c.args.stack ≡ true) (sym c.mark.ensures)
    (marked_with-marked c.self.inside.marks c.args.stack) in
    let still : (other : ℕ) → is_marked c.self.inside.marks.marks other ≡ true
    → is_marked c.mark.new.self.marks other ≡ true =
    λ other was. subst (λ (state : RoomyMarks). is_marked state.marks other ≡ true) (sym c.mark.ensures)
    (marked_with-still c.self.inside.marks c.args.stack other was) in
    rw (← c.self.view_is)
    (λ before after tells others. tells-marked _ _ before after c.args.stack refl refl marked still tells others)
