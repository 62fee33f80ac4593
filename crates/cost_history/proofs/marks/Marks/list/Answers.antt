use Rattle.std.proofs.Common.{◌≡◌, ℕ, ◌+◌, ◌<◌, ◌≤◌, List, length, get_or, ap, ◌∙◌, arith}
use Rattle.std.specs.Prelude.{slice_index}
use Rattle.std.proofs.lemmas.List.{get_or_read}
use Rattle.cost_history.specs.Marks.{RoomyMarks, with_mark}
use Rattle.cost_history.specs.MarksView.{ArePlaced, marks_of}
use Rattle.cost_history.proofs.Placing.{listed-already, marks-after, placed-after}
use Rattle.cost_history.proofs.marks.Marks.list.Goals as goal

pub returns-then-place-self : goal.returns-then-place-self
returns-then-place-self c =
    let held : c.args.stack < length c.self.inside.order.items = rw (← c.self.view_is) at c.requires in
    let long = c.self.invariant.as_many in
    let here : c.args.stack < length c.self.inside.places.items = omega arith in
    let at : c.index-place.result.now ≡ slice_index c.self.inside.places.items c.args.stack =
    get_or_read c.self.inside.places.items c.args.stack c.index-place.result.now here c.index-place.ensures 0 in
    let among = c.if-place-self.true in
    let first : slice_index c.self.inside.places.items c.args.stack < c.self.inside.count = omega arith in
    rw (← c.self.view_is)
    (listed-already c.self.inside.order.items c.self.inside.places.items c.self.inside.count c.args.stack
    c.self.inside.all c.self.invariant held first)

-- what is known where the two are to be exchanged
record Apart (order places : List ℕ) (count stack place other : ℕ) : Type 0 where
  at : place ≡ slice_index places stack
  room : count < length order
  is : other ≡ slice_index order count

apart :
    (order places : List ℕ) (count stack place other : ℕ)
    → ArePlaced order places count
    → stack < length order
    → place ≡ get_or places stack place
    → count ≤ place
    → other ≡ get_or order count other
    → Apart order places count stack place other
apart order places count stack place other placed held read behind read_other =
    let long = placed.as_many in
    let here : stack < length places = omega arith in
    let at : place ≡ slice_index places stack = get_or_read places stack place here read 0 in
    let place_in = placed.place_held stack held in
    let room : count < length order = omega arith in
    record { at = at; room = room; is = get_or_read order count other room read_other 0 }

pub overflow_add-self : goal.overflow_add-self
overflow_add-self c =
    let held : c.args.stack < length c.self.inside.order.items = rw (← c.self.view_is) at c.requires in
    let room =
    (apart c.self.inside.order.items c.self.inside.places.items c.self.inside.count c.args.stack
    c.index-place.result.now c.index-other.result.now c.self.invariant held c.index-place.ensures
    c.if-place-self.false c.index-other.ensures).room in
    let few = c.self.invariant.few in
    omega arith

pub invariant_of-self : goal.invariant_of-self
invariant_of-self c =
    let held : c.args.stack < length c.self.inside.order.items = rw (← c.self.view_is) at c.requires in
    let known =
    apart c.self.inside.order.items c.self.inside.places.items c.self.inside.count c.args.stack
    c.index-place.result.now c.index-other.result.now c.self.invariant held c.index-place.ensures
    c.if-place-self.false c.index-other.ensures in
    rw (c.exchange.ensures.order, c.exchange.ensures.places)
    (placed-after c.self.inside.order.items c.self.inside.places.items c.self.inside.count c.args.stack
    c.index-place.result.now c.index-other.result.now c.self.invariant held known.room known.at known.is
    c.if-place-self.false)

pub returns : goal.returns
returns c =
    let held : c.args.stack < length c.self.inside.order.items = rw (← c.self.view_is) at c.requires in
    let known =
    apart c.self.inside.order.items c.self.inside.places.items c.self.inside.count c.args.stack
    c.index-place.result.now c.index-other.result.now c.self.invariant held c.index-place.ensures
    c.if-place-self.false c.index-other.ensures in
    ap (λ (xs : List ℕ). marks_of xs (c.self.inside.count + 1) c.self.inside.all) c.exchange.ensures.order
    ∙ marks-after c.self.inside.order.items c.self.inside.places.items c.self.inside.count c.args.stack
    c.index-place.result.now c.index-other.result.now c.self.inside.all c.self.invariant known.room known.at
    c.if-place-self.false
    ∙ ap (λ (state : RoomyMarks). let marked : RoomyMarks = record state {
      marks = with_mark state.marks
          c.args.stack;
    } in marked) c.self.view_is
