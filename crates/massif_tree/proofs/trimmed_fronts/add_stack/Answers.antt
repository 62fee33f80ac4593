use Rattle.std.proofs.Common.{◌≡◌, ℕ, true, List, [], ◌++◌, None, length, drop, sym, ap, ◌∙◌, arith}
use Rattle.std.specs.List.{prefix_len}
use Rattle.std.specs.Prelude.{◌==◌}
use Rattle.std.proofs.lemmas.Bool.Decides.{nat_tests}
use Rattle.std.proofs.lemmas.List.{take_all}
use Rattle.cost_tree.specs.Following.{following}
use Rattle.ht_trace.specs.declared.frame.FrameAt.{FrameAt}
use Rattle.ht_trace.specs.StackFrames.{outer_frames}
use Rattle.massif_tree.specs.FunctionLists.{is_listed, without_listed}
use Rattle.massif_tree.specs.Whole.{IsWhole}
use Rattle.massif_tree.proofs.Trimming.{followed, listed-on, outer-is, outer-none, trimmed-all, trimmed-not}
use Rattle.massif_tree.proofs.Trimming.{trimmed-nothing, trimmed-some, trimmed-whole}
use Rattle.massif_tree.proofs.trimmed_fronts.add_stack.Given.{Over}
use Rattle.massif_tree.proofs.trimmed_fronts.add_stack.Goals as goal
use Rattle.massif_tree.proofs.trimmed_fronts.add_stack.Goals.{After-lacks_frames}

pub returns-then-front-len-clause-added : goal.returns-then-front-len-clause-added
returns-then-front-len-clause-added g c =
    let tables = c.args.tables.now in
    let most = c.args.most in
    let stack = c.args.stack in
    let caller : ℕ = c.in_ok-caller.caller in
    let outer : List FrameAt = outer_frames tables.instructions tables.nodes caller in
    let own : List FrameAt = c.deref-then-front-len.result.now in
    let front : ℕ = c.listed_front-front.result in
    let lists = c.args.fronts.now in
    let same : c.deref.result.now ≡ own = c.deref.ensures.value ∙ sym c.deref-then-front-len.ensures.value in
    let count = ap (λ (fs : List FrameAt). length fs) same in
    record {
      added =
          λ names are was.
          listed-on tables names most stack (drop front own) (without_listed tables names outer)
          (following lists c.list_of.result) lists c.push_list.new.fronts
          (trimmed-all tables names stack caller front own
          (c.in_ok-caller.ensures.frames
          ∙ ap (λ (fs : List FrameAt). fs ++ outer) (sym c.deref-then-front-len.ensures.value))
          (c.listed_front-front.ensures.front names are
          ∙ ap (λ (fs : List FrameAt). prefix_len (is_listed tables names) fs) same)
          (omega (arith, c.if-front-len.true, c.len.ensures, c.deref.ensures.len, count)))
          (followed tables names most stack caller c.list_of.result (without_listed tables names outer) lists was
          c.in_ok-caller.ensures.lower c.list_of.ensures
          (λ none. ap (without_listed tables names) (outer-none tables caller none) ∙ trimmed-nothing tables names)
          (λ some. ap (without_listed tables names) (outer-is tables caller some)))
          c.in_ok-push_list.ensures.appended;
      count = c.in_ok-push_list.ensures.count;
    }

pub returns-then-lacks_frames-clause-added : goal.returns-then-lacks_frames-clause-added
returns-then-lacks_frames-clause-added g c =
    let tables = c.args.tables.now in
    let most = c.args.most in
    let stack = c.args.stack in
    let own : List FrameAt = c.deref.result.now in
    let outer : List FrameAt = outer_frames tables.instructions tables.nodes c.in_ok-caller.caller in
    let frames : List FrameAt = c.deref-then-lacks_frames.result.now in
    let front : ℕ = c.listed_front-front.result in
    let lists = c.args.fronts.now in
    record {
      added =
          λ names are was.
          listed-on tables names most stack (drop front frames) [] (following lists None) lists
          c.push_list-then-lacks_frames.new.fronts
          (trimmed-whole tables names stack front own outer frames
          (c.in_ok-caller.ensures.frames ∙ ap (λ (fs : List FrameAt). fs ++ outer) (sym c.deref.ensures.value))
          (c.listed_front-front.ensures.front names are)
          (omega (arith, c.if-front-len.false, c.len.ensures, c.deref.ensures.len, c.listed_front-front.ensures.within))
          (c.deref-then-lacks_frames.ensures.value ∙ c.in_ok-frames_into.ensures.of_tables))
          (sym (take_all most [] (omega arith)))
          c.in_ok-push_list-2.ensures.appended;
      count = c.in_ok-push_list-2.ensures.count;
    }

pub returns-clause-added : goal.returns-clause-added
returns-clause-added g c =
    let tables = c.args.tables.now in
    let most = c.args.most in
    let stack = c.args.stack in
    let caller : ℕ = c.in_ok-caller.caller in
    let outer : List FrameAt = outer_frames tables.instructions tables.nodes caller in
    let own : List FrameAt = c.deref-3.result.now in
    let front : ℕ = c.listed_front-front.result in
    let lists = c.args.fronts.now in
    let same : c.deref.result.now ≡ own = c.deref.ensures.value ∙ sym c.deref-3.ensures.value in
    let count = ap (λ (fs : List FrameAt). length fs) same in
    record {
      added =
          λ names are was.
          listed-on tables names most stack (drop front own) outer (following lists c.list_of-2.result) lists
          c.push_list-2.new.fronts
          (trimmed-some tables names stack front own outer
          (c.in_ok-caller.ensures.frames ∙ ap (λ (fs : List FrameAt). fs ++ outer) (sym c.deref-3.ensures.value))
          (c.listed_front-front.ensures.front names are
          ∙ ap (λ (fs : List FrameAt). prefix_len (is_listed tables names) fs) same)
          (omega (
            arith,
            c.if-front-len.false,
            c.len.ensures,
            c.deref.ensures.len,
            c.listed_front-front.ensures.within,
            count,
          )))
          (followed tables names most stack caller c.list_of-2.result outer lists was c.in_ok-caller.ensures.lower
          c.list_of-2.ensures
          (outer-none tables caller)
          (λ some. outer-is tables caller some ∙ sym
          (c.lacks_frames.ensures.whole c.if-lacks_frames.false some names are)))
          c.in_ok-push_list-3.ensures.appended;
      count = c.in_ok-push_list-3.ensures.count;
    }

-- where no frame of its own is listed, the stack is whole
whole : (g : Over) (c : After-lacks_frames g) (names : List (List ℕ))
    → c.listed_front-front.result ≡ prefix_len (is_listed c.args.tables.now names) c.deref.result.now
    → (c.listed_front-front.result == 0) ≡ true → IsWhole c.args.tables.now names c.args.stack
whole g c names listed first =
    let outer : List FrameAt =
    outer_frames c.args.tables.now.instructions c.args.tables.now.nodes c.in_ok-caller.caller in
    let none : c.listed_front-front.result ≡ 0 = grind (arith, nat_tests) in
    trimmed-not c.args.tables.now names c.args.stack c.listed_front-front.result c.deref.result.now outer
    (c.in_ok-caller.ensures.frames ∙ ap (λ (fs : List FrameAt). fs ++ outer) (sym c.deref.ensures.value)) listed
    (omega (arith, c.if-front-len.false, c.len.ensures, c.deref.ensures.len, c.listed_front-front.ensures.within))
    none

pub returns-then-lacks_frames-clause-whole : goal.returns-then-lacks_frames-clause-whole
returns-then-lacks_frames-clause-whole g c = λ first names are.
    whole g (goal.at.returns-then-lacks_frames-clause-whole g c).After-lacks_frames names
    (c.listed_front-front.ensures.front names are) first

pub returns-clause-whole : goal.returns-clause-whole
returns-clause-whole g c = λ first names are.
    whole g (goal.at.returns-clause-whole g c).After-lacks_frames names (c.listed_front-front.ensures.front names are)
    first
