use Rattle.std.proofs.Common.{ℕ, ◌<◌, List, ◌++◌, length, set, sym, ap, ◌∙◌, subst}
use Rattle.std.specs.Prelude.{IfSome}
use Rattle.cost_tree.specs.Following.{following}
use Rattle.dhat_trace.specs.ListNumbers.{lists_under, numbers_of}
use Rattle.dhat_trace.proofs.NumberLemmas.{following_under, under_set}
use Rattle.dhat_trace.proofs.place_lists.PlaceLists.set.Goals as goal

pub returns : goal.returns
returns c =
    let lists = c.self.inside.lists in
    let numbers = c.self.inside.numbers.items in
    let number = c.number_of-next.ensures ∙ ap (λ (ns : List ℕ). numbers_of ns c.args.next) c.deref.ensures.value in
    let held =
    subst (λ (under : List (List ℕ)). IfSome c.args.next (λ other. other < length under)) (sym c.self.view_is)
    c.requires.next in
    rw (← c.self.view_is)
    (under_set lists c.push_whole.new.lists _ numbers c.args.stack c.len-number.result c.self.invariant
    c.in_ok-push_whole.ensures.appended c.len-number.ensures.count
    ∙ ap (λ (list : List ℕ). set (lists_under lists numbers) c.args.stack (c.args.own.now ++ list))
    (ap (following lists) number ∙ following_under lists numbers c.args.next held))
