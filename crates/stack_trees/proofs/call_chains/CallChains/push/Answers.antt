use Rattle.std.proofs.Common.{◌≡◌, ℕ, ◌<◌, List, [], ◌∷◌, ◌++◌, length, map, take, sym, ap, subst, ◌∙◌, rules}
use Rattle.std.specs.Prelude.{All, IfSome}
use Rattle.std.proofs.lemmas.List.{length-map}
use Rattle.std.proofs.lemmas.Result.{on_err_weaker, on_ok_weaker}
use Rattle.ht_trace.specs.declared.frame.FrameAt.{FrameAt}
use Rattle.ht_trace.specs.FrameText.{frame_text}
use Rattle.cost_tree.specs.Following.{following}
use Rattle.cost_tree.specs.Texts.{IsText, lists_of, texts_of}
use Rattle.cost_tree.proofs.Laws.{lists-kept, texts-grown}
use Rattle.stack_trees.proofs.Numbering.{first-enough, lists-chained, texts-chained}
use Rattle.stack_trees.proofs.call_chains.CallChains.push.Goals as goal

pub returns-in_err-number_frames-clause-unchanged : goal.returns-in_err-number_frames-clause-unchanged
returns-in_err-number_frames-clause-unchanged c =
    let same : lists_of c.number_frames.new.names c.self.inside.chains ≡ c.args.self.now =
    lists-kept c.self.inside.names c.number_frames.new.names c.self.inside.chains
    c.in_err-number_frames.ensures.names_stay c.self.invariant
    ∙ c.self.view_is in
    search rules

pub invariant_of-self-2 : goal.invariant_of-self-2
invariant_of-self-2 c =
    let names = c.self.inside.names in
    let new = c.number_frames.new.names in
    let chains = c.self.inside.chains in
    let is = c.in_ok-number_frames.ensures in
    texts-chained c.push.result new chains c.push.new.self c.deref.result.now c.args.next c.args.form.most
    (subst (λ (n : ℕ). IfSome c.args.next (λ k. k < n))
    (sym (ap (λ (lists : List (List (List ℕ))). length lists) c.self.view_is) ∙ length-map chains (texts_of names))
    c.requires.earlier)
    (texts-grown names new chains is.none_lost c.self.invariant)
    (subst (λ (ns : List ℕ). All (IsText new) ns) (sym c.deref.ensures.value) is.names) c.push.ensures.appended
    c.push.ensures.unchanged

pub returns-clause-appended : goal.returns-clause-appended
returns-clause-appended c =
    let names = c.self.inside.names in
    let new = c.number_frames.new.names in
    let chains = c.self.inside.chains in
    let most = c.args.form.most in
    let next = c.args.next in
    let text : FrameAt → List ℕ = frame_text c.args.form.style c.args.tables.now in
    let is = c.in_ok-number_frames.ensures in
    let earlier : IfSome next (λ k. k < length chains) =
    subst (λ (n : ℕ). IfSome next (λ k. k < n))
    (sym (ap (λ (lists : List (List (List ℕ))). length lists) c.self.view_is) ∙ length-map chains (texts_of names))
    c.requires.earlier in
    on_ok_weaker c.push.result
    (λ appended.
    ap (λ (lists : List (List ℕ)). lists_of new lists) appended
    ∙ lists-chained new chains c.deref.result.now next most earlier
    ∙ ap (λ (lists : List (List (List ℕ))). lists ++ take most (texts_of new c.deref.result.now ++ following lists next)
    ∷ []) (lists-kept
    names new chains is.names_stay c.self.invariant
    ∙ c.self.view_is)
    ∙ ap (λ (texts : List (List ℕ)). c.args.self.now ++ take most (texts ++ following c.args.self.now next) ∷ [])
    (ap (λ (ns : List ℕ). texts_of new ns) c.deref.ensures.value ∙ is.texts
    ∙ ap (λ (k : ℕ). map text (take k c.args.frames.now)) c.min.ensures)
    ∙ ap (λ (texts : List (List ℕ)). c.args.self.now ++ texts ∷ [])
    (first-enough text most c.args.frames.now (following c.args.self.now next)))
    c.push.ensures.appended

pub returns-clause-unchanged : goal.returns-clause-unchanged
returns-clause-unchanged c =
    on_err_weaker c.push.result
    (λ same. ap (λ (lists : List (List ℕ)). lists_of c.number_frames.new.names lists) same
    ∙ lists-kept c.self.inside.names c.number_frames.new.names c.self.inside.chains
    c.in_ok-number_frames.ensures.names_stay c.self.invariant
    ∙ c.self.view_is)
    c.push.ensures.unchanged
