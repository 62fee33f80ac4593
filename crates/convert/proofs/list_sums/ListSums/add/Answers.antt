use Rattle.std.proofs.Common.{ℕ, [], ◌∷◌, ◌++◌, refl, sym, ◌∙◌, subst, arith}
use Rattle.std.proofs.lemmas.Bool.{not-true, not-false}
use Rattle.convert.specs.Numbers.{AreSums}
use Rattle.convert.proofs.Sums.{item_at, new-taken, old-sum, old-taken, sum-within, zero-added}
use Rattle.convert.proofs.list_sums.ListSums.add.Goals as goal

pub returns-then-number-eq0-clause-added : goal.returns-then-number-eq0-clause-added
returns-then-number-eq0-clause-added c = λ items are.
    let names = c.args.self.now.names in
    let keys = c.args.self.now.lists.keys in
    let sums = c.args.self.now.sums.items in
    subst (λ (n : ℕ). AreSums names keys sums (items ++ item_at names c.args.list.now n ∷ []))
    (sym c.if-number-eq0.true) (zero-added names keys sums items c.args.list.now are)

pub overflow_add-index_mut : goal.overflow_add-index_mut
overflow_add-index_mut c =
    let names = c.args.self.now.names in
    let keys = c.args.self.now.lists.keys in
    let sums = c.args.self.now.sums.items in
    let items = c.requires.sums.0 in
    let are = c.requires.sums.1 in
    let is = c.in_ok-place.ensures in
    let now =
    old-sum names keys sums items c.in_ok-key.key.items c.in_ok-place.place c.index_mut.result.now are
    (not-false _ (sym is.added ∙ c.if-is_new.false)) is.index c.index_mut.ensures.value in
    let within = sum-within names keys sums items c.in_ok-place.place are in
    let room = c.requires.sums.2 in
    omega arith

pub returns-in_ok-push-clause-added : goal.returns-in_ok-push-clause-added
returns-in_ok-push-clause-added c = λ items are.
    let is = c.in_ok-place.ensures in
    new-taken c.args.self.now.names c.args.self.now.lists.keys c.insert_full.new.self.keys c.args.self.now.sums.items
    c.push.new.self.items items c.in_ok-key.key c.args.list.now c.args.number
    are c.requires.held c.in_ok-key.ensures.items (omega (arith, c.if-number-eq0.false))
    (not-true _ (sym is.added ∙ c.if-is_new.true)) is.keys c.in_ok-push.ensures.items

pub returns-else-is_new-clause-added : goal.returns-else-is_new-clause-added
returns-else-is_new-clause-added c = λ items are.
    let is = c.in_ok-place.ensures in
    old-taken c.args.self.now.names c.args.self.now.lists.keys c.insert_full.new.self.keys c.args.self.now.sums.items _
    items c.in_ok-key.key c.args.list.now c.args.number c.in_ok-place.place c.index_mut.result.now
    are c.requires.held c.in_ok-key.ensures.items (omega (arith, c.if-number-eq0.false))
    (not-false _ (sym is.added ∙ c.if-is_new.false)) is.keys is.index c.index_mut.ensures.value refl
