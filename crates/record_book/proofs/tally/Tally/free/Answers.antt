use Rattle.std.proofs.Common.{◌≡◌, ℕ, ◌-◌, cond, refl, ap, arith}
use Rattle.std.specs.Prelude.{is_some}
use Rattle.record_book.specs.declared.tally.Tally.{Tally}
use Rattle.record_book.proofs.TallyLemmas.{freed-within, tally-freed}
use Rattle.record_book.proofs.tally.Tally.free.Goals as goal

pub overflow_sub-self : goal.overflow_sub-self
overflow_sub-self c =
    omega (
      arith,
      c.unwrap_or.ensures,
      (freed-within c.args.self.now c.requires.0 c.args.thread c.args.id c.remove-before.result c.requires.1
          c.remove-before.ensures.value).0,
    )

pub overflow_sub-self-2 : goal.overflow_sub-self-2
overflow_sub-self-2 c =
    let one : c.count_of.result ≡ cond {A = ℕ} (is_some c.remove-before.result) 1 0 = c.count_of.ensures in
    omega (
      arith,
      one,
      (freed-within c.args.self.now c.requires.0 c.args.thread c.args.id c.remove-before.result c.requires.1
          c.remove-before.ensures.value).1,
    )

pub returns-clause-taken : goal.returns-clause-taken
returns-clause-taken c = λ rejoined actions is.
    let old = c.args.self.now in
    let found = c.remove-before.result in
    let one : c.count_of.result ≡ cond {A = ℕ} (is_some found) 1 0 = c.count_of.ensures in
    let new : Tally =
    record old {
      live = c.remove-before.new.self;
      total = old.total - c.unwrap_or.result;
      blocks = old.blocks - c.count_of.result;
      peak = c.max-self.result;
    } in
    tally-freed old new actions c.args.thread c.args.id rejoined found is c.remove-before.ensures.value
    (λ t i. c.remove-before.ensures.updates.0 (t, i))
    (ap (λ (n : ℕ). old.total - n) c.unwrap_or.ensures) (ap (λ (n : ℕ). old.blocks - n) one) refl refl
    c.max-self.ensures
