use Rattle.std.proofs.Common.{◌≡◌, ℕ, ◌+◌, ◌-◌, cond, refl, ap, arith}
use Rattle.std.specs.Prelude.{is_some}
use Rattle.record_book.specs.declared.tally.Tally.{Tally}
use Rattle.record_book.proofs.TallyLemmas.{freed-within, tally-allocated, tally-within}
use Rattle.record_book.proofs.tally.Tally.allocate.Goals as goal

pub overflow_sub-self : goal.overflow_sub-self
overflow_sub-self c =
    omega (
      arith,
      c.unwrap_or.ensures,
      (freed-within c.args.self.now c.requires.room.tallied.0 c.args.thread c.args.id c.in_ok-before.before
          c.requires.room.tallied.1 c.in_ok-before.ensures.old).0,
    )

pub overflow_sub-self-2 : goal.overflow_sub-self-2
overflow_sub-self-2 c =
    let one : c.count_of.result ≡ cond {A = ℕ} (is_some c.in_ok-before.before) 1 0 = c.count_of.ensures in
    omega (
      arith,
      one,
      (freed-within c.args.self.now c.requires.room.tallied.0 c.args.thread c.args.id c.in_ok-before.before
          c.requires.room.tallied.1 c.in_ok-before.ensures.old).1,
    )

pub overflow_add-self-3 : goal.overflow_add-self-3
overflow_add-self-3 c =
    omega (
      arith,
      c.requires.few_bytes,
      c.requires.room.few_bytes,
      (tally-within c.args.self.now c.requires.room.tallied.0 c.requires.room.tallied.1).0,
    )

pub overflow_add-self-4 : goal.overflow_add-self-4
overflow_add-self-4 c =
    omega (
      arith,
      c.requires.room.few_calls,
      (tally-within c.args.self.now c.requires.room.tallied.0 c.requires.room.tallied.1).1,
    )

pub returns-clause-taken : goal.returns-clause-taken
returns-clause-taken c = λ ips actions is.
    let old = c.args.self.now in
    let found = c.in_ok-before.before in
    let one : c.count_of.result ≡ cond {A = ℕ} (is_some found) 1 0 = c.count_of.ensures in
    let new : Tally = record {
      live = c.insert.new.self;
      calls = old.calls + 1;
      allocated = old.allocated + c.args.size;
      total = old.total - c.unwrap_or.result + c.args.size;
      blocks = old.blocks - c.count_of.result + 1;
      peak = c.max-self.result;
    } in
    tally-allocated old new actions c.args.thread c.args.id c.args.size ips found is c.in_ok-before.ensures.old
    (λ t i. c.in_ok-before.ensures.updates.0 (t, i))
    (ap (λ (n : ℕ). old.total - n + c.args.size) c.unwrap_or.ensures) (ap (λ (n : ℕ). old.blocks - n + 1) one) refl refl
    c.max-self.ensures
