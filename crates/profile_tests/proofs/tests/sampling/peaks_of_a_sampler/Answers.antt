use Rattle.std.proofs.Common.{◌≡◌, ℕ, ◌↔◌, Bool, false, List, [], Contains, IsTrue, rules, true≢false, sym, ◌∙◌, arith}
use Rattle.profile_tests.proofs.tests.sampling.peaks_of_a_sampler.Goals as goal

-- what answers no is one of no names
not-named : (name : List ℕ) (answer : Bool) → answer ≡ false → (IsTrue answer ↔ Contains [] name)
not-named name answer is = (
  (λ yes. absurd (true≢false (sym yes ∙ is))),
  (λ held. absurd (omega (arith, held.1))),
)

pub new-alloc_fns-requires-clause-stated : goal.new-alloc_fns-requires-clause-stated
new-alloc_fns-requires-clause-stated r c = (
  [],
  record {
    answer = λ name answer says. not-named name answer
        (let e = says.shows in let s = says.says in search rules);
  },
)

pub new-ignore_fns-requires-clause-stated : goal.new-ignore_fns-requires-clause-stated
new-ignore_fns-requires-clause-stated r c = (
  [],
  record {
    answer = λ name answer says. not-named name answer
        (let e = says.shows in let s = says.says in search rules);
  },
)

pub profile_of-requires-clause-stated : goal.profile_of-requires-clause-stated
profile_of-requires-clause-stated r c = (
  record { alloc_fns = []; ignore_fns = [] },
  record {
    alloc_fns =
        c.new-alloc_fns.ensures.stated []
        (record {
          answer =
              λ name answer says. not-named name answer (let e = says.shows in let s = says.says in search rules);
        });
    ignore_fns =
        c.new-ignore_fns.ensures.stated []
        (record {
          answer =
              λ name answer says. not-named name answer (let e = says.shows in let s = says.says in search rules);
        });
  },
)
