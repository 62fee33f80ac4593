-- The facts of a run that goes on behind a file, whether that was read by lines or whole.
use Rattle.std.proofs.Common.{◌≡◌, ◌≢◌, ℕ, ◌+◌, true, List, [], ◌∷◌, ◌++◌, length, take, Option, refl, ap, sym, subst}
use Rattle.std.proofs.Common.{◌∙◌, arith}
use Rattle.std.proofs.Math.Seq.{take-append-add}
use Rattle.hp_outside.specs.Faults.{Faulted}
use Rattle.hp_outside.specs.Folder.{Folder}
use Rattle.hp_outside.specs.Taken.{WhereTold}
use Rattle.command_frame.specs.FirstFault.{Bounds}
use Rattle.command_frame.specs.Plan.{Plan}
use Rattle.command_frame.specs.Texts.{Texts}
use Rattle.command_frame.specs.Answer.{Answer, after, plan_answer}
use Rattle.command_frame.specs.Moment.{Moment, Opened}
use Rattle.command_frame.specs.RunFacts.{RunFacts}
use Rattle.command_frame.specs.Silent.{IsSilent}
use Rattle.command_frame.proofs.NotReadLemmas.{not_read_behind}

module _ (texts : Texts) (bounds : Bounds) (files : Option Folder) (last name wanted : List ℕ) (names : List (List ℕ))
    (plan next : Plan) (before mid now : Moment) (early : List ℕ) (given answer : Answer) where
  pub behind_facts : Opened before mid true → mid.faults ≡ before.faults → WhereTold mid.left (λ left. left ≡ [])
      → given ≡ after early answer
      → WhereTold files
      (λ folder. after early (plan_answer texts bounds folder wanted next) ≡ plan_answer texts bounds folder last plan)
      → (IsSilent plan → (early ≡ []) × IsSilent next) → RunFacts texts bounds files wanted names next mid now answer
      → RunFacts texts bounds files last (name ∷ names) plan before now given
  behind_facts opened faults ended is goes silent rest =
      let status : given.status ≡ answer.status = ap (λ (a : Answer). a.status) is in
      let message : given.message ≡ answer.message = ap (λ (a : Answer). a.message) is in
      let opens : mid.opens ≡ before.opens + 1 = opened.opens in
      record {
        judged = λ folder known three four five.
            is
            ∙
            (ap (after early)
            (rest.judged folder known (λ e. three (status ∙ e)) (λ e. four (status ∙ e)) (λ e. five (status ∙ e)))
            ∙ goes folder known);
        quiet = λ folder known quiet four five.
            is
            ∙
            (ap (after early)
            (rest.quiet folder known (λ rose. quiet (subst (λ n. Faulted n now.faults) faults rose))
            (λ e. four (status ∙ e)) (λ e. five (status ∙ e)))
            ∙ goes folder known);
        front = λ folder known.
            let front = rest.front folder known in (
              length early + front.0,
              ap (λ (a : Answer). a.output) is ∙ (ap (λ bytes. early ++ bytes) front.1
                  ∙ (sym (take-append-add early (plan_answer texts bounds folder wanted next).output front.0)
                  ∙ ap (λ (a : Answer). take (length early + front.0) a.output) (goes folder known))),
            );
        unread = λ none. absurd (cc);
        opens_at_least = omega (arith, opens, rest.opens_at_least);
        opens_at_most = omega (arith, opens, rest.opens_at_most);
        opened = λ e. omega (arith, opens, rest.opened (sym status ∙ e));
        current = λ e some. current_behind names (rest.current (sym status ∙ e)) rest.unread;
        ended = λ e some. ended_behind names (rest.ended (sym status ∙ e)) rest.unread;
        not_read =
            λ e. not_read_behind texts files name names before mid now given answer
            (rest.not_read (sym status ∙ e)) opens
            faults message;
        sound =
            λ three four five. rest.sound (λ e. three (status ∙ e)) (λ e. four (status ∙ e)) (λ e. five (status ∙ e))
            ∙ faults;
        memory = λ e. message ∙ rest.memory (sym status ∙ e);
        write = λ e. message ∙ rest.write (sym status ∙ e);
        bounded = omega (arith, status, rest.bounded);
        not_usage = λ e. rest.not_usage (sym status ∙ e);
        silent = λ quiet some.
            let silence = silent quiet in
            let later : answer.output ≡ [] = rest.silent silence.1 (λ e. some (status ∙ e)) in
            ap (λ (a : Answer). a.output) is ∙ (ap (λ bytes. bytes ++ answer.output) silence.0 ∙ later);
      }
    where
      current_behind : (more : List (List ℕ)) → (more ≢ [] → now.current ≡ true) → (more ≡ [] → now ≡ mid)
          → now.current ≡ true
      current_behind [] later same = ap (λ (m : Moment). m.current) (same refl) ∙ opened.current_is
      current_behind (other ∷ more) later same = later (λ none. absurd (cc))

      ended_behind : (more : List (List ℕ)) → (more ≢ [] → WhereTold now.left (λ left. left ≡ []))
          → (more ≡ [] → now ≡ mid) → WhereTold now.left (λ left. left ≡ [])
      ended_behind [] later same = subst (λ (m : Moment). WhereTold m.left (λ left. left ≡ [])) (sym (same refl)) ended
      ended_behind (other ∷ more) later same = later (λ none. absurd (cc))
