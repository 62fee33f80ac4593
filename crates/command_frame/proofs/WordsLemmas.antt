-- From the run of a task to the run of the words that ask for it.
use Rattle.std.proofs.Common.{◌≡◌, ◌⊎◌, ℕ, List, [], Option, Some, None, Result, refl, ap, sym, subst, ◌∙◌, inl, inr}
use Rattle.std.proofs.Common.{arith}
use Rattle.command_frame.specs.declared.context.RunContext.{RunContext}
use Rattle.command_frame.specs.declared.halt.Halt.{Halt}
use Rattle.command_frame.specs.Answer.{Answer, after, memory_answer, usage_answer}
use Rattle.command_frame.specs.FirstFault.{Bounds, bounds_of}
use Rattle.command_frame.specs.Run.{Ran}
use Rattle.command_frame.specs.RunsTo.{RunsReady, Shown, Taken, answer_of, status_of}
use Rattle.command_frame.specs.Task.{Task}
use Rattle.command_frame.specs.Texts.{Texts, texts_of}
use Rattle.command_frame.specs.WordsRan.{WordsRan, WordsRunTo}
use Rattle.command_frame.proofs.OutputLemmas.{append_nothing}
use Rattle.command_frame.proofs.RunsToLemmas.{status_told}

-- a task was run
pub words_ran : {R : Type 0} {text : R → List ℕ} (context : RunContext) (texts : Texts) (task : Task)
    (asking : Option Task)
    (before now : Shown) (old new : Taken) (result : Result R Halt) (answer : Answer)
    → texts_of context.texts ≡ texts → asking ≡ Some task → answer ≡ answer_of text texts result
    → RunsReady text context task.names task.plan before now old new result
    → WordsRunTo texts (bounds_of context.limits) asking before now old new answer
words_ran {text = text} context texts task asking before now old new result answer same asks is ran =
    let whole = ran.ran [] in
    let given : answer_of text (texts_of context.texts) result ≡ answer =
    ap (λ t. answer_of text t result) same ∙ sym is in
    let status : status_of result ≡ answer.status =
    sym (status_told text (texts_of context.texts) result) ∙ ap (λ (a : Answer). a.status) given in
    record {
      early = whole.0;
      written = whole.1.0;
      ran =
          subst (λ o. WordsRan texts (bounds_of context.limits) before.files o before.moment now.moment
          (after whole.0 answer)) (sym
          asks)
          (inr
          (subst
          (λ a. Ran texts (bounds_of context.limits) before.files [] task.names task.plan before.moment now.moment
          (after whole.0 a))
          given
          (subst
          (λ t. Ran t (bounds_of context.limits) before.files [] task.names task.plan before.moment now.moment
          (after whole.0 (answer_of text (texts_of context.texts) result)))
          same whole.1.1)));
      files = ran.files;
      unwritten = λ four. ran.unwritten (status ∙ four);
      sound = λ other. ran.sound (λ four. other (sym status ∙ four));
    }

-- nothing was run
pub words_not_ran : (texts : Texts) (bounds : Bounds) (asking : Option Task) (store : Shown) (out : Taken)
    (answer : Answer)
    → ((answer ≡ memory_answer texts) ⊎ ((answer ≡ usage_answer texts) × (asking ≡ None)))
    → WordsRunTo texts bounds asking store store out out answer
words_not_ran texts bounds asking store out answer (inl memory) = record {
  early = [];
  written = sym (append_nothing out.written);
  ran = inl (refl, ap (after []) memory);
  files = refl;
  unwritten = λ four. absurd (omega (arith, ap (λ (a : Answer). a.status) memory, four));
  sound = λ _. refl;
}
words_not_ran texts bounds asking store out answer (inr usage) = record {
  early = [];
  written = sym (append_nothing out.written);
  ran =
      subst (λ o. WordsRan texts bounds store.files o store.moment store.moment (after [] answer)) (sym usage.1)
      (inr (refl, ap (after []) usage.0));
  files = refl;
  unwritten = λ four. absurd (omega (arith, ap (λ (a : Answer). a.status) usage.0, four));
  sound = λ _. refl;
}
