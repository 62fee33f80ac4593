-- From a run and the delivery of its answer to what both came to.
use Rattle.std.proofs.Common.{◌≡◌, ◌≢◌, ◌<◌, ℕ, List, [], ◌∷◌, Option, Some, None, false, is_some, length, refl, arith}
use Rattle.std.specs.Option.{option_and_then}
use Rattle.command_frame.specs.declared.context.RunContext.{RunContext}
use Rattle.command_frame.specs.Answer.{Answer, after}
use Rattle.command_frame.specs.Delivers.{DeliversTo}
use Rattle.command_frame.specs.FirstFault.{bounds_of}
use Rattle.command_frame.specs.Outside.{Outside}
use Rattle.command_frame.specs.RunsTo.{Shown, Taken}
use Rattle.command_frame.specs.Task.{Task}
use Rattle.command_frame.specs.Texts.{texts_of}
use Rattle.command_frame.specs.WordsRan.{WordsRunTo}
use Rattle.command_frame.proofs.Laws.{is_delivered}
use Rattle.commands.specs.Commands.{Command, command_named, knows_first, task_of}
use Rattle.commands.specs.HasEnded.{HasEnded, NamedHasEnded, WordsHaveEnded}

-- words were run, and the answer was delivered
pub has_ended : (context : RunContext) (task : Option Task) (store stored : Shown) (out mid out_now err err_now : Taken)
    (status : ℕ) (rest : Answer)
    → WordsRunTo (texts_of context.texts) (bounds_of context.limits) task store stored out mid rest
    → DeliversTo (texts_of context.texts).write_failed rest status mid out_now err err_now
    → HasEnded context task (record { store = store; out = out; err = err })
    (record { store = stored; out = out_now; err = err_now }) status
has_ended context task store stored out mid out_now err err_now status rest ran delivery = record {
  given = after ran.early rest;
  ran = ran.ran;
  delivered =
      is_delivered (texts_of context.texts) (bounds_of context.limits) task store stored out mid out_now err err_now
      status rest ran delivery;
  files = ran.files;
}

-- what the first word names was run
named_ended : (context : RunContext) (command : Option Command) (words : List (List ℕ)) (before now : Outside)
    (status : ℕ) → NamedHasEnded context command words before now status
    → HasEnded context (option_and_then (λ (command : Command). command.task words) command) before now status
    × (is_some command ≡ false → status ≢ 5)
named_ended context None words before now status ended = (ended.0, λ _. ended.1)
named_ended context (Some command) words before now status ended = (ended, λ unknown. absurd (cc))

-- all words were run, and an unknown first one took no memory
pub words_ended : (context : RunContext) (words : List (List ℕ)) (before now : Outside) (status : ℕ)
    → WordsHaveEnded context words before now status
    → HasEnded context (task_of words) before now status × (knows_first words ≡ false → status ≢ 5)
words_ended context [] before now status ended = (ended.0, λ _. ended.1)
words_ended context (name ∷ words) before now status ended =
    named_ended context (command_named name) words before now status ended

-- no words are the empty list of them
pub no_words : {A : Type 0} (words : List A) → length words < 1 → words ≡ []
no_words [] below = refl
no_words (word ∷ words) below = absurd (omega (arith, below))
