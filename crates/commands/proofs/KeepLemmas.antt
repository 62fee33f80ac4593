-- That `interpret` at status 0 keeps the ledger and the stacks of the raw trace.
use Rattle.std.proofs.Common.{◌≡◌, ◌^◌, ◌<◌, ℕ, List, [], ◌∷◌, Bool}
use Rattle.std.proofs.Common.{true, false, Option, Some, None, codes, refl, subst}
use Rattle.std.proofs.Common.{sym, if◌then◌else◌}
use Rattle.std.proofs.lemmas.Slice.Eq.{bytes_eq-Decides}
use Rattle.std.specs.Option.{option_map}
use Rattle.std.specs.Str.{bytes_eq}
use Rattle.clap.specs.Words.{Row}
use Rattle.hp_outside.specs.Folder.{Folder}
use Rattle.command_frame.specs.FirstFault.{Bounds}
use Rattle.command_frame.specs.Task.{task_answer}
use Rattle.command_words.specs.WordsTaken.{words_taken}
use Rattle.trace_reports.proofs.Laws.{AreLaws, interpret-keeps}
use Rattle.commands.specs.Answer.{answer}
use Rattle.commands.specs.Command.{by_setting}
use Rattle.commands.specs.Commands.{command_named}
use Rattle.commands.specs.InterpretCommand.{AskedKeeps, InterpretAsked, KeepsLedgerOf, interpret}
use Rattle.commands.specs.InterpretCommand.{interpret_given, interpret_task}
use Rattle.commands.specs.Texts.{heapsuite_texts}

asked-keeps : AreLaws → (bounds : Bounds) (folder : Folder) (asked : Option InterpretAsked) → bounds.line < 2 ^ 32
    → (task_answer heapsuite_texts bounds folder (option_map interpret_task asked)).status ≡ 0
    → AskedKeeps folder asked (task_answer heapsuite_texts bounds folder (option_map interpret_task asked)).output
asked-keeps laws bounds folder None small zero = tt
asked-keeps laws bounds folder (Some asked) small zero =
    interpret-keeps laws heapsuite_texts bounds folder asked.symbols asked.trace small zero

-- by what taken words give
rows-keep : AreLaws → (bounds : Bounds) (folder : Folder) (words : List (List ℕ)) (taken : Option (List Row))
    → bounds.line < 2 ^ 32
    → (task_answer heapsuite_texts bounds folder (by_setting taken (interpret.given words))).status ≡ 0
    → AskedKeeps folder (by_setting taken interpret_given)
    (task_answer heapsuite_texts bounds folder (by_setting taken (interpret.given words))).output
rows-keep laws bounds folder words None small zero = tt
rows-keep laws bounds folder words (Some rows) small zero =
    asked-keeps laws bounds folder (interpret_given rows) small zero

-- by whether the first word names the command
named-keeps : AreLaws → (bounds : Bounds) (folder : Folder) (name : List ℕ) (words : List (List ℕ)) (is : Bool)
    → bytes_eq name (codes "interpret") ≡ is → bounds.line < 2 ^ 32
    → (answer (name ∷ words) bounds folder).status ≡ 0
    → AskedKeeps folder (if is then by_setting (words_taken interpret.table words) interpret_given else None)
    (answer (name ∷ words) bounds folder).output
unfolding command_named
named-keeps laws bounds folder name words false same small zero = tt
named-keeps laws bounds folder name words true same small zero =
    subst (λ (n : List ℕ). (answer (n ∷ words) bounds folder).status ≡ 0
    → AskedKeeps folder (by_setting (words_taken interpret.table words) interpret_given)
    (answer (n ∷ words) bounds folder).output)
    (sym ((bytes_eq-Decides name (codes "interpret")).0 same))
    (λ done. rows-keep laws bounds folder words (words_taken interpret.table words) small done) zero

pub run-keeps : AreLaws → (bounds : Bounds) (folder : Folder) (words : List (List ℕ)) → bounds.line < 2 ^ 32
    → (answer words bounds folder).status ≡ 0
    → KeepsLedgerOf folder words (answer words bounds folder).output
unfolding KeepsLedgerOf
run-keeps laws bounds folder [] small zero = tt
run-keeps laws bounds folder (name ∷ words) small zero =
    named-keeps laws bounds folder name words (bytes_eq name (codes "interpret")) refl small zero
