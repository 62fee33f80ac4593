-- Lines of modules files and of scripts, one after another.
use Rattle.std.proofs.Common.{◌≡◌, ℕ, Bool, true, false, if◌then◌else◌, List, [], ◌∷◌, ◌++◌, length, Option, None, Some}
use Rattle.std.proofs.Common.{refl, ◌∙◌, arith}
use Rattle.record_scripts.specs.Job.{Job, in_last}
use Rattle.record_scripts.specs.ScriptFaults.{with_turn}
use Rattle.record_scripts.specs.ScriptLine.{turn_in}
use Rattle.record_scripts.specs.Skipped.{is_skipped}
use Rattle.record_scripts.specs.Turns.{Turn}
use Rattle.heaprec_commands.specs.declared.reader.InputKind.{InputKind}
use Rattle.heaprec_commands.specs.declared.reader.InputKind.TheVariants.{Modules, Script}
use Rattle.heaprec_commands.specs.FileLines.{with_lines, with_one}

-- one line more
pub lines-push : (kind : InputKind) (job : Job) (lines : List (List ℕ)) (line : List ℕ)
    → with_lines kind job (lines ++ line ∷ []) ≡ with_one kind (with_lines kind job lines) line
lines-push kind job [] line = refl
lines-push kind job (first ∷ lines) line = lines-push kind (with_one kind job first) lines line

-- a turn more is no script more
count-turn : (scripts : List (List Turn)) (turn : Turn) → length (in_last scripts turn) ≡ length scripts
count-turn [] turn = refl
count-turn (script ∷ []) turn = refl
count-turn (script ∷ next ∷ more) turn = let rest = count-turn (next ∷ more) turn in omega (arith, rest)

count-said : (job : Job) (said : Option Turn) → length (with_turn job said).scripts ≡ length job.scripts
count-said job None = refl
count-said job (Some turn) = count-turn job.scripts turn

count-either : (b : Bool) (one other : Job) (count : ℕ) → length one.scripts ≡ count → length other.scripts ≡ count
    → length (if b then one else other).scripts ≡ count
count-either true one other count first second = first
count-either false one other count first second = second

-- nor is a line
pub count-one : (kind : InputKind) (job : Job) (line : List ℕ)
    → length (with_one kind job line).scripts ≡ length job.scripts
count-one Modules job line = count-either (is_skipped line) job _ (length job.scripts) refl refl
count-one Script job line =
    count-either (is_skipped line) job (with_turn job (turn_in line)) (length job.scripts) refl
    (count-said job (turn_in line))

pub count-lines : (kind : InputKind) (job : Job) (lines : List (List ℕ))
    → length (with_lines kind job lines).scripts ≡ length job.scripts
count-lines kind job [] = refl
count-lines kind job (line ∷ lines) = count-lines kind (with_one kind job line) lines ∙ count-one kind job line
