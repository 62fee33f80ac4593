-- `ms_print`: the page of one Massif file. Its words name the file, and a value in its range for the
-- threshold and both sizes of the graph, or leave it as it is.
use Rattle.std.specs.Prelude.{ℕ, List, [], ◌∷◌, codes, Option, Some, map, refl, string_bytes}
use Rattle.clap.specs.Words.{Row}
use Rattle.command_frame.specs.Silent.{IsSilent}
use Rattle.command_frame.specs.Task.{Task}
use Rattle.command_words.specs.WordsTaken.{only_file_in, value_in}
use Rattle.profile_reports.specs.MassifFileReport.{massif_file_plan}
use Rattle.profile_reports.specs.PageReport.{page_verdict, shown_words}
use Rattle.commands.specs.declared.page_command.PageRequest.{PageRequest}
use Rattle.commands.specs.Command.{CommandOf, by_setting, over_file, with_file}
use Rattle.commands.specs.NumberWords.{number_or, percent_or}

-- one Massif file, with how its page is made, and the words that ask for it, which stand on the page
abbrev pub page_task : List ℕ → ℕ → ℕ → ℕ → List (List ℕ) → Task
page_task file threshold x y words =
    over_file (λ name. massif_file_plan name (page_verdict threshold x y (shown_words words))) file

-- what is done for words by what they give
abbrev pub page_given : List (List ℕ) → List Row → Option Task
page_given words rows =
    by_setting (only_file_in rows) (λ file.
    by_setting (percent_or (value_in rows (codes "threshold"))) (λ threshold.
    by_setting (number_or 72 4 1000 (value_in rows (codes "x"))) (λ x.
    by_setting (number_or 20 4 1000 (value_in rows (codes "y"))) (λ y.
    Some (page_task file threshold x y words)))))

abbrev pub page : CommandOf PageRequest
page = record {
  table = with_file (codes "threshold" ∷ codes "x" ∷ codes "y" ∷ []);
  given = page_given;
  task = λ request.
      page_task request.file.now request.size.threshold request.size.x request.size.y
      (map string_bytes request.words.now);
}

-- nothing is written while it reads
pub page_is_silent : (file : List ℕ) (threshold x y : ℕ) (words : List (List ℕ))
    → IsSilent (page_task file threshold x y words).plan
page_is_silent file threshold x y words = (λ earlier line. refl, λ lines. tt)
