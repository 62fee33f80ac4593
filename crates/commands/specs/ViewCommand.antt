-- `dhat_view`: the view of one DHAT profile. Its words name the profile, and for the figure, the
-- threshold and the depth a value in its range each, or leave it as it is.
use Rattle.std.specs.Prelude.{ℕ, List, [], ◌∷◌, codes, Option, Some}
use Rattle.clap.specs.Words.{Row}
use Rattle.command_frame.specs.Silent.{IsSilent}
use Rattle.command_frame.specs.Task.{Task}
use Rattle.command_words.specs.WordsTaken.{only_file_in, value_in}
use Rattle.dhat_json.specs.declared.figure.FigureKey.{FigureKey}
use Rattle.profile_reports.specs.DhatFileReport.{dhat_file_plan}
use Rattle.profile_reports.specs.ViewReport.{view_verdict}
use Rattle.commands.specs.declared.view_command.DhatViewRequest.{DhatViewRequest}
use Rattle.commands.specs.Command.{CommandOf, by_setting, over_file, with_file}
use Rattle.commands.specs.KeyWords.{key_or}
use Rattle.commands.specs.NumberWords.{number_or, percent_or}

-- one profile, with which figure of a point is its cost, the least share that is shown by itself, and how many frames deep
abbrev pub view_task : List ℕ → FigureKey → ℕ → ℕ → Task
view_task profile key threshold depth =
    over_file (λ name. dhat_file_plan name (view_verdict key threshold depth)) profile

-- what is done for the rows of taken words
abbrev pub view_given : List Row → Option Task
view_given rows =
    by_setting (only_file_in rows) (λ profile.
    by_setting (key_or (value_in rows (codes "sort"))) (λ key.
    by_setting (percent_or (value_in rows (codes "threshold"))) (λ threshold.
    by_setting (number_or 30 1 200 (value_in rows (codes "depth"))) (λ depth.
    Some (view_task profile key threshold depth)))))

abbrev pub view : CommandOf DhatViewRequest
view = record {
  table = with_file (codes "sort" ∷ codes "threshold" ∷ codes "depth" ∷ []);
  given = λ words rows. view_given rows;
  task = λ request.
      view_task request.profile.now request.options.key request.options.threshold request.options.depth;
}

-- nothing is written while it reads
pub view_is_silent : (profile : List ℕ) (key : FigureKey) (threshold depth : ℕ)
    → IsSilent (view_task profile key threshold depth).plan
view_is_silent profile key threshold depth = λ bytes. tt
