-- `convert`: one of three conversions of one file. Its words name the file, what kind of file it is and
-- what is written of it, and a figure and a snapshot or none; no Massif file is written of a Massif
-- file.
use Rattle.std.specs.Prelude.{ℕ, List, [], ◌∷◌, codes, Option, Some, None, refl}
use Rattle.clap.specs.Words.{Row}
use Rattle.command_frame.specs.Silent.{IsSilent}
use Rattle.command_frame.specs.Task.{Task}
use Rattle.command_words.specs.WordsTaken.{only_file_in, value_in}
use Rattle.dhat_json.specs.declared.figure.FigureKey.{FigureKey}
use Rattle.profile_reports.specs.declared.conversion.Conversion.{Conversion}
use Rattle.profile_reports.specs.declared.conversion.Conversion.TheVariants.{FoldedDhat, FoldedMassif, MassifOfDhat}
use Rattle.profile_reports.specs.ConvertReport.{conversion_plan}
use Rattle.commands.specs.declared.convert_command.ConvertRequest.{ConvertRequest}
use Rattle.commands.specs.declared.convert_command.FileKind.{FileKind}
use Rattle.commands.specs.declared.convert_command.FileKind.TheVariants as from
use Rattle.commands.specs.declared.convert_command.Target.{Target}
use Rattle.commands.specs.declared.convert_command.Target.TheVariants as to
use Rattle.commands.specs.Command.{CommandOf, by_setting, over_file, with_file}
use Rattle.commands.specs.KeyWords.{key_or}
use Rattle.commands.specs.NameWords.{meaning_or}
use Rattle.commands.specs.NumberWords.{number_if_given}

-- the names of kinds of files
abbrev pub kinds : List (List ℕ × FileKind)
kinds = (codes "dhat", from.Dhat) ∷ (codes "massif", from.Massif) ∷ []

-- the names of what is to be written
abbrev pub targets : List (List ℕ × Target)
targets = (codes "folded", to.Folded) ∷ (codes "massif", to.Massif) ∷ []

-- the number of the snapshot, where one is given
abbrev pub snapshot_or : Option (List ℕ) → Option (Option ℕ)
snapshot_or value = number_if_given 0 1000000 value

-- the conversion by what is read and written; a Massif file isn't written of a Massif file
abbrev pub conversion_given : FileKind → Target → FigureKey → Option ℕ → Option Conversion
conversion_given from.Dhat to.Folded key snapshot = Some (FoldedDhat key)
conversion_given from.Dhat to.Massif key snapshot = Some MassifOfDhat
conversion_given from.Massif to.Folded key snapshot = Some (FoldedMassif snapshot)
conversion_given from.Massif to.Massif key snapshot = None

-- one file, and what it is converted to
abbrev pub convert_task : List ℕ → Conversion → Task
convert_task file conversion = over_file (λ name. conversion_plan name conversion) file

-- what is done for the rows of taken words: a DHAT profile is read and folded lines are written where they say no other
abbrev pub convert_given : List Row → Option Task
convert_given rows =
    by_setting (only_file_in rows) (λ file.
    by_setting (meaning_or from.Dhat kinds (value_in rows (codes "from"))) (λ kind.
    by_setting (meaning_or to.Folded targets (value_in rows (codes "to"))) (λ target.
    by_setting (key_or (value_in rows (codes "key"))) (λ key.
    by_setting (snapshot_or (value_in rows (codes "snapshot"))) (λ snapshot.
    by_setting (conversion_given kind target key snapshot) (λ conversion.
    Some (convert_task file conversion)))))))

abbrev pub convert : CommandOf ConvertRequest
convert = record {
  table = with_file (codes "from" ∷ codes "to" ∷ codes "key" ∷ codes "snapshot" ∷ []);
  given = λ words rows. convert_given rows;
  task = λ request. convert_task request.file.now request.conversion;
}

-- no conversion writes anything while its file is read
pub conversion_is_silent : (file : List ℕ) (conversion : Conversion)
    → IsSilent (conversion_plan file conversion)
conversion_is_silent file (FoldedDhat key) = λ bytes. tt
conversion_is_silent file (FoldedMassif snapshot) = (λ earlier line. refl, λ lines. tt)
conversion_is_silent file MassifOfDhat = λ bytes. tt
