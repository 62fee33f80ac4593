-- `massif`: Massif's snapshots of one trace. Its words name the trace, and a value in its range for each
-- of ten options, or leave it as it is.
use Rattle.std.specs.Prelude.{ℕ, List, [], ◌∷◌, codes, Option, Some, None, if◌then◌else◌, refl, unwrap_or}
use Rattle.std.specs.Int.{is_power_of_two}
use Rattle.std.specs.Option.{option_and_then}
use Rattle.clap.specs.Words.{Row}
use Rattle.command_frame.specs.Silent.{IsSilent}
use Rattle.command_frame.specs.Task.{Task}
use Rattle.command_words.specs.TableApp.{Table}
use Rattle.command_words.specs.WordsTaken.{only_file_in, value_in}
use Rattle.massif_file.specs.declared.profile.TimeUnit.{TimeUnit}
use Rattle.massif_file.specs.declared.profile.TimeUnit.TheVariants.{Milliseconds, Bytes, Events}
use Rattle.massif_sample.specs.declared.options.MassifOptions.{MassifOptions}
use Rattle.massif_sample.specs.MassifSettings.{MassifSettings, settings_of}
use Rattle.massif_sample.specs.NameList.{names_in}
use Rattle.massif_sample.specs.SettingsIn.{settings_in}
use Rattle.trace_profiles.specs.MassifReport.{massif_plan}
use Rattle.commands.specs.declared.massif_command.MassifRequest.{MassifRequest}
use Rattle.commands.specs.Command.{CommandOf, by_setting, over_file, with_file}
use Rattle.commands.specs.NameWords.{meaning_or}
use Rattle.commands.specs.NumberWords.{number_or, percent_or}

-- what sizes are rounded up to a multiple of: a power of two
abbrev pub alignment_within : ℕ → Option ℕ
alignment_within alignment = if is_power_of_two alignment then Some alignment else None

abbrev pub alignment_or : Option (List ℕ) → Option ℕ
alignment_or value = option_and_then alignment_within (number_or 16 1 4096 value)

-- what times count, by its name; instructions aren't known of a trace
abbrev pub units : List (List ℕ × TimeUnit)
units = (codes "B", Bytes) ∷ (codes "ms", Milliseconds) ∷ (codes "e", Events) ∷ []

-- bytes where no unit is given
abbrev pub unit_or : Option (List ℕ) → Option TimeUnit
unit_or value = meaning_or Bytes units value

-- how snapshots are taken, by the values of the options that are given
abbrev pub options_given : List Row → Option MassifOptions
options_given rows =
    by_setting (percent_or (value_in rows (codes "threshold"))) (λ threshold.
    by_setting (percent_or (value_in rows (codes "peak-inaccuracy"))) (λ inaccuracy.
    by_setting (number_or 10 1 1000000 (value_in rows (codes "detailed-freq"))) (λ detailed_freq.
    by_setting (number_or 100 10 1000 (value_in rows (codes "max-snapshots"))) (λ max_snapshots.
    by_setting (number_or 30 1 200 (value_in rows (codes "depth"))) (λ depth.
    by_setting (number_or 8 0 1024 (value_in rows (codes "heap-admin"))) (λ admin.
    by_setting (alignment_or (value_in rows (codes "alignment"))) (λ alignment.
    by_setting (unit_or (value_in rows (codes "time-unit"))) (λ unit.
    Some (record {
      threshold = threshold;
      inaccuracy = inaccuracy;
      detailed_freq = detailed_freq;
      max_snapshots = max_snapshots;
      depth = depth;
      admin = admin;
      alignment = alignment;
      unit = unit;
    })))))))))

-- the names that an option gives: none where it isn't given
abbrev pub names_or : Option (List ℕ) → List (List ℕ)
names_or list = names_in (unwrap_or list [])

-- one trace, with what is settled of its profile, which is written once all lines were read
abbrev pub massif_task : List ℕ → MassifSettings → Task
massif_task trace settings = over_file (massif_plan settings) trace

-- what is done for the rows of taken words
unfoldable pub massif_given : List Row → Option Task
massif_given rows =
    by_setting (only_file_in rows) (λ trace.
    by_setting (options_given rows) (λ options.
    Some (massif_task trace
    (settings_of options (names_or (value_in rows (codes "alloc-fns")))
    (names_or (value_in rows (codes "ignore-fns")))))))

unfoldable pub massif_table : Table
massif_table = with_file
    (codes "threshold" ∷ codes "peak-inaccuracy" ∷ codes "detailed-freq"
    ∷ codes "max-snapshots" ∷ codes "depth"
    ∷ codes "heap-admin" ∷ codes "alignment" ∷ codes "time-unit" ∷ codes "alloc-fns"
    ∷ codes "ignore-fns" ∷ [])

abbrev pub massif : CommandOf MassifRequest
massif = record {
  table = massif_table;
  given = λ words rows. massif_given rows;
  task = λ request. massif_task request.trace.now (settings_in request.settings);
}

-- nothing is written while it reads
pub massif_is_silent : (trace : List ℕ) (settings : MassifSettings) → IsSilent (massif_task trace settings).plan
massif_is_silent trace settings = (λ earlier line. refl, λ lines. tt)
