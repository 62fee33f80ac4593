-- `print`: the report on one trace. Its words name the trace and no suppressions file or one, not
-- both standard input, and for each switch `1` or `0` and for each limit a number up to 1,000,000, or
-- leave it as it is.
use Rattle.std.specs.Prelude.{ℕ, List, [], ◌∷◌, ◌&&◌, Bool, true, false, codes, Option, Some, None, if◌then◌else◌, refl}
use Rattle.std.specs.Option.{option_map}
use Rattle.std.specs.Str.{bytes_eq}
use Rattle.clap.specs.Words.{Row}
use Rattle.command_frame.specs.Silent.{IsSilent}
use Rattle.command_frame.specs.Task.{Task}
use Rattle.command_words.specs.WordsTaken.{only_file_in, value_in}
use Rattle.ht_print.specs.declared.options.PrintOptions.{PrintOptions}
use Rattle.trace_reading.specs.SuppressionsReport.{names_behind, plan_behind}
use Rattle.trace_reports.specs.PrintReport.{report_written}
use Rattle.commands.specs.declared.print_command.PrintRequest.{PrintRequest}
use Rattle.commands.specs.Command.{CommandOf, by_setting, with_file}
use Rattle.commands.specs.NameWords.{meaning_or}
use Rattle.commands.specs.NumberWords.{number_or}

-- what the value of a switch says
abbrev pub switches : List (List ℕ × Bool)
switches = (codes "1", true) ∷ (codes "0", false) ∷ []

-- whether something is switched on; a switch that isn't given has a setting too
abbrev pub switch_or : Bool → Option (List ℕ) → Option Bool
switch_or absent value = meaning_or absent switches value

-- how many entries may be shown
abbrev pub most_entries : ℕ
most_entries = 1000000

-- how many entries are shown; there are so many where no number is given
abbrev pub limit_or : ℕ → Option (List ℕ) → Option ℕ
limit_or absent value = number_or absent 0 most_entries value

-- what is shown, by the values of the options that are given
abbrev pub options_given : List Row → Option PrintOptions
options_given rows =
    by_setting (switch_or true (value_in rows (codes "print-allocators"))) (λ allocators.
    by_setting (switch_or true (value_in rows (codes "print-peaks"))) (λ peaks.
    by_setting (switch_or true (value_in rows (codes "print-leaks"))) (λ leaks.
    by_setting (switch_or true (value_in rows (codes "print-temporary"))) (λ temporary.
    by_setting (switch_or true (value_in rows (codes "merge-backtraces"))) (λ merge.
    by_setting (switch_or false (value_in rows (codes "histogram"))) (λ histogram.
    by_setting (limit_or 10 (value_in rows (codes "peak-limit"))) (λ limit.
    by_setting (limit_or 5 (value_in rows (codes "sub-peak-limit"))) (λ sub_limit.
    Some (record {
      allocators = allocators;
      peaks = peaks;
      leaks = leaks;
      temporary = temporary;
      merge = merge;
      histogram = histogram;
      limit = limit;
      sub_limit = sub_limit;
    })))))))))

-- both files are standard input, which can be read only once
abbrev pub reads_input_twice : Option (List ℕ) → List ℕ → Bool
reads_input_twice None trace = false
reads_input_twice (Some suppressions) trace = bytes_eq suppressions (codes "-")
    && bytes_eq trace (codes "-")

-- one trace behind suppressions or none, with what is shown; the report is written once all lines were read
abbrev pub print_task : Option (List ℕ) → List ℕ → PrintOptions → Task
print_task suppressions trace options = record {
  names = names_behind suppressions trace;
  plan = plan_behind suppressions trace (report_written options);
}

-- what is done for two files, the first of which may be absent
abbrev pub print_of : Option (List ℕ) → List ℕ → PrintOptions → Option Task
print_of suppressions trace options =
    if reads_input_twice suppressions trace then None else Some (print_task suppressions trace options)

-- what is done for the rows of taken words
abbrev pub print_given : List Row → Option Task
print_given rows =
    by_setting (only_file_in rows) (λ trace.
    by_setting (options_given rows) (λ options.
    print_of (value_in rows (codes "suppressions")) trace options))

abbrev pub print : CommandOf PrintRequest
print = record {
  table = with_file
      (codes "print-allocators" ∷ codes "print-peaks" ∷ codes "print-leaks"
      ∷ codes "print-temporary" ∷ codes "merge-backtraces"
      ∷ codes "histogram" ∷ codes "peak-limit" ∷ codes "sub-peak-limit" ∷ codes "suppressions"
      ∷ []);
  given = λ words rows. print_given rows;
  task = λ request.
      print_task (option_map (λ name. name.now) request.suppressions) request.trace.now request.options;
}

-- nothing is written while a trace is read behind suppressions or none
behind_is_silent : (suppressions : Option (List ℕ)) (trace : List ℕ)
    (text : List (List ℕ) → List (List ℕ) → List ℕ)
    → IsSilent (plan_behind suppressions trace text)
behind_is_silent None trace text = (λ earlier line. refl, λ lines. tt)
behind_is_silent (Some name) trace text
    = (λ earlier line. refl, λ texts. (λ earlier line. refl, λ lines. tt))

pub print_is_silent : (suppressions : Option (List ℕ)) (trace : List ℕ) (options : PrintOptions)
    → IsSilent (print_task suppressions trace options).plan
print_is_silent suppressions trace options = behind_is_silent suppressions trace (report_written options)
