-- Which words a table takes, and what they give.
use Rattle.std.specs.Prelude.{◌≡◌, Bool, false, List, [], ◌∷◌, Option, Some, None, IfOk, Result, String, codes, map}
use Rattle.std.specs.Prelude.{option_map, string_bytes}
use Rattle.std.specs.Borrow.{Bor}
use Rattle.std.specs.Str.{bytes_eq}
use Rattle.std.specs.Option.{option_map_or}
use Rattle.clap.specs.Words.{Kinds, Row, Text, all_of, fault_of, first_of, matches_of, rows_of, found_of}
use Rattle.command_words.specs.declared.taken.TakenWords.{TakenWords}
use Rattle.command_words.specs.TableApp.{Table, app_for, files_name}

-- the kinds of error that `clap` gives at the words: none where it takes them
abbrev pub fault_for : Table → List Text → Kinds
fault_for table words = fault_of (app_for table) words

-- what it finds in words that it takes
abbrev pub matches_for : Table → List Text → List Row
matches_for table words = matches_of (app_for table) words

abbrev pub rows_without : Kinds → List Row → Option (List Row)
rows_without [] rows = Some rows
rows_without (kind ∷ kinds) rows = None

-- what the words give, where they are taken
abbrev pub words_taken : Table → List Text → Option (List Row)
words_taken table words = rows_without (fault_for table words) (matches_for table words)

-- what taken words give, as contracts see it
abbrev pub rows_in : TakenWords → List Row
rows_in taken = rows_of (found_of taken.matches)

-- the value of an option, where it was given
abbrev pub value_in : List Row → Text → Option Text
value_in rows option = first_of option rows

-- whether a flag was given
abbrev pub flag_in : List Row → Text → Bool
flag_in rows flag = option_map_or (λ value. bytes_eq value (codes "true")) (first_of flag rows)
    false

-- the names of files, in the order of the words, where there is one
abbrev pub files_in : List Row → Option (List Text)
files_in rows = all_of files_name rows

abbrev pub only_of : Option (List Text) → Option Text
only_of (Some (name ∷ [])) = Some name
only_of _ = None

-- the name of a file, where there is exactly one
abbrev pub only_file_in : List Row → Option Text
only_file_in rows = only_of (files_in rows)

-- the words are taken, and give these rows
abbrev pub GivesRows : {Z E : Type 0} → Table → List (String Z) → Result TakenWords E → Type 0
GivesRows table words result =
    IfOk result (λ taken. words_taken table (map string_bytes words) ≡ Some (rows_in taken))

-- the words aren't taken
abbrev pub AreRefused : {Z : Type 0} → Table → List (String Z) → Type 0
AreRefused table words = words_taken table (map string_bytes words) ≡ None

-- borrowed names by their bytes
abbrev pub names_of : Option (Bor (List (Bor Text))) → Option (List Text)
names_of names = option_map (λ names. map (λ name. name.now) names.now) names
