-- A table of words stands for a command of `clap`; words are taken where that finds no error in
-- them, and give what it finds.
use Rattle.std.specs.Prelude.{List, [], ◌∷◌, ◌++◌, Bool, true, Some, map, codes, if◌then◌else◌}
use Rattle.clap.specs.Words.{App, Rule, Text, new_app, new_rule}
use Rattle.clap.specs.declared.builder.ArgAction.TheVariants.{Append, SetTrue}
use Rattle.command_words.specs.declared.table.WordTable.{WordTable}

-- a table by its names alone
pub record Table : Type 0 where
  pub options : List Text
  pub flags : List Text
  pub files : Bool

abbrev pub table_of : WordTable → Table
table_of table = record {
  options = map (λ option. option.now) table.options.now;
  flags = map (λ flag. flag.now) table.flags.now;
  files = table.files;
}

-- the name under which the files stand
abbrev pub files_name : Text
files_name = codes "files"

-- an option with one value, a flag, and the names of files
abbrev pub option_rule : Text → Rule
option_rule name = record (new_rule name) { long = Some name }

abbrev pub flag_rule : Text → Rule
flag_rule name = record (new_rule name) { long = Some name; action = Some SetTrue }

abbrev pub files_rule : Rule
files_rule = record (new_rule files_name) { action = Some Append }

abbrev pub rules_for : Table → List Rule
rules_for table =
    map option_rule table.options
    ++ (map flag_rule table.flags ++ (if table.files then files_rule ∷ [] else []))

-- a command of these rules without a program's name among its words, and without a help of its own
abbrev pub app_with : List Rule → App
app_with rules = record {
  top = record (new_app (codes "command")).top
      { rules = rules; no_binary_name = true; disable_help_flag = true };
  subs = [];
}

abbrev pub app_for : Table → App
app_for table = app_with (rules_for table)
