-- Every table stands for a simple command whose arguments have no rule on one another.
use Rattle.std.proofs.Common.{◌≡◌, ℕ, ◌+◌, Bool, true, false, not, ◌&&◌, ◌||◌, List, [], ◌∷◌, ◌++◌, map, refl, ap, ap₂}
use Rattle.std.proofs.Common.{◌∙◌, count_by, cond, is_some, if◌then◌else◌, sym, inl, inr, Some, None, arith}
use Rattle.std.proofs.lemmas.Simd.{map-map}
use Rattle.std.proofs.lemmas.List.Sums.{sum_by-cons}
use Rattle.std.specs.List.{list_all, list_any}
use Rattle.clap.specs.Words.{App, HasKind, IsAmong, Kinds, Row, Rule, Text, fault_of, is_simple, is_simple_and_free}
use Rattle.clap.specs.Words.{kind_of, matches_of}
use Rattle.clap.specs.Simple.{built, filled, filled_from, is_in_order}
use Rattle.clap.specs.Faults.{is_free_app}
use Rattle.clap.specs.Walk.{is_early_multiple}
use Rattle.clap.specs.declared.error.Error.{Error}
use Rattle.clap.specs.declared.error.ErrorKind.{ErrorKind}
use Rattle.clap.specs.declared.error.ErrorKind.TheVariants.{OutOfMemory}
use Rattle.command_words.specs.WordsTaken.{fault_for, matches_for, rows_without, words_taken}
use Rattle.command_words.specs.declared.table.WordTable.{WordTable}
use Rattle.command_words.specs.TableApp.{Table, app_for, app_with, files_rule, flag_rule, option_rule, rules_for}
use Rattle.command_words.specs.TableApp.{table_of}

-- rules that are named alike: what holds of each of them needs to be looked at of the rest alone
all_pass : (p : Rule → Bool) (rule : Text → Rule) → ((name : Text) → p (rule name) ≡ true)
    → (names : List Text) (rest : List Rule)
    → list_all p (map rule names ++ rest) ≡ list_all p rest
all_pass p rule each [] rest = refl
all_pass p rule each (name ∷ names) rest = rw (each name) (all_pass p rule each names rest)

none_passes : (p : Rule → Bool) (rule : Text → Rule) → ((name : Text) → p (rule name) ≡ false)
    → (names : List Text) (rest : List Rule)
    → list_any p (map rule names ++ rest) ≡ list_any p rest
none_passes p rule each [] rest = refl
none_passes p rule each (name ∷ names) rest = rw (each name) (none_passes p rule each names rest)

none_counts : (p : Rule → Bool) (rule : Text → Rule) → ((name : Text) → p (rule name) ≡ false)
    → (names : List Text) (rest : List Rule)
    → count_by p (map rule names ++ rest) ≡ count_by p rest
none_counts p rule each [] rest = refl
none_counts p rule each (name ∷ names) rest =
    sum_by-cons (λ x. cond (p x) 1 0) (rule name) (map rule names ++ rest)
    ∙ (ap (λ b. cond b 1 0 + count_by p (map rule names ++ rest)) (each name)
    ∙ (let rest_is = none_counts p rule each names rest in omega (arith, rest_is)))

-- options and flags get no place of their own
options_filled : (names : List Text) (rest : List Rule)
    → filled_from 1 (map option_rule names ++ rest)
    ≡ map (λ name. filled (option_rule name)) names ++ filled_from 1 rest
options_filled [] rest = refl
options_filled (name ∷ names) rest = ap (λ rules. filled (option_rule name) ∷ rules) (options_filled names rest)

flags_filled : (names : List Text) (rest : List Rule)
    → filled_from 1 (map flag_rule names ++ rest) ≡ map (λ name. filled (flag_rule name)) names ++ filled_from 1 rest
flags_filled [] rest = refl
flags_filled (name ∷ names) rest = ap (λ rules. filled (flag_rule name) ∷ rules) (flags_filled names rest)

abbrev pub files_part : Bool → List Rule
files_part files = if files then files_rule ∷ [] else []

abbrev filled_rules : Table → List Rule
filled_rules table =
    map (λ name. filled (option_rule name)) table.options
    ++ (map (λ name. filled (flag_rule name)) table.flags ++ filled_from 1 (files_part table.files))

rules_filled : (table : Table) → filled_from 1 (rules_for table) ≡ filled_rules table
rules_filled table =
    options_filled table.options (map flag_rule table.flags ++ files_part table.files)
    ∙ ap (λ rules. map (λ name. filled (option_rule name)) table.options ++ rules)
    (flags_filled table.flags (files_part table.files))

-- what holds of each rule of a table
all_rules : (p : Rule → Bool) → ((name : Text) → p (option_rule name) ≡ true)
    → ((name : Text) → p (flag_rule name) ≡ true) → (p files_rule ≡ true)
    → (table : Table) → list_all p (rules_for table) ≡ true
all_rules p option flag files table =
    all_pass p option_rule option table.options (map flag_rule table.flags ++ files_part table.files)
    ∙ (all_pass p flag_rule flag table.flags (files_part table.files) ∙ last table.files)
  where
    last : (has : Bool) → list_all p (files_part has) ≡ true
    last true = rw files refl
    last false = refl

abbrev has_place : Rule → Bool
has_place rule = is_some rule.index

-- with what they left out, the files alone have a place, and no place stands before that of several words
in_order : (table : Table) → is_in_order (filled_from 1 (rules_for table)) ≡ true
in_order table = ap is_in_order (rules_filled table) ∙ ap not (none ∙ last table.files count count_is)
  where
    files : List Rule
    files = filled_from 1 (files_part table.files)

    count : ℕ
    count = count_by has_place (filled_rules table)

    count_is : count_by has_place (filled_rules table) ≡ count_by has_place (filled_from 1 (files_part table.files))
    count_is =
        none_counts has_place (λ name. filled (option_rule name)) (λ name. refl) table.options
        (map (λ name. filled (flag_rule name)) table.flags ++ filled_from 1 (files_part table.files))
        ∙ none_counts has_place (λ name. filled (flag_rule name)) (λ name. refl) table.flags
        (filled_from 1 (files_part table.files))

    none : list_any (is_early_multiple (count_by has_place (filled_rules table))) (filled_rules table)
        ≡ list_any (is_early_multiple (count_by has_place (filled_rules table)))
        (filled_from 1 (files_part table.files))
    none =
        none_passes (is_early_multiple (count_by has_place (filled_rules table))) (λ name. filled (option_rule name))
        (λ name. refl) table.options
        (map (λ name. filled (flag_rule name)) table.flags ++ filled_from 1 (files_part table.files))
        ∙ none_passes (is_early_multiple (count_by has_place (filled_rules table))) (λ name. filled (flag_rule name))
        (λ name. refl) table.flags (filled_from 1 (files_part table.files))

    last : (has : Bool) (n : ℕ) → n ≡ count_by has_place (filled_from 1 (files_part has))
        → list_any (is_early_multiple n) (filled_from 1 (files_part has)) ≡ false
    last true n is = rw is refl
    last false n is = refl

-- each of the rules is simple and free, with and without what it left out
filled_pass : (p : Rule → Bool) → ((name : Text) → p (filled (option_rule name)) ≡ true)
    → ((name : Text) → p (filled (flag_rule name)) ≡ true)
    → ((has : Bool) → list_all p (filled_from 1 (files_part has)) ≡ true) → (table : Table)
    → list_all p (filled_from 1 (rules_for table)) ≡ true
filled_pass p option flag files table =
    ap (list_all p) (rules_filled table)
    ∙ (all_pass p (λ name. filled (option_rule name)) option table.options
    (map (λ name. filled (flag_rule name)) table.flags ++ filled_from 1 (files_part table.files))
    ∙ (all_pass p (λ name. filled (flag_rule name)) flag table.flags (filled_from 1 (files_part table.files))
    ∙ files table.files))

pub every_table : (table : Table) → is_simple_and_free (app_for table) ≡ true
every_table table =
    let simple : list_all (λ (rule : Rule). rule.is_simple) (rules_for table) ≡ true =
    all_rules (λ rule. rule.is_simple) (λ name. refl) (λ name. refl) refl table in
    let filled_simple : list_all (λ (rule : Rule). rule.is_simple) (filled_from 1 (rules_for table)) ≡ true =
    filled_pass (λ rule. rule.is_simple) (λ name. refl) (λ name. refl) (elim [ true ↦ refl | false ↦ refl ]) table in
    let filled_free : list_all (λ (rule : Rule). rule.is_free) (filled_from 1 (rules_for table)) ≡ true =
    filled_pass (λ rule. rule.is_free) (λ name. refl) (λ name. refl) (elim [ true ↦ refl | false ↦ refl ]) table in
    let order = in_order table in
    rw (simple, filled_simple, order, filled_free) refl

-- both of two tests are true
both_left : (first second : Bool) → (first && second) ≡ true → first ≡ true
both_left true second is = refl
both_left false second is = is

pub every_table_is_simple : (table : Table) → is_simple (app_for table) ≡ true
every_table_is_simple table =
    both_left (is_simple (app_for table)) (is_free_app (built (app_for table))) (every_table table)

-- words without a fault are taken, and with one they aren't
pub taken_rows : (table : Table) (words : List Text) (app : App) (rows : List Row) → app ≡ app_for table
    → fault_of app words ≡ [] → rows ≡ matches_of app words
    → words_taken table words ≡ Some rows
taken_rows table words app rows app_is none rows_are =
    let quiet : fault_for table words ≡ [] = ap (λ a. fault_of a words) (sym app_is) ∙ none in
    ap (λ kinds. rows_without kinds (matches_for table words)) quiet
    ∙ (ap Some (sym (rows_are ∙ ap (λ a. matches_of a words) app_is)))

no_rows : (kind : ErrorKind) (kinds : Kinds) (rows : List Row) → IsAmong kind kinds → rows_without kinds rows ≡ None
no_rows kind [] rows among = absurd among
no_rows kind (first ∷ kinds) rows among = refl

pub refused_none : (table : Table) (words : List Text) (app : App) (error : Error) → app ≡ app_for table
    → HasKind (fault_of app words) error → (kind_of error ≡ OutOfMemory → ⊥)
    → words_taken table words ≡ None
refused_none table words app error app_is (inl memory) other = absurd (other memory)
refused_none table words app error app_is (inr among) other =
    ap (λ a. rows_without (fault_of a words) (matches_for table words)) (sym app_is)
    ∙ no_rows (kind_of error) (fault_of app words) (matches_for table words) among

-- the rules that are added one by one are those of the table
pub rules_of_table : (table : WordTable) (files : Bool) → table.files ≡ files
    → app_with
    (map (λ option. option_rule option.now) table.options.now
    ++ (map (λ flag. flag_rule flag.now) table.flags.now ++ files_part files))
    ≡ app_for (table_of table)
rules_of_table table files is =
    ap app_with
    (ap₂ (λ options flags. options ++ (flags ++ files_part files))
    (sym (map-map option_rule (λ option. option.now) table.options.now))
    (sym (map-map flag_rule (λ flag. flag.now) table.flags.now))
    ∙ ap (λ has. rules_for (record (table_of table) { files = has })) (sym is))
