use Rattle.std.proofs.Common.{◌≡◌, ◌∙◌, ap, true, map, string_bytes, refl}
use Rattle.clap.specs.Words.{app_of, is_simple, is_simple_and_free, kind_of, rows_of, found_of}
use Rattle.clap.specs.declared.error.ErrorKind.TheVariants.{OutOfMemory}
use Rattle.command_words.specs.declared.taken.WordsFault.TheVariants.{NotTaken}
use Rattle.command_words.specs.TableApp.{table_of}
use Rattle.command_words.proofs.TableLemmas.{every_table, every_table_is_simple, refused_none, taken_rows}
use Rattle.command_words.proofs.taken.take_words.Goals as goal

pub returns-in-Ok-clause-taken : goal.returns-in-Ok-clause-taken
returns-in-Ok-clause-taken c =
    let table = table_of c.args.table.now in
    let words = map string_bytes c.args.words.now in
    let parsed = c.in-Ok.ensures in
    taken_rows table words (app_of c.in_ok-command.command) (rows_of (found_of c.in-Ok.matches)) c.in_ok-command.ensures
    (parsed.kinds (ap is_simple_and_free c.in_ok-command.ensures ∙ every_table table))
    (parsed.matches (ap is_simple c.in_ok-command.ensures ∙ every_table_is_simple table)).0

pub returns-in-Err-clause-refused : goal.returns-in-Err-clause-refused
returns-in-Err-clause-refused c = λ refused.
    let table = table_of c.args.table.now in
    let words = map string_bytes c.args.words.now in
    let not_taken : c.fault_in.result ≡ NotTaken = cc in
    refused_none table words (app_of c.in_ok-command.command) c.in-Err.error c.in_ok-command.ensures
    (c.in-Err.ensures.kinds (ap is_simple_and_free c.in_ok-command.ensures ∙ every_table table))
    (c.fault_in.ensures not_taken)
