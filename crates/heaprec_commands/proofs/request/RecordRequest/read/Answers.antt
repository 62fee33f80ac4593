use Rattle.std.proofs.Common.{◌∙◌, Err, ap, arith, string_bytes, sym, unwrap_or}
use Rattle.std.proofs.lemmas.Bool.Decides.{nat_tests}
use Rattle.std.proofs.lemmas.Result.{IfOk-weaker, err_from_is_err_and}
use Rattle.std.specs.Option.{option_and_then}
use Rattle.std.specs.Result.{result_err}
use Rattle.command_words.specs.declared.taken.WordsFault.TheVariants.{NotTaken}
use Rattle.command_words.specs.WordsTaken.{files_in, flag_in, value_in}
use Rattle.heaprec_commands.specs.RecordWords.{record_asked, record_by}
use Rattle.heaprec_commands.proofs.NoWords.{none_asked}
use Rattle.heaprec_commands.proofs.request.RecordRequest.read.Goals as goal

pub returns-clause-taken : goal.returns-clause-taken
unfolding record_asked
returns-clause-taken c =
    IfOk-weaker c.request_in.result _ _
    (λ request is. ap (option_and_then (λ rows. record_by (value_in rows) (flag_in rows) (files_in rows)))
    c.in_ok-words.ensures.taken
    ∙ is)
    c.request_in.ensures.taken

pub returns-clause-refused : goal.returns-clause-refused
unfolding record_asked
returns-clause-refused c =
    λ refused. ap (option_and_then (λ rows. record_by (value_in rows) (flag_in rows) (files_in rows)))
    c.in_ok-words.ensures.taken
    ∙ c.request_in.ensures.refused refused

pub returns-in_err-words-clause-refused : goal.returns-in_err-words-clause-refused
unfolding record_asked
returns-in_err-words-clause-refused c = λ refused.
    let passed = err_from_is_err_and c.from_residual.result c.from_residual.ensures.1 in
    ap (option_and_then (λ rows. record_by (value_in rows) (flag_in rows) (files_in rows)))
    (c.in_err-words.ensures.refused
    (ap Err (sym passed.2 ∙ ap (λ answer. unwrap_or (result_err answer) NotTaken) (sym passed.1 ∙ refused))))

pub returns-then-is_empty-clause-refused : goal.returns-then-is_empty-clause-refused
returns-then-is_empty-clause-refused c =
    λ _. none_asked string_bytes c.args.words.now (grind (arith, nat_tests, c.is_empty.ensures, c.if-is_empty.true))
