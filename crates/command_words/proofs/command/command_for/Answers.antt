use Rattle.std.proofs.Common.{◌≡◌, ℕ, true, false, List, [], ◌∷◌, ◌++◌, ◌∙◌, ap, ap₂, sym, map, take, get_or}
use Rattle.std.proofs.Common.{append_assoc, append-nil, take_all, rules, arith}
use Rattle.std.proofs.lemmas.List.{map_more}
use Rattle.std.proofs.lemmas.Result.{IfOk-weaker}
use Rattle.std.specs.Borrow.{Bor}
use Rattle.clap.specs.Words.{with_rule}
use Rattle.command_words.specs.TableApp.{app_with, files_rule, flag_rule, option_rule}
use Rattle.command_words.proofs.TableLemmas.{rules_of_table}
use Rattle.command_words.proofs.command.command_for.Goals as goal

-- what stands behind the end of a list of names
abbrev nameless : Bor (List ℕ)
nameless = record { ref_ptr = (0, 0); now = [] }

pub loop-option-preserved : goal.loop-option-preserved
loop-option-preserved c =
    c.in_ok-command.ensures.shape c.option_argument.ensures.local
    ∙ (ap₂ with_rule c.loop-option.invariant c.option_argument.ensures.rule
    ∙ ap app_with
    (sym (map_more (λ option. option_rule option.now) c.args.table.now.options.now c.loop-option.option-index _
    c.loop-option-test.true)))

pub loop-flag-init : goal.loop-flag-init
loop-flag-init c =
    c.loop-option.invariant
    ∙ ap app_with
    (ap (map (λ option. option_rule option.now)) (take_all _ _ c.loop-option-test.false) ∙ sym (append-nil _))

pub loop-flag-preserved : goal.loop-flag-preserved
loop-flag-preserved c =
    let options = map (λ option. option_rule option.now) c.args.table.now.options.now in
    let flags =
    map_more (λ flag. flag_rule flag.now) c.args.table.now.flags.now c.loop-flag.flag-index nameless
    c.loop-flag-test.true in
    c.in_ok-command-2.ensures.shape c.flag_argument.ensures.local
    ∙ (ap₂ with_rule c.loop-flag.invariant c.flag_argument.ensures.rule
    ∙ ap app_with
    (append_assoc options (map (λ flag. flag_rule flag.now) (take c.loop-flag.flag-index c.args.table.now.flags.now))
    (flag_rule (get_or c.args.table.now.flags.now c.loop-flag.flag-index nameless).now ∷ [])
    ∙ ap (λ rules. options ++ rules) (sym flags)))

pub returns-then-not-table : goal.returns-then-not-table
returns-then-not-table c =
    let options = map (λ option. option_rule option.now) c.args.table.now.options.now in
    let flags = map (λ flag. flag_rule flag.now) c.args.table.now.flags.now in
    let added =
    c.loop-flag.invariant
    ∙ ap (λ names. app_with (options ++ map (λ flag. flag_rule flag.now) names))
    (take_all _ _ c.loop-flag-test.false) in
    added
    ∙ (ap (λ rules. app_with (options ++ rules)) (sym (append-nil flags))
    ∙ rules_of_table c.args.table.now false (search rules))

pub returns : goal.returns
returns c =
    let options = map (λ option. option_rule option.now) c.args.table.now.options.now in
    let flags = map (λ flag. flag_rule flag.now) c.args.table.now.flags.now in
    let added =
    c.loop-flag.invariant
    ∙ ap (λ names. app_with (options ++ map (λ flag. flag_rule flag.now) names))
    (take_all _ _ c.loop-flag-test.false) in
    IfOk-weaker c.arg-2.result _ _ (λ command adds.
    adds.shape c.files_argument.ensures.local ∙ (ap₂ with_rule added c.files_argument.ensures.rule
    ∙ (ap app_with (append_assoc options flags (files_rule ∷ []))
    ∙ rules_of_table c.args.table.now true (search rules))))
    c.arg-2.ensures
