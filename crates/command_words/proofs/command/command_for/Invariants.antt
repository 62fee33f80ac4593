-- The arguments so far are those of the options, and then of the flags, that were passed.
use Rattle.std.proofs.Common.{◌≡◌, ◌++◌, map, take}
use Rattle.clap.specs.Words.{app_of}
use Rattle.command_words.specs.TableApp.{app_with, flag_rule, option_rule}
use Rattle.command_words.proofs.command.command_for.Given as goal

abbrev pub invariant-loop-option : goal.invariant-loop-option
invariant-loop-option l =
    app_of l.command ≡ app_with (map (λ option. option_rule option.now) (take l.option-index l.option-items))

abbrev pub invariant-loop-flag : goal.invariant-loop-flag
invariant-loop-flag l =
    app_of l.command
    ≡ app_with
    (map (λ option. option_rule option.now) l.table.options.now
    ++ map (λ flag. flag_rule flag.now) (take l.flag-index l.flag-items))
