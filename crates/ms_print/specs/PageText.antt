-- The page of a profile.
use Rattle.std.specs.Prelude.{ℕ, List, ◌++◌, codes}
use Rattle.massif_file.specs.declared.profile.Profile.{Profile}
use Rattle.ms_print.specs.GraphText.{graph_text}
use Rattle.ms_print.specs.Plots.{plot_of}
use Rattle.ms_print.specs.SnapshotsText.{snapshots_text}
use Rattle.ms_print.specs.TableText.{rule_line, table_text}

-- a line of a name and a text
abbrev pub named_line : List ℕ → List ℕ → List ℕ
named_line name text = name ++ (text ++ codes "\n")

-- the command, how the profile was made, and the words that ask for the page
unfoldable pub asked_text : List ℕ → Profile → List ℕ
asked_text words profile =
    named_line (codes "Command:            ") profile.cmd
    ++ (named_line (codes "Massif arguments:   ") profile.desc
    ++ named_line (codes "ms_print arguments: ") words)

-- these between two rules, and two empty lines
unfoldable pub title_text : List ℕ → Profile → List ℕ
title_text words profile = rule_line ++ (asked_text words profile ++ (rule_line ++ codes "\n\n"))

-- the page with this threshold, so many columns and rows, and these words
unfoldable pub page_text : ℕ → ℕ → ℕ → List ℕ → Profile → List ℕ
page_text threshold x y words profile =
    title_text words profile
    ++ (graph_text profile.unit (plot_of x y profile.snaps) profile.snaps
    ++ (snapshots_text profile.snaps ++ table_text threshold profile.unit profile.snaps))
