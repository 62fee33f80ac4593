-- What `ms_print` makes of the profile of a Massif file. `ms_print` writes the page of a profile,
-- with the words behind the command on it, a blank between each two.
use Rattle.std.specs.Prelude.{ℕ, List, [], codes, nat_eq, if◌then◌else◌}
use Rattle.std.specs.List.{join_by}
use Rattle.massif_file.specs.declared.profile.Profile.{Profile}
use Rattle.ms_print.specs.PageText.{page_text}
use Rattle.command_frame.specs.Report.{Verdict, Writes}

-- a blank stands before each word but the first
abbrev pub before_word : ℕ → List ℕ
before_word place = if nat_eq place 0 then [] else codes " "

-- the words as the page shows them
unfoldable pub shown_words : List (List ℕ) → List ℕ
shown_words words = join_by (λ word. word) (codes " ") words

-- the page of the profile
abbrev pub page_verdict : ℕ → ℕ → ℕ → List ℕ → Profile → Verdict
page_verdict threshold x y words profile = Writes (page_text threshold x y words profile)
