-- A text is of one line where it has no line feed, and what a line says has such texts.
use Rattle.std.specs.Prelude.{◌≢◌, ℕ, List, All}
use Rattle.ht_lines.specs.Content.{Content, executable_line, command_line, string_line, module_line, suppression_line}
use Rattle.ht_lines.specs.Content.{comment_line, other_line}

-- the text has no line feed
abbrev pub IsOneLine : List ℕ → Type 0
IsOneLine text = All (λ b. b ≢ 10) text

-- the texts and the name of what a line says have none
abbrev pub HasOneLineTexts : Content → Type 0
HasOneLineTexts (executable_line bytes) = IsOneLine bytes
HasOneLineTexts (command_line bytes) = IsOneLine bytes
HasOneLineTexts (string_line bytes) = IsOneLine bytes
HasOneLineTexts (module_line name start ranges) = IsOneLine name
HasOneLineTexts (suppression_line bytes) = IsOneLine bytes
HasOneLineTexts (comment_line bytes) = IsOneLine bytes
HasOneLineTexts (other_line bytes) = IsOneLine bytes
HasOneLineTexts _ = Unit {0}
