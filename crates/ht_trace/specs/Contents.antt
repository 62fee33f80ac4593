-- What the lines of an interpreted trace say, each read in the trace's file version.
use Rattle.std.specs.Prelude.{ℕ, List, Option}
use Rattle.ht_lines.specs.Content.{Content}
use Rattle.ht_lines.specs.declared.item.Form.TheVariants.{Interpreted}
use Rattle.ht_trace.specs.FormContents as form

-- the file version of a trace, which its first version line gives
abbrev pub version_of : List (List ℕ) → Option ℕ
version_of lines = form.version_of Interpreted lines

-- the file version in which the lines are read
abbrev pub file_version : List (List ℕ) → ℕ
file_version lines = form.file_version Interpreted lines

-- what each line says
abbrev pub contents : List (List ℕ) → List Content
contents lines = form.contents Interpreted lines
