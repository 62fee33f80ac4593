-- What the lines of a raw trace say, each read in the file version that the first version line
-- gives.
use Rattle.std.specs.Prelude.{ℕ, List, Option}
use Rattle.ht_lines.specs.Content.{Content, string_line, instruction_line, info_line, allocation_line, free_line}
use Rattle.ht_lines.specs.declared.item.Form.TheVariants.{Raw}
use Rattle.ht_trace.specs.FormContents as form

-- the file version of a trace, which its first version line gives
abbrev pub version_of : List (List ℕ) → Option ℕ
version_of lines = form.version_of Raw lines

-- the file version in which the lines are read
abbrev pub file_version : List (List ℕ) → ℕ
file_version lines = form.file_version Raw lines

-- what each line says
abbrev pub contents : List (List ℕ) → List Content
contents lines = form.contents Raw lines

-- no line of a raw trace says a string, an instruction, an info, or an allocation or a free of one
abbrev pub IsRaw : Content → Type 0
IsRaw (string_line bytes) = ⊥
IsRaw (instruction_line ip module_string frames) = ⊥
IsRaw (info_line size trace) = ⊥
IsRaw (allocation_line info) = ⊥
IsRaw (free_line info) = ⊥
IsRaw _ = Unit {0}
