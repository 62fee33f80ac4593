-- A line of a modules file is one about modules in file version 2, in which no line feed stands,
-- and gives its written form.
use Rattle.std.specs.Prelude.{ℕ, Bool, true, false, ◌==◌, if◌then◌else◌, List, [], ◌∷◌, ◌++◌, Option, None, Some}
use Rattle.std.specs.Prelude.{Result, Ok, Err}
use Rattle.std.specs.List.{list_any}
use Rattle.ht_lines.specs.declared.item.Malformed.{Malformed}
use Rattle.ht_lines.specs.declared.item.Form.TheVariants.{Raw}
use Rattle.ht_lines.specs.Content.{Content, clear_line, module_line}
use Rattle.ht_lines.specs.Reading.{reading}
use Rattle.ht_lines.specs.Written.{written}

-- a module, or that all modules are cleared
abbrev pub is_module : Content → Bool
is_module (module_line name start ranges) = true
is_module clear_line = true
is_module _ = false

-- the written form of what was read, with its line feed, where that is about modules
abbrev pub module_text : Result Content Malformed → Option (List ℕ)
module_text (Ok said) = if is_module said then Some (written 2 said ++ 10 ∷ []) else None
module_text (Err fault) = None

-- a line feed stands in the text, so that it is no line
abbrev pub has_line_feed : List ℕ → Bool
has_line_feed text = list_any (λ b. b == 10) text

-- the text that a line of a modules file gives to the trace: the line is read in file version 2
abbrev pub module_in : List ℕ → Option (List ℕ)
module_in line = if has_line_feed line then None else module_text (reading Raw 2 line)
