-- What stands at an address, as the parts of a symbol's texts, for private clauses.
use Rattle.std.specs.Prelude.{ℕ, List, Option}
use Rattle.std.specs.Borrow.{Bor}
use Rattle.std.specs.List.{flat_map}
use Rattle.std.specs.Option.{option_copied, option_map, option_to_list}
use Rattle.ht_lines.specs.Content.{Content}
use Rattle.interpret.specs.declared.resolved.ResolvedIp.{ResolvedIp}
use Rattle.interpret.specs.declared.symbol_frame.SourcePlace.{SourcePlace}
use Rattle.interpret.specs.declared.symbol_frame.SymbolFrame.{SymbolFrame}
use Rattle.interpret.specs.Resolved.{Resolved, SourceFrame, frame_names, frame_numbers, frames_of, instruction_said}
use Rattle.interpret.specs.Resolved.{names_called}
use Rattle.interpret.specs.SymbolEntries.{following}

abbrev pub place_kept : SourcePlace → List ℕ × ℕ
place_kept place = (place.file.now, place.line)

abbrev pub frame_kept : SymbolFrame → SourceFrame
frame_kept frame = record {
  function = frame.function.now;
  place = option_map place_kept frame.place;
}

-- the frames that texts say, where there are any
abbrev pub frames_in : Option (Bor (List ℕ)) → List SourceFrame
frames_in texts = frames_of (following (option_copied texts))

abbrev pub resolved_kept : ResolvedIp → Resolved
resolved_kept found = record {
  ip = found.ip;
  module_name = option_copied found.module_name;
  frames = frames_in found.texts;
}

-- the names that an instruction calls for, its module, the texts of its symbol, and one frame of these
abbrev pub names_of_call : ResolvedIp → List (List ℕ)
names_of_call found = names_called (resolved_kept found)

abbrev pub module_names : Option (Bor (List ℕ)) → List (List ℕ)
module_names name = option_to_list (option_copied name)

abbrev pub names_in : Option (Bor (List ℕ)) → List (List ℕ)
names_in texts = flat_map frame_names (frames_in texts)

abbrev pub names_of_frame : SymbolFrame → List (List ℕ)
names_of_frame frame = frame_names (frame_kept frame)

-- the numbers of the last two, and what the line of an instruction says
abbrev pub numbers_in : List (List ℕ) → Option (Bor (List ℕ)) → List ℕ
numbers_in names texts = flat_map (frame_numbers names) (frames_in texts)

abbrev pub numbers_of_frame : List (List ℕ) → SymbolFrame → List ℕ
numbers_of_frame names frame = frame_numbers names (frame_kept frame)

abbrev pub instruction_of : List (List ℕ) → ResolvedIp → Content
instruction_of names found = instruction_said names (resolved_kept found)
