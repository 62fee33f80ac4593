-- What stands at an address is its module's name and the frames of the symbol that holds the
-- address less the module's start. An instruction calls for the name of its module, then for the
-- function and the file of each frame; its line has their numbers, and 0 for none.
use Rattle.std.specs.Prelude.{ℕ, ◌-◌, List, [], ◌∷◌, ◌++◌, if◌then◌else◌, length, max, nat_le, Option, Some, None}
use Rattle.std.specs.Prelude.{unwrap_or}
use Rattle.std.specs.List.{flat_map}
use Rattle.std.specs.Option.{option_to_list}
use Rattle.hp_num.specs.ParsedDec.{parsed_dec}
use Rattle.ht_lines.specs.Content.{Content, instruction_line}
use Rattle.intern_tables.specs.Numbers.{number_of}
use Rattle.interpret.specs.Modules.{LoadedModule, module_of}
use Rattle.interpret.specs.SymbolLine.{Symbol}
use Rattle.interpret.specs.SymbolList.{texts_at}

-- a function, and where it is known a file and the line in it
pub record SourceFrame : Type 0 where
  pub function : List ℕ
  pub place : Option (List ℕ × ℕ)

-- an instruction pointer, the name of its module, and the frames of its symbol from the innermost on
pub record Resolved : Type 0 where
  pub ip : ℕ
  pub module_name : Option (List ℕ)
  pub frames : List SourceFrame

-- the frames that the texts of a symbol say
abbrev pub frames_of : List (List ℕ) → List SourceFrame
frames_of [] = []
frames_of (function ∷ []) = record { function = function; place = None } ∷ []
frames_of (function ∷ file ∷ []) = record { function = function; place = None } ∷ []
frames_of (function ∷ file ∷ line ∷ more) =
    record { function = function; place = Some (file, unwrap_or (parsed_dec line) 0) }
    ∷ frames_of more

-- the texts of the symbol at an address of a module
abbrev pub texts_in : List Symbol → LoadedModule → ℕ → List (List ℕ)
texts_in symbols loaded ip =
    if nat_le loaded.start ip
    then unwrap_or (texts_at symbols loaded.name (ip - loaded.start)) []
    else []

abbrev pub resolved_in : List Symbol → Option LoadedModule → ℕ → Resolved
resolved_in symbols None ip = record { ip = ip; module_name = None; frames = [] }
resolved_in symbols (Some loaded) ip =
    record {
      ip = ip;
      module_name = Some loaded.name;
      frames = frames_of (texts_in symbols loaded ip);
    }

-- what stands at an address while these modules are loaded
unfoldable pub resolved : List Symbol → List LoadedModule → ℕ → Resolved
resolved symbols loaded ip = resolved_in symbols (module_of loaded ip) ip

-- the names of a place
abbrev pub place_names : Option (List ℕ × ℕ) → List (List ℕ)
place_names None = []
place_names (Some place) = place.0 ∷ []

-- the names of a frame: its function, then its file
abbrev pub frame_names : SourceFrame → List (List ℕ)
frame_names frame = frame.function ∷ place_names frame.place

-- the names that an instruction calls for: its module, then those of its frames
unfoldable pub names_called : Resolved → List (List ℕ)
names_called found = option_to_list found.module_name ++ flat_map frame_names found.frames

-- the number of a name, and 0 for none
abbrev pub name_number : List (List ℕ) → List ℕ → ℕ
name_number names name = unwrap_or (number_of names name) 0

abbrev pub module_number : List (List ℕ) → Option (List ℕ) → ℕ
module_number names None = 0
module_number names (Some name) = name_number names name

abbrev pub place_numbers : List (List ℕ) → Option (List ℕ × ℕ) → List ℕ
place_numbers names None = []
place_numbers names (Some place) = name_number names place.0 ∷ place.1 ∷ []

abbrev pub frame_numbers : List (List ℕ) → SourceFrame → List ℕ
frame_numbers names frame = name_number names frame.function ∷ place_numbers names frame.place

-- the line of an instruction, whose module, functions and files have these numbers
unfoldable pub instruction_said : List (List ℕ) → Resolved → Content
instruction_said names found =
    instruction_line found.ip (module_number names found.module_name)
    (flat_map (frame_numbers names) found.frames)

-- how many frames the line says: one that names nothing where the symbol is unknown
abbrev pub frame_count : Resolved → ℕ
frame_count found = max 1 (length found.frames)
