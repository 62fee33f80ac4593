-- The lines that the interpretation of a raw trace gives for each of its lines. The lines that a
-- raw line gives: what is new in the tables first, and then the node, the allocation or the free. A
-- free gives one exactly where its pointer stands for a block; lines of modules give none, a
-- version line is written anew, and every other line stays as it is.
use Rattle.std.specs.Prelude.{ℕ, List, [], ◌∷◌, ◌++◌, drop, length, map, Option, Result, Ok, Err}
use Rattle.std.specs.List.{flat_map}
use Rattle.std.specs.Option.{option_to_list}
use Rattle.ht_lines.specs.declared.item.Malformed.{Malformed}
use Rattle.ht_lines.specs.declared.item.Form.TheVariants.{Raw}
use Rattle.ht_lines.specs.Content.{Content, version_line, string_line, clear_line, module_line, node_line, info_line}
use Rattle.ht_lines.specs.Content.{allocation_line, free_line, raw_allocation_line, raw_free_line}
use Rattle.ht_lines.specs.Reading.{reading}
use Rattle.ht_lines.specs.Written.{written}
use Rattle.interpret.specs.declared.infos.AllocationInfo.{AllocationInfo}
use Rattle.interpret.specs.RawBlocks.{freed_by, freed_info}
use Rattle.interpret.specs.RawContents.{contents, file_version}
use Rattle.interpret.specs.RawTables.{RawTables, info_number, ip_number, new_call, tables_of}
use Rattle.interpret.specs.Resolved.{instruction_said}
use Rattle.interpret.specs.SymbolLine.{Symbol}

-- what is at the end of a list that has grown
abbrev pub new_in : {X : Type 0} → List X → List X → List X
new_in before after = drop (length before) after

abbrev pub info_said : AllocationInfo → Content
info_said info = info_line info.size info.trace

-- a free says that of its block's info, where there is one
abbrev pub free_said : Option ℕ → List Content
free_said freed = map free_line (option_to_list freed)

-- what the interpreted lines of a raw line say, with the tables before it and after it and the info
-- of the block that it frees: first what is new in the tables. A line that is passed on as it is
-- gives nothing here
abbrev pub said_for : List Symbol → RawTables → RawTables → Option ℕ → Content → List Content
said_for symbols before after freed (node_line ip parent) =
    map string_line (new_in before.names after.names)
    ++ (map (instruction_said after.names) (option_to_list (new_call symbols before ip))
    ++ node_line (ip_number after.known ip) parent ∷ [])
said_for symbols before after freed (raw_allocation_line size trace ptr) =
    map info_said (new_in before.infos after.infos)
    ++ allocation_line (info_number after.infos (record { size = size; trace = trace })) ∷ []
said_for symbols before after freed (raw_free_line ptr) = free_said freed
said_for symbols before after freed _ = []

-- the lines: a version line is written anew and a module's gives nothing; a node, an allocation and a free give what
-- they say in the file version, and every other line stays as it is
abbrev pub lines_for : List Symbol → ℕ → RawTables → RawTables → Option ℕ → List ℕ → Content
    → List (List ℕ)
lines_for symbols version before after freed line (version_line heaptrack file) = written version
    (version_line heaptrack file) ∷ []
lines_for symbols version before after freed line clear_line = []
lines_for symbols version before after freed line (module_line name start numbers) = []
lines_for symbols version before after freed line (node_line ip parent) =
    map (written version) (said_for symbols before after freed (node_line ip parent))
lines_for symbols version before after freed line (raw_allocation_line size trace ptr) =
    map (written version) (said_for symbols before after freed (raw_allocation_line size trace ptr))
lines_for symbols version before after freed line (raw_free_line ptr) =
    map (written version) (said_for symbols before after freed (raw_free_line ptr))
lines_for symbols version before after freed line _ = line ∷ []

-- lines as text, each with its line feed
abbrev pub text_of : List (List ℕ) → List ℕ
text_of lines = flat_map (λ line. line ++ 10 ∷ []) lines

-- the lines of one that says this after earlier ones, in a file version
abbrev pub lines_after : List Symbol → ℕ → List Content → List ℕ → Content → List (List ℕ)
lines_after symbols version earlier line said =
    lines_for symbols version (tables_of symbols earlier) (tables_of symbols (earlier ++ said ∷ []))
    (freed_info (tables_of symbols earlier).infos (freed_by earlier said)) line said

abbrev pub lines_read : List Symbol → ℕ → List Content → List ℕ → Result Content Malformed
    → List (List ℕ)
lines_read symbols version earlier line (Ok said) = lines_after symbols version earlier line said
lines_read symbols version earlier line (Err fault) = []

-- the lines that a line gives after earlier lines, where it has no fault
unfoldable pub interpreted_lines : List Symbol → List (List ℕ) → List ℕ → List (List ℕ)
interpreted_lines symbols earlier line =
    lines_read symbols (file_version earlier) (contents earlier) line
    (reading Raw (file_version earlier) line)
