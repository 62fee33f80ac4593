-- A line that says something has at least so many bytes.
use Rattle.std.specs.Prelude.{ℕ}
use Rattle.ht_lines.specs.Content.{Content, version_line, system_line, instruction_line, node_line, info_line}
use Rattle.ht_lines.specs.Content.{allocation_line, free_line, raw_allocation_line, raw_free_line, clock_line}
use Rattle.ht_lines.specs.Content.{resident_line, other_line}

-- the kind, and in a line of numbers alone a blank and a digit for each field that it has in any case
abbrev pub least_length : Content → ℕ
least_length (version_line heaptrack file) = 3
least_length (system_line page pages) = 5
least_length (instruction_line ip module_string frames) = 5
least_length (node_line ip parent) = 5
least_length (info_line size trace) = 5
least_length (allocation_line info) = 3
least_length (free_line info) = 3
least_length (raw_allocation_line size trace ptr) = 7
least_length (raw_free_line ptr) = 3
least_length (clock_line ms) = 3
least_length (resident_line pages) = 3
least_length (other_line bytes) = 0
least_length _ = 1
