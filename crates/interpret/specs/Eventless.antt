-- Lines of a raw trace that bring no event. A line of a raw trace brings no event where it neither
-- allocates nor frees, nor tells a time.
use Rattle.ht_lines.specs.Content.{Content, version_line, executable_line, command_line, system_line, clear_line}
use Rattle.ht_lines.specs.Content.{module_line, node_line, resident_line, attached_line, suppression_line, comment_line}
use Rattle.ht_lines.specs.Content.{other_line}

-- the line neither allocates nor frees, nor does it tell a time
abbrev pub IsEventless : Content → Type 0
IsEventless (version_line heaptrack file) = Unit {0}
IsEventless (executable_line bytes) = Unit {0}
IsEventless (command_line bytes) = Unit {0}
IsEventless (system_line page pages) = Unit {0}
IsEventless clear_line = Unit {0}
IsEventless (module_line name start ranges) = Unit {0}
IsEventless (node_line ip parent) = Unit {0}
IsEventless (resident_line pages) = Unit {0}
IsEventless attached_line = Unit {0}
IsEventless (suppression_line bytes) = Unit {0}
IsEventless (comment_line bytes) = Unit {0}
IsEventless (other_line bytes) = Unit {0}
IsEventless _ = ⊥
