-- The file version of a trace is that of its first version line, and the lines are read in it; of
-- either form of trace, and of an interpreted one.
use Rattle.std.specs.Prelude.{ℕ, List, Option, Some, None, option_and_then, slice_get, unwrap_or}
use Rattle.std.specs.Result.{result_ok}
use Rattle.std.specs.List.{filter_map}
use Rattle.ht_lines.specs.Content.{Content, version_line}
use Rattle.ht_lines.specs.declared.item.Form.{Form}
use Rattle.ht_lines.specs.Reading.{reading}

-- the file version that a version line gives
abbrev pub version_in : Content → Option ℕ
version_in (version_line heaptrack file) = Some file
version_in _ = None

-- the file versions that the lines give; a version line reads alike in each file version
abbrev pub versions : Form → List (List ℕ) → List ℕ
versions form lines = filter_map
    (λ line. option_and_then version_in (result_ok (reading form 1 line))) lines

-- the file version of a trace, which its first version line gives
abbrev pub version_of : Form → List (List ℕ) → Option ℕ
version_of form lines = slice_get (versions form lines) 0

-- the file version in which the lines are read: before the version line stand comments alone, which read alike in each
abbrev pub file_version : Form → List (List ℕ) → ℕ
file_version form lines = unwrap_or (version_of form lines) 1

-- what each line says
abbrev pub contents : Form → List (List ℕ) → List Content
contents form lines = filter_map (λ line. result_ok (reading form (file_version form lines) line))
    lines
