use Rattle.std.proofs.Common.{◌≡◌, drop}
use Rattle.hp_outside.specs.Folder.{file_of}
use Rattle.hp_outside.specs.HeldFiles.{folder_of}
use Rattle.hp_outside.proofs.sure_store.file_number.Given as goal

abbrev pub invariant-loop-number : goal.invariant-loop-number
invariant-loop-number l =
    file_of (folder_of l.files.items) l.name ≡ file_of (folder_of (drop l.number l.files.items)) l.name
