-- The folder that files in memory make, and what an open of a name answers there.
use Rattle.std.specs.Prelude.{◌≡◌, ℕ, ◌<◌, ◌≤◌, List, [], Option}
use Rattle.std.specs.Prelude.{None, Some, map, drop, length, slice_index_or, option_map}
use Rattle.std.specs.FinMap.{from_entries}
use Rattle.hp_outside.specs.Folder.{Folder, file_of}
use Rattle.hp_outside.specs.declared.sure_store.HeldFile.{HeldFile}
use Rattle.hp_outside.specs.declared.sure_store.Place.{Place}

-- names and bytes of files that are held in a row
abbrev pub entries_of : List HeldFile → List (List ℕ × List ℕ)
entries_of files = map (λ file. (file.name.items, file.bytes.items)) files

-- the folder that they make
abbrev pub folder_of : List HeldFile → Folder
folder_of files = from_entries (entries_of files)

-- the bytes of the file with this number
abbrev pub bytes_at : List HeldFile → ℕ → List ℕ
bytes_at files number = slice_index_or (map (λ file. file.bytes.items) files) number []

-- what stands behind a place
abbrev pub left_at : List HeldFile → Option Place → Option (List ℕ)
left_at files place = option_map (λ here. drop here.at (bytes_at files here.file)) place

-- the place stands within a held file
abbrev pub IsWithin : List HeldFile → Place → Type 0
IsWithin files here = (here.file < length files) × (here.at ≤ length (bytes_at files here.file))

-- the file of the name has this number
abbrev pub IsFileNumber : List HeldFile → List ℕ → ℕ → Type 0
IsFileNumber files name number = (number < length files)
    × (file_of (folder_of files) name ≡ Some (bytes_at files number))

-- no file has the name
abbrev pub HasNoFile : List HeldFile → List ℕ → Type 0
HasNoFile files name = file_of (folder_of files) name ≡ None
