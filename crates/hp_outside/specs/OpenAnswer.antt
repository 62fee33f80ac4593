-- What an open of a name answers where files are held in memory.
use Rattle.std.specs.Prelude.{◌≡◌, ◌↔◌, ℕ, List, Bool, true, false, Option, None, Some, Result, Ok, Err, OnOk}
use Rattle.hp_outside.specs.declared.store.OpenFault.{OpenFault}
use Rattle.hp_outside.specs.declared.store.OpenFault.TheVariants.{Absent, Failed}
use Rattle.hp_outside.specs.Folder.{Folder, file_of}

-- what a store in memory answers to an open of a name that has this file or none, by a call that is to fail or not
abbrev pub open_answer : Option (List ℕ) → Bool → Result (Unit {0}) OpenFault
open_answer None fails = Err Absent
open_answer (Some file) true = Err Failed
open_answer (Some file) false = Ok tt

-- where the file of the name is opened, all of it is left
abbrev pub IsLeftOf : Folder → List ℕ → Option (List ℕ) → Result (Unit {0}) OpenFault → Type 0
IsLeftOf folder name left result = OnOk result (left ≡ file_of folder name)

-- the name is said to be absent exactly where the folder doesn't have it
abbrev pub TellsAbsent : Folder → List ℕ → Result (Unit {0}) OpenFault → Type 0
TellsAbsent folder name result = (result ≡ Err Absent) ↔ (file_of folder name ≡ None)
