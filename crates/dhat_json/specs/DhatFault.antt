-- What each check finds stands in a list in the order of the checks, and the fault of a value is
-- the first that was found.
use Rattle.std.specs.Prelude.{ℕ, suc, ◌-◌, ◌^◌, ◌==◌, nat_lt, List, [], ◌∷◌, ◌++◌, length, map, Bool, true, false}
use Rattle.std.specs.Prelude.{if◌then◌else◌, Option, Some, None, is_some}
use Rattle.serde_json.specs.Data.{Data}
use Rattle.serde_json.specs.Find.{get, as_str, as_bool, as_object}
use Rattle.dhat_json.specs.declared.fault.DhatFault.{DhatFault}
use Rattle.dhat_json.specs.declared.fault.DhatFault.TheVariants.{NotJson, WrongFileVersion, MissingKey, WrongKind}
use Rattle.dhat_json.specs.declared.fault.DhatFault.TheVariants.{FrameOutOfTable, TooMany}
use Rattle.dhat_json.specs.declared.key.Key.{Key}
use Rattle.dhat_json.specs.declared.key.Key.TheVariants.{DhatFileVersion, Mode, Verb, Bklt, Bkacc, Bu, Bsu, Bksu, Tu}
use Rattle.dhat_json.specs.declared.key.Key.TheVariants.{Mtu, Tuth, Cmd, Pid, Te, Tg, Ftbl, Pps, Tb, Tbk, Tl, Mb, Mbk}
use Rattle.dhat_json.specs.declared.key.Key.TheVariants.{Gb, Gbk, Eb, Ebk, Rb, Wb, Acc, Fs}
use Rattle.dhat_json.specs.KeyName.{key_name}
use Rattle.dhat_json.specs.Kinds.{as_whole, as_list}
use Rattle.dhat_json.specs.ProfileIn.{list_at, flag_at}

-- what a check finds: a fault or nothing
abbrev pub Finding : Type 0
Finding = Option DhatFault

abbrev pub first_of : List Finding → Finding
first_of [] = None
first_of (None ∷ later) = first_of later
first_of (Some fault ∷ later) = Some fault

-- ---- keys

-- a value that is of another kind
abbrev pub other_kind : {A : Type 0} → (Data → Option A) → Option ℕ → Key → Data → Finding
other_kind kind point key d = if is_some (kind d) then None else Some (WrongKind point key)

abbrev pub needed_value : {A : Type 0} → (Data → Option A) → Option ℕ → Key → Option Data → Finding
needed_value kind point key None = Some (MissingKey point key)
needed_value kind point key (Some d) = other_kind kind point key d

abbrev pub optional_value : {A : Type 0} → (Data → Option A) → Option ℕ → Key → Option Data
    → Finding
optional_value kind point key None = None
optional_value kind point key (Some d) = other_kind kind point key d

-- a key that must be there, with a value of its kind
abbrev pub needed : {A : Type 0} → (Data → Option A) → Option ℕ → Key → Data → Finding
needed kind point key value = needed_value kind point key (get (key_name key) value)

-- a key that may be there, with a value of its kind
abbrev pub allowed : {A : Type 0} → (Data → Option A) → Option ℕ → Key → Data → Finding
allowed kind point key value = optional_value kind point key (get (key_name key) value)

-- ---- points

abbrev pub frame_value : ℕ → ℕ → Option ℕ → Finding
frame_value point frames None = Some (WrongKind (Some point) Fs)
frame_value point frames (Some frame) = if nat_lt frame frames then None
    else Some (FrameOutOfTable point frame)

-- a frame that is no whole number, or is not in the table
abbrev pub frame_finding : ℕ → ℕ → Data → Finding
frame_finding point frames d = frame_value point frames (as_whole d)

abbrev pub frames_findings : ℕ → ℕ → Data → List Finding
frames_findings point frames d = needed as_list (Some point) Fs d
    ∷ map (frame_finding point frames) (list_at Fs d)

-- two whole numbers that must be there
abbrev pub pair_findings : ℕ → Key → Key → Data → List Finding
pair_findings point first second d = needed as_whole (Some point) first d
    ∷ needed as_whole (Some point) second d
    ∷ []

-- the keys of a part that the profile tells of
abbrev pub life_findings : Bool → ℕ → Data → List Finding
life_findings false point d = []
life_findings true point d = needed as_whole (Some point) Tl d
    ∷ (pair_findings point Mb Mbk d
    ++ (pair_findings point Gb Gbk d ++ pair_findings point Eb Ebk d))

abbrev pub access_findings : Bool → ℕ → Data → List Finding
access_findings false point d = []
access_findings true point d = pair_findings point Rb Wb d
    ++ allowed as_list (Some point) Acc d ∷ []

-- A point that is no object is told as the wrong kind of the points at its number.
abbrev pub point_findings : Bool → Bool → ℕ → ℕ → Data → List Finding
point_findings bklt bkacc frames point d =
    other_kind as_object (Some point) Pps d
    ∷ (pair_findings point Tb Tbk d
    ++ (life_findings bklt point d
    ++ (access_findings bkacc point d
    ++ frames_findings point frames d)))

-- the first fault of each point, the points being numbered from `point` on
abbrev pub points_findings : Bool → Bool → ℕ → ℕ → List Data → List Finding
points_findings bklt bkacc frames point [] = []
points_findings bklt bkacc frames point (d ∷ ds) = first_of
    (point_findings bklt bkacc frames point d) ∷ points_findings bklt bkacc frames (suc point) ds

-- ---- the profile

abbrev pub no_object : Data → Finding
no_object value = if is_some (as_object value) then None else Some NotJson

abbrev pub is_two : Option ℕ → Bool
is_two None = false
is_two (Some n) = n == 2

abbrev pub version_value : Option Data → Finding
version_value None = None
version_value (Some d) = if is_two (as_whole d) then None else Some WrongFileVersion

-- a version that is there, and another than the whole number 2
abbrev pub other_version : Data → Finding
other_version value = version_value (get (key_name DhatFileVersion) value)

abbrev pub version_findings : Data → List Finding
version_findings value = other_version value ∷ needed Some None DhatFileVersion value ∷ []

abbrev pub head_findings : Data → List Finding
head_findings value =
    no_object value
    ∷ (version_findings value
    ++ needed as_str None Mode value
    ∷ needed as_str None Verb value
    ∷ needed as_bool None Bklt value
    ∷ needed as_bool None Bkacc value
    ∷ [])

-- the units of sizes and of blocks, and the unit of time
abbrev pub block_unit_findings : Data → List Finding
block_unit_findings value =
    allowed as_str None Bu value
    ∷ allowed as_str None Bsu value
    ∷ allowed as_str None Bksu value
    ∷ []

abbrev pub time_unit_findings : Data → List Finding
time_unit_findings value =
    needed as_str None Tu value
    ∷ needed as_str None Mtu value
    ∷ allowed as_whole None Tuth value
    ∷ []

abbrev pub unit_findings : Data → List Finding
unit_findings value = block_unit_findings value ++ time_unit_findings value

abbrev pub run_findings : Data → List Finding
run_findings value =
    needed as_str None Cmd value
    ∷ needed as_whole None Pid value
    ∷ needed as_whole None Te value
    ∷ allowed as_whole None Tg value
    ∷ []

abbrev pub table_findings : Data → List Finding
table_findings value = needed as_list None Ftbl value
    ∷ map (other_kind as_str None Ftbl) (list_at Ftbl value)

-- a list of points that is too long to number them
abbrev pub too_many : List Data → Finding
too_many ds = if nat_lt (length ds) (2 ^ 32 - 1) then None else Some TooMany

abbrev pub listed_points_findings : Bool → Bool → ℕ → Data → List Finding
listed_points_findings bklt bkacc frames value =
    needed as_list None Pps value
    ∷ too_many (list_at Pps value)
    ∷ points_findings bklt bkacc frames 0 (list_at Pps value)

abbrev pub all_points_findings : Data → List Finding
all_points_findings value = listed_points_findings (flag_at Bklt value) (flag_at Bkacc value)
    (length (list_at Ftbl value)) value

abbrev pub dhat_findings : Data → List Finding
dhat_findings value = head_findings value
    ++ (unit_findings value
    ++ (run_findings value ++ (table_findings value ++ all_points_findings value)))

-- the first fault of a value, where it has one
unfoldable pub dhat_fault : Data → Option DhatFault
dhat_fault value = first_of (dhat_findings value)
