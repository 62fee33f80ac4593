-- The profile that a JSON value says, where the value has no fault: each field is what stands at
-- its key. Where the value has a fault, what this gives means nothing. A value without a fault says
-- the profile whose fields are what stands at their keys.
use Rattle.std.specs.Prelude.{ℕ, List, [], map, Bool, false, if◌then◌else◌, Option, Some, None, unwrap_or}
use Rattle.std.specs.Option.{option_and_then}
use Rattle.serde_json.specs.Data.{Data}
use Rattle.serde_json.specs.Find.{get, as_str, as_bool}
use Rattle.dhat_json.specs.declared.key.Key.{Key}
use Rattle.dhat_json.specs.declared.key.Key.TheVariants.{Mode, Verb, Bklt, Bkacc, Bu, Bsu, Bksu, Tu, Mtu, Tuth, Cmd}
use Rattle.dhat_json.specs.declared.key.Key.TheVariants.{Pid, Te, Tg, Ftbl, Pps, Tb, Tbk, Tl, Mb, Mbk, Gb, Gbk, Eb, Ebk}
use Rattle.dhat_json.specs.declared.key.Key.TheVariants.{Rb, Wb, Fs}
use Rattle.dhat_json.specs.declared.profile.Life.{Life}
use Rattle.dhat_json.specs.declared.profile.Access.{Access}
use Rattle.dhat_json.specs.declared.profile.Point.{Point}
use Rattle.dhat_json.specs.declared.profile.Dhat.{Dhat}
use Rattle.dhat_json.specs.KeyName.{key_name}
use Rattle.dhat_json.specs.Kinds.{as_whole, as_list}

-- what stands at the key, in one kind of values
abbrev pub found : {A : Type 0} → (Data → Option A) → Key → Data → Option A
found kind key value = option_and_then kind (get (key_name key) value)

abbrev pub text_at : Key → Data → List ℕ
text_at key value = unwrap_or (found as_str key value) []

abbrev pub whole_at : Key → Data → ℕ
whole_at key value = unwrap_or (found as_whole key value) 0

abbrev pub flag_at : Key → Data → Bool
flag_at key value = unwrap_or (found as_bool key value) false

abbrev pub list_at : Key → Data → List Data
list_at key value = unwrap_or (found as_list key value) []

-- the texts of a table, and the frames of a point
abbrev pub text_in : Data → List ℕ
text_in d = unwrap_or (as_str d) []

abbrev pub whole_in : Data → ℕ
whole_in d = unwrap_or (as_whole d) 0

abbrev pub life_in : Data → Life
life_in d = record {
  tl = whole_at Tl d;
  mb = whole_at Mb d;
  mbk = whole_at Mbk d;
  gb = whole_at Gb d;
  gbk = whole_at Gbk d;
  eb = whole_at Eb d;
  ebk = whole_at Ebk d;
}

abbrev pub access_in : Data → Access
access_in d = record { rb = whole_at Rb d; wb = whole_at Wb d }

-- two whole numbers, the frames of a point, and the table
abbrev pub pair_at : Key → Key → Data → ℕ × ℕ
pair_at first second d = (whole_at first d, whole_at second d)

abbrev pub frames_in : Data → List ℕ
frames_in d = map whole_in (list_at Fs d)

abbrev pub table_in : Data → List (List ℕ)
table_in value = map text_in (list_at Ftbl value)

-- a part of a point, where the profile tells of it
abbrev pub part_in : {A : Type 0} → Bool → A → Option A
part_in told part = if told then Some part else None

abbrev pub life_if : Bool → Data → Option Life
life_if told d = part_in told (life_in d)

abbrev pub access_if : Bool → Data → Option Access
access_if told d = part_in told (access_in d)

abbrev pub point_in : Bool → Bool → Data → Point
point_in bklt bkacc d = record {
  tb = whole_at Tb d;
  tbk = whole_at Tbk d;
  life = life_if bklt d;
  access = access_if bkacc d;
  fs = frames_in d;
}

abbrev pub profile_in : Data → Dhat
profile_in value = record {
  mode = text_at Mode value;
  verb = text_at Verb value;
  bklt = flag_at Bklt value;
  bkacc = flag_at Bkacc value;
  bu = found as_str Bu value;
  bsu = found as_str Bsu value;
  bksu = found as_str Bksu value;
  tu = text_at Tu value;
  mtu = text_at Mtu value;
  tuth = found as_whole Tuth value;
  cmd = text_at Cmd value;
  pid = whole_at Pid value;
  te = whole_at Te value;
  tg = found as_whole Tg value;
  pps = map (point_in (flag_at Bklt value) (flag_at Bkacc value)) (list_at Pps value);
  ftbl = table_in value;
}
