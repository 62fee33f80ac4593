-- A value says a profile where each key has what the field says, a part of a point stands where the
-- profile tells of it, and each frame is in the table.
use Rattle.std.specs.Prelude.{◌≡◌, ◌-◌, ◌^◌, ◌<◌, ℕ, List, length, map, All, Bool, true, false, Option, Some, None}
use Rattle.std.specs.Prelude.{IsSome, IfSome, codes}
use Rattle.std.specs.List.{AllZip}
use Rattle.serde_json.specs.Data.{Data, boolean, string, array}
use Rattle.serde_json.specs.Find.{get, as_object, as_array}
use Rattle.serde_json.specs.View.{items_of}
use Rattle.dhat_json.specs.declared.profile.Life.{Life}
use Rattle.dhat_json.specs.declared.profile.Access.{Access}
use Rattle.dhat_json.specs.declared.profile.Point.{Point}
use Rattle.dhat_json.specs.declared.profile.Dhat.{Dhat}
use Rattle.dhat_json.specs.DhatValue.{whole}

-- the value at a key that may be absent
abbrev pub IsOptional : {A : Type 0} → (A → Data) → Option Data → Option A → Type 0
IsOptional spelled at None = at ≡ None
IsOptional spelled at (Some x) = at ≡ Some (spelled x)

pub record SaysLife (d : Data) (life : Life) : Type 0 where
  pub tl : get (codes "tl") d ≡ Some (whole life.tl)
  pub mb : get (codes "mb") d ≡ Some (whole life.mb)
  pub mbk : get (codes "mbk") d ≡ Some (whole life.mbk)
  pub gb : get (codes "gb") d ≡ Some (whole life.gb)
  pub gbk : get (codes "gbk") d ≡ Some (whole life.gbk)
  pub eb : get (codes "eb") d ≡ Some (whole life.eb)
  pub ebk : get (codes "ebk") d ≡ Some (whole life.ebk)

-- `acc` may stand beside the two, and is an array then
pub record SaysAccess (d : Data) (access : Access) : Type 0 where
  pub rb : get (codes "rb") d ≡ Some (whole access.rb)
  pub wb : get (codes "wb") d ≡ Some (whole access.wb)
  pub acc : IfSome (get (codes "acc") d) (λ counts. IsSome (as_array counts))

-- A part stands where the profile tells of it. Where it doesn't, its keys say nothing.
abbrev pub IsPart : {A : Type 0} → (A → Type 0) → Bool → Option A → Type 0
IsPart Says false None = Unit {0}
IsPart Says false (Some part) = ⊥
IsPart Says true None = ⊥
IsPart Says true (Some part) = Says part

pub record is_point (bklt bkacc : Bool) (frames : ℕ) (d : Data) (point : Point) : Type 0 where
  pub object : IsSome (as_object d)
  pub tb : get (codes "tb") d ≡ Some (whole point.tb)
  pub tbk : get (codes "tbk") d ≡ Some (whole point.tbk)
  pub life : IsPart (SaysLife d) bklt point.life
  pub access : IsPart (SaysAccess d) bkacc point.access
  pub fs : get (codes "fs") d ≡ Some (array (items_of (map whole point.fs)))
  pub in_table : All (λ frame. frame < frames) point.fs

pub record is_dhat (value : Data) (dhat : Dhat) : Type 0 where
  pub object : IsSome (as_object value)
  pub version : get (codes "dhatFileVersion") value ≡ Some (whole 2)
  pub mode : get (codes "mode") value ≡ Some (string dhat.mode)
  pub verb : get (codes "verb") value ≡ Some (string dhat.verb)
  pub bklt : get (codes "bklt") value ≡ Some (boolean dhat.bklt)
  pub bkacc : get (codes "bkacc") value ≡ Some (boolean dhat.bkacc)
  pub bu : IsOptional string (get (codes "bu") value) dhat.bu
  pub bsu : IsOptional string (get (codes "bsu") value) dhat.bsu
  pub bksu : IsOptional string (get (codes "bksu") value) dhat.bksu
  pub tu : get (codes "tu") value ≡ Some (string dhat.tu)
  pub mtu : get (codes "Mtu") value ≡ Some (string dhat.mtu)
  pub tuth : IsOptional whole (get (codes "tuth") value) dhat.tuth
  pub cmd : get (codes "cmd") value ≡ Some (string dhat.cmd)
  pub pid : get (codes "pid") value ≡ Some (whole dhat.pid)
  pub te : get (codes "te") value ≡ Some (whole dhat.te)
  pub tg : IsOptional whole (get (codes "tg") value) dhat.tg
  pub ftbl : get (codes "ftbl") value ≡ Some (array (items_of (map string dhat.ftbl)))
  pub points : List Data
  pub pps : get (codes "pps") value ≡ Some (array (items_of points))
  pub same : AllZip (is_point dhat.bklt dhat.bkacc (length dhat.ftbl)) points dhat.pps
  pub few : length points < 2 ^ 32 - 1
