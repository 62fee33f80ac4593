-- Which profiles hang together, and which of them can be written. A profile is sound where its
-- points are few enough to be numbered, have the parts that it tells of, and frames within the
-- table; it can be written where its texts are UTF-8 too.
use Rattle.std.specs.Prelude.{◌≡◌, ◌-◌, ◌^◌, ◌<◌, ℕ, Bool, length, All, is_some, IfSome, IsUtf8}
use Rattle.dhat_json.specs.declared.profile.Point.{Point}
use Rattle.dhat_json.specs.declared.profile.Dhat.{Dhat}

-- the point has the parts that the profile tells of, and its frames are in the table
pub record IsSoundPoint (bklt bkacc : Bool) (frames : ℕ) (point : Point) : Type 0 where
  pub life : is_some point.life ≡ bklt
  pub access : is_some point.access ≡ bkacc
  pub in_table : All (λ frame. frame < frames) point.fs

-- each point has these parts and its frames in the table, and there are fewer than 2 ^ 32 - 1 points
pub record IsSound (dhat : Dhat) : Type 0 where
  pub few : length dhat.pps < 2 ^ 32 - 1
  pub points : All (IsSoundPoint dhat.bklt dhat.bkacc (length dhat.ftbl)) dhat.pps

-- every text is UTF-8, as the texts of a JSON document are
pub record HasTexts (dhat : Dhat) : Type 0 where
  pub mode : IsUtf8 dhat.mode
  pub verb : IsUtf8 dhat.verb
  pub bu : IfSome dhat.bu IsUtf8
  pub bsu : IfSome dhat.bsu IsUtf8
  pub bksu : IfSome dhat.bksu IsUtf8
  pub tu : IsUtf8 dhat.tu
  pub mtu : IsUtf8 dhat.mtu
  pub cmd : IsUtf8 dhat.cmd
  pub ftbl : All IsUtf8 dhat.ftbl

pub record IsWritable (dhat : Dhat) : Type 0 where
  pub sound : IsSound dhat
  pub texts : HasTexts dhat
