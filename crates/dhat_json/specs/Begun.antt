-- How far the text of a profile is written whose points come one by one.
use Rattle.std.specs.Prelude.{◌≡◌, ℕ, List, [], ◌++◌, map, Some}
use Rattle.json.specs.Token.{Token}
use Rattle.json.specs.Tree.{items_tokens, json_tokens, members_tokens}
use Rattle.json.specs.Written.{Written}
use Rattle.serde_json.specs.Data.{no_members}
use Rattle.serde_json.specs.View.{items_of}
use Rattle.serde_json.specs.Written.{items_outline, members_outline, outline}
use Rattle.dhat_json.specs.declared.profile.Dhat.{Dhat}
use Rattle.dhat_json.specs.declared.profile.Point.{Point}
use Rattle.dhat_json.specs.Adds.{Fits, ItemsFit, MembersFit}
use Rattle.dhat_json.specs.DhatValue.{dhat_text, dhat_value, point_value}
use Rattle.dhat_json.specs.Document.{value_of}
use Rattle.dhat_json.specs.Groups.{time_members}

-- the profile with these points in the place of its own
abbrev pub with_points : Dhat → List Point → Dhat
with_points dhat points = record dhat { pps = points }

-- the tokens of points to come, and of what stands behind the points
abbrev pub rest_tokens : Dhat → List Point → List Token
rest_tokens dhat more = items_tokens (items_outline (items_of (map point_value more)))
    ++ members_tokens (members_outline (time_members dhat no_members))

-- all that stands before the points is written, and the profile's points; others may come behind them
pub record HasBegun (out : Written) (dhat : Dhat) : Type 0 where
  pub before : out.before ≡ []
  pub tokens : (more : List Point)
      → json_tokens (outline (dhat_value (with_points dhat (dhat.pps ++ more))))
      ≡ out.tokens ++ rest_tokens dhat more
  pub fits : (more : List Point) → ItemsFit (items_of (map point_value more))
      → MembersFit (time_members dhat no_members)
      → Fits (dhat_value (with_points dhat (dhat.pps ++ more)))

-- what stands behind the points of the one profile stands behind those of the other
abbrev pub HasTimes : Dhat → Dhat → Type 0
HasTimes dhat other = time_members other no_members ≡ time_members dhat no_members

-- these points came behind the others
abbrev pub GoesOn : Written → Written → List Point → Type 0
GoesOn old new points = (dhat : Dhat) → HasBegun old dhat
    → HasBegun new (with_points dhat (dhat.pps ++ points))

-- this holds of each profile that is written up to its points and ends as the other one
abbrev pub IsEnded : Written → Dhat → (Dhat → Type 0) → Type 0
IsEnded out head P = (whole : Dhat) → HasBegun out whole → HasTimes head whole → P whole

-- the whole profile is written
pub record IsWhole (out : Written) (dhat : Dhat) : Type 0 where
  pub before : out.before ≡ []
  pub tokens : out.tokens ≡ json_tokens (outline (dhat_value dhat))
  pub fits : Fits (dhat_value dhat)

-- the text is that of the profile, and has its value
pub record IsTextOf (dhat : Dhat) (text : List ℕ) : Type 0 where
  pub same : text ≡ dhat_text dhat
  pub value : value_of text ≡ Some (dhat_value dhat)
