-- What a survey of a document has of its members, for private clauses.
use Rattle.std.specs.Prelude.{◌≡◌, ℕ, List, Some, IfSome}
use Rattle.json.specs.Token.{Token}
use Rattle.json.specs.Value.{members_view}
use Rattle.serde_json.specs.Data.{Data, object, Members, no_members, put}
use Rattle.serde_json.specs.Read.{read}
use Rattle.dhat_json.specs.declared.key.Key.TheVariants.{Pps}
use Rattle.dhat_json.specs.declared.survey.Survey.{Survey}
use Rattle.dhat_json.specs.Ahead.{members_ahead, value_ahead}
use Rattle.dhat_json.specs.DataOf.{members_data}
use Rattle.dhat_json.specs.Gathered.{HasGathered}
use Rattle.dhat_json.specs.Outline.{IsOutline}
use Rattle.dhat_json.specs.ProfileIn.{list_at}

abbrev pub outline_of : Survey → Data
outline_of survey = object (members_data (members_view survey.members.items) no_members)

-- these members came
pub record HasMet (survey : Survey) (found : Members) : Type 0 where
  pub outline : IsOutline (outline_of survey) (object found)
  pub points : HasGathered survey.gathered (list_at Pps (object found))
  pub shape : IfSome survey.given (λ shape. survey.gathered.shape ≡ shape)

-- a member more came, whose value stood next
pub record Meets (old new : Survey) (name : List ℕ) (ahead behind : List Token) : Type 0 where
  pub value : Data
  pub is : value_ahead 126 ahead ≡ Some (value, behind)
  pub met : (found : Members) → HasMet old found → HasMet new (put name value found)

-- the members of an object came, which stood next
abbrev pub MeetsMembers : Survey → Survey → List Token → List Token → Type 0
MeetsMembers old new ahead behind = (found : Members)
    × (members_ahead 126 ahead ≡ Some (found, behind))
    × (HasMet old no_members → HasMet new found)

-- the text is an object, and its members came
pub record HasSurveyed (survey : Survey) (text : List ℕ) : Type 0 where
  pub found : Members
  pub is : read text ≡ Some (object found)
  pub met : HasMet survey found
