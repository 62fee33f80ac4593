-- A profile but for its points: what is found of it, what it says, and what it tells of all points,
-- for private clauses.
use Rattle.std.specs.Prelude.{◌≡◌, ℕ, List, [], ◌∷◌, ◌++◌, length, Option, None, Some, All, IfSome, IsUtf8}
use Rattle.serde_json.specs.Data.{Data}
use Rattle.serde_json.specs.Read.{read}
use Rattle.dhat_json.specs.declared.gathered.Gathered.{Gathered}
use Rattle.dhat_json.specs.declared.key.Key.TheVariants.{Bklt, Bkacc, Ftbl, Pps}
use Rattle.dhat_json.specs.declared.parts.Front.{Front}
use Rattle.dhat_json.specs.declared.shape.Shape.{Shape}
use Rattle.dhat_json.specs.DhatFault.{Finding, first_of, head_findings, needed, run_findings, table_findings}
use Rattle.dhat_json.specs.DhatFault.{unit_findings}
use Rattle.dhat_json.specs.Gathered.{HasGathered}
use Rattle.dhat_json.specs.Kinds.{as_list}
use Rattle.dhat_json.specs.Parts.{HasBlockTexts, HasTimeTexts, head_in, run_in, units_in}
use Rattle.dhat_json.specs.ProfileIn.{flag_at, list_at, table_in}

abbrev pub front_findings : Data → List Finding
front_findings value = head_findings value
    ++ (unit_findings value
    ++ (run_findings value ++ (table_findings value ++ needed as_list None Pps value ∷ [])))

abbrev pub front_in : Data → Front
front_in value = record {
  head = head_in value;
  units = units_in value;
  run = run_in value;
  ftbl = table_in value;
}

-- the texts are UTF-8
abbrev pub HasFrontTexts : Front → Type 0
HasFrontTexts front = IsUtf8 front.head.mode
    × IsUtf8 front.head.verb
    × HasBlockTexts front.units.block
    × HasTimeTexts front.units.time
    × IsUtf8 front.run.cmd
    × All IsUtf8 front.ftbl

abbrev pub shape_in : Data → Shape
shape_in value = record {
  bklt = flag_at Bklt value;
  bkacc = flag_at Bkacc value;
  frames = length (list_at Ftbl value);
}

-- what was gathered are the points of the value, in its shape
abbrev pub ArePointsOf : Gathered → Data → Type 0
ArePointsOf gathered value =
    HasGathered (record gathered { shape = shape_in value }) (list_at Pps value)

-- the value says it, and nothing was found up to the points
pub record IsFront (front : Front) (value : Data) : Type 0 where
  pub none : first_of (front_findings value) ≡ None
  pub says : front ≡ front_in value

-- the text has a value, which says the one, and the other is what was gathered of its points
pub record HasRead (text : List ℕ) (given : Option Shape) (front : Front) (gathered : Gathered)
    : Type 0 where
  pub value : Data
  pub is : read text ≡ Some value
  pub says : IsFront front value
  pub texts : HasFrontTexts front
  pub points : HasGathered gathered (list_at Pps value)
  pub shape : IfSome given (λ shape. gathered.shape ≡ shape)
