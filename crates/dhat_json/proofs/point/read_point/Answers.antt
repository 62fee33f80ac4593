use Rattle.std.proofs.Common.{◌≡◌, ℕ, List, ◌++◌, Some, None, ◌∙◌, rules}
use Rattle.serde_json.specs.Data.{Data}
use Rattle.serde_json.specs.Find.{as_object}
use Rattle.dhat_json.specs.DataOf.{data_of}
use Rattle.dhat_json.specs.declared.key.Key.TheVariants.{Pps, Tb, Tbk}
use Rattle.dhat_json.specs.declared.shape.Shape.{Shape}
use Rattle.dhat_json.specs.DhatFault.{Finding, first_of, other_kind, pair_findings, life_findings, access_findings}
use Rattle.dhat_json.specs.DhatFault.{frames_findings}
use Rattle.dhat_json.specs.Gathered.{findings_of}
use Rattle.dhat_json.proofs.Findings.{passed_then, first_later, first_stays, passes_on}
use Rattle.dhat_json.proofs.point.read_point.Goals as goal

-- what is found from the counts of accesses on, and from the part before on
abbrev access_on : Shape → ℕ → Data → List Finding
access_on shape n d = access_findings shape.bkacc n d ++ frames_findings n shape.frames d

abbrev life_on : Shape → ℕ → Data → List Finding
life_on shape n d = life_findings shape.bklt n d ++ access_on shape n d

module _ (shape : Shape) (n : ℕ) (d : Data) (object : other_kind as_object (Some n) Pps d ≡ None) where
  up_to_counts : first_of (findings_of shape n d) ≡ first_of (pair_findings n Tb Tbk d ++ life_on shape n d)
  up_to_counts = passed_then _ (pair_findings n Tb Tbk d ++ life_on shape n d) object

  module _ (counts : first_of (pair_findings n Tb Tbk d) ≡ None) where
    up_to_life : first_of (findings_of shape n d) ≡ first_of (life_on shape n d)
    up_to_life = up_to_counts ∙ first_later (pair_findings n Tb Tbk d) (life_on shape n d) counts

    up_to_access : first_of (life_findings shape.bklt n d) ≡ None
        → first_of (findings_of shape n d) ≡ first_of (access_on shape n d)
    up_to_access life = up_to_life ∙ first_later (life_findings shape.bklt n d) (access_on shape n d) life

pub returns-in_err-tb : goal.returns-in_err-tb
returns-in_err-tb c =
    let d = data_of c.args.value.now in
    passes_on _ _ _ _ _ c.from_residual.ensures.1 c.in_err-tb.ensures (λ found.
    up_to_counts c.args.shape c.args.number d (search rules)
    ∙ first_stays (pair_findings c.args.number Tb Tbk d) (life_on c.args.shape c.args.number d) _ found)

pub returns-in_err-life : goal.returns-in_err-life
returns-in_err-life c =
    let d = data_of c.args.value.now in
    passes_on _ _ _ _ _ c.from_residual-in_err-life.ensures.1 c.in_err-life.ensures (λ found.
    up_to_life c.args.shape c.args.number d (search rules) c.in_ok-tb.ensures.0
    ∙ first_stays (life_findings c.args.shape.bklt c.args.number d) (access_on c.args.shape c.args.number d) _ found)

pub returns-in_err-access : goal.returns-in_err-access
returns-in_err-access c =
    let d = data_of c.args.value.now in
    let s = c.args.shape in
    let n = c.args.number in
    passes_on _ _ _ _ _ c.from_residual-in_err-access.ensures.1 c.in_err-access.ensures (λ found.
    up_to_access s n d (search rules) c.in_ok-tb.ensures.0 c.in_ok-life.ensures.0
    ∙ first_stays (access_findings s.bkacc n d) (frames_findings n s.frames d) _ found)

pub returns-in_err-fs : goal.returns-in_err-fs
returns-in_err-fs c =
    let d = data_of c.args.value.now in
    passes_on _ _ _ _ _ c.from_residual-in_err-fs.ensures.1 c.in_err-fs.ensures (λ found.
    up_to_access c.args.shape c.args.number d (search rules) c.in_ok-tb.ensures.0 c.in_ok-life.ensures.0
    ∙ first_later (access_findings c.args.shape.bkacc c.args.number d) _ c.in_ok-access.ensures.0 ∙ found)
