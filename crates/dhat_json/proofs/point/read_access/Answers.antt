use Rattle.std.proofs.Common.{◌≡◌, ℕ, Some, [], ◌∷◌, refl, ap, ◌∙◌}
use Rattle.serde_json.specs.Data.{Data}
use Rattle.dhat_json.specs.DataOf.{data_of}
use Rattle.dhat_json.specs.declared.key.Key.TheVariants.{Rb, Wb, Acc}
use Rattle.dhat_json.specs.DhatFault.{allowed, pair_findings}
use Rattle.dhat_json.specs.Kinds.{as_list}
use Rattle.dhat_json.specs.ProfileIn.{access_in, whole_at}
use Rattle.dhat_json.proofs.Findings.{passes_on, passed_then, found_first, first_later, first_stays}
use Rattle.dhat_json.proofs.point.read_access.Goals as goal

access_is : (d : Data) (both : ℕ × ℕ) → both ≡ (whole_at Rb d, whole_at Wb d)
    → record { rb = both.0; wb = both.1 } ≡ access_in d
access_is d both both-are = rw both-are refl

pub returns-in_err-rb : goal.returns-in_err-rb
returns-in_err-rb c =
    let d = data_of c.args.value.now in
    let n = c.args.number in
    rw c.if-not-told.false
    (passes_on _ _ _ _ _ c.from_residual.ensures.1 c.in_err-rb.ensures
    (first_stays (pair_findings n Rb Wb d) (allowed as_list (Some n) Acc d ∷ []) _))

pub returns-in_err-check_counts : goal.returns-in_err-check_counts
returns-in_err-check_counts c =
    let d = data_of c.args.value.now in
    let n = c.args.number in
    let counts = allowed as_list (Some n) Acc d in
    rw c.if-not-told.false
    (passes_on _ _ _ _ _ c.from_residual-in_err-check_counts.ensures.1 c.in_err-check_counts.ensures (λ found.
    first_later (pair_findings n Rb Wb d) (counts ∷ []) c.in_ok-rb.ensures.0 ∙ found_first counts [] _ found))

pub returns : goal.returns
returns c =
    let d = data_of c.args.value.now in
    let n = c.args.number in
    let counts = allowed as_list (Some n) Acc d in
    let both = c.in_ok-rb in
    rw c.if-not-told.false (
      first_later (pair_findings n Rb Wb d) (counts ∷ []) both.ensures.0
          ∙ passed_then counts [] c.in_ok-check_counts.ensures.0,
      ap Some (access_is d (both.rb, both.wb) both.ensures.1),
    )
