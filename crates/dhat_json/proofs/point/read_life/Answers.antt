use Rattle.std.proofs.Common.{◌≡◌, ℕ, true, Some, None, List, ◌++◌, refl, ap, ◌∙◌}
use Rattle.serde_json.specs.Data.{Data}
use Rattle.dhat_json.specs.DataOf.{data_of}
use Rattle.dhat_json.specs.declared.key.Key.TheVariants.{Tl, Mb, Mbk, Gb, Gbk, Eb, Ebk}
use Rattle.dhat_json.specs.DhatFault.{Finding, first_of, life_findings, needed, pair_findings}
use Rattle.dhat_json.specs.Kinds.{as_whole}
use Rattle.dhat_json.specs.ProfileIn.{life_in, whole_at}
use Rattle.dhat_json.proofs.Findings.{passes_on, passed_then, found_first, first_later, first_stays}
use Rattle.dhat_json.proofs.point.read_life.Goals as goal

-- what is found from the numbers at the profile's peak on, and from those at the point's own
abbrev gb_on : ℕ → Data → List Finding
gb_on number d = pair_findings number Gb Gbk d ++ pair_findings number Eb Ebk d

abbrev mb_on : ℕ → Data → List Finding
mb_on number d = pair_findings number Mb Mbk d ++ gb_on number d

life_is : (d : Data) (tl : ℕ) (mb gb eb : ℕ × ℕ) → tl ≡ whole_at Tl d → mb ≡ (whole_at Mb d, whole_at Mbk d)
    → gb ≡ (whole_at Gb d, whole_at Gbk d) → eb ≡ (whole_at Eb d, whole_at Ebk d)
    → record { tl = tl; mb = mb.0; mbk = mb.1; gb = gb.0; gbk = gb.1; eb = eb.0; ebk = eb.1 } ≡ life_in d
life_is d tl mb gb eb tl-is mb-is gb-is eb-is = rw (tl-is, mb-is, gb-is, eb-is) refl

module _ (n : ℕ) (d : Data) (tl : needed as_whole (Some n) Tl d ≡ None) where
  up_to_mb : first_of (life_findings true n d) ≡ first_of (mb_on n d)
  up_to_mb = passed_then (needed as_whole (Some n) Tl d) (mb_on n d) tl

  up_to_gb : first_of (pair_findings n Mb Mbk d) ≡ None → first_of (life_findings true n d) ≡ first_of (gb_on n d)
  up_to_gb mb = up_to_mb ∙ first_later (pair_findings n Mb Mbk d) (gb_on n d) mb

  up_to_eb : first_of (pair_findings n Mb Mbk d) ≡ None → first_of (pair_findings n Gb Gbk d) ≡ None
      → first_of (life_findings true n d) ≡ first_of (pair_findings n Eb Ebk d)
  up_to_eb mb gb = up_to_gb mb ∙ first_later (pair_findings n Gb Gbk d) (pair_findings n Eb Ebk d) gb

pub returns-in_err-tl : goal.returns-in_err-tl
returns-in_err-tl c =
    let d = data_of c.args.value.now in
    rw c.if-not-told.false
    (passes_on _ _ _ _ _ c.from_residual.ensures.1 c.in_err-tl.ensures
    (found_first (needed as_whole (Some c.args.number) Tl d) (mb_on c.args.number d) _))

pub returns-in_err-mb : goal.returns-in_err-mb
returns-in_err-mb c =
    let d = data_of c.args.value.now in
    let n = c.args.number in
    rw c.if-not-told.false (passes_on _ _ _ _ _ c.from_residual-in_err-mb.ensures.1 c.in_err-mb.ensures (λ found.
    up_to_mb n d c.in_ok-tl.ensures.0 ∙ first_stays (pair_findings n Mb Mbk d) (gb_on n d) _ found))

pub returns-in_err-gb : goal.returns-in_err-gb
returns-in_err-gb c =
    let d = data_of c.args.value.now in
    let n = c.args.number in
    rw c.if-not-told.false (passes_on _ _ _ _ _ c.from_residual-in_err-gb.ensures.1 c.in_err-gb.ensures (λ found.
    up_to_gb n d c.in_ok-tl.ensures.0 c.in_ok-mb.ensures.0
    ∙ first_stays (pair_findings n Gb Gbk d) (pair_findings n Eb Ebk d) _ found))

pub returns-in_err-eb : goal.returns-in_err-eb
returns-in_err-eb c =
    rw c.if-not-told.false (passes_on _ _ _ _ _ c.from_residual-in_err-eb.ensures.1 c.in_err-eb.ensures (λ found.
    up_to_eb c.args.number (data_of c.args.value.now) c.in_ok-tl.ensures.0 c.in_ok-mb.ensures.0 c.in_ok-gb.ensures.0
    ∙ found))

pub returns : goal.returns
returns c =
    let d = data_of c.args.value.now in
    let tl = c.in_ok-tl in
    let mb = c.in_ok-mb in
    let gb = c.in_ok-gb in
    let eb = c.in_ok-eb in
    rw c.if-not-told.false (
      up_to_eb c.args.number d tl.ensures.0 mb.ensures.0 gb.ensures.0 ∙ eb.ensures.0,
      ap Some (life_is d tl.tl (mb.mb, mb.mbk) (gb.gb, gb.gbk) (eb.eb, eb.ebk) tl.ensures.1 mb.ensures.1 gb.ensures.1
          eb.ensures.1),
    )
