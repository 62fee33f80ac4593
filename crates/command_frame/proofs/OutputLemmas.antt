-- What lines give to an output.
use Rattle.std.proofs.Common.{◌≡◌, ℕ, ◌+◌, ◌-◌, List, [], ◌∷◌, ◌++◌, length, take, Option, Some, None, refl, unwrap_or}
use Rattle.std.proofs.Common.{length-append, length-take, ap, ap₂, sym, ◌∙◌, append-nil, append_assoc, arith}
use Rattle.std.proofs.Math.Seq.{take-append-add, take-append_seam}
use Rattle.std.specs.Io.KnownBytes.{append_known}
use Rattle.hp_outside.specs.Taken.{GainsCutFront}
use Rattle.command_frame.specs.Report.{Report, gains_from, written}
use Rattle.command_frame.specs.LinesRun.{Gained}

-- nothing more is the same
pub append_nothing : (known : Option (List ℕ)) → append_known known [] ≡ known
append_nothing None = refl
append_nothing (Some bytes) = ap Some (append-nil bytes)

-- bytes after bytes
pub append_further : (known : Option (List ℕ)) (first second : List ℕ)
    → append_known (append_known known first) second ≡ append_known known (first ++ second)
append_further None first second = refl
append_further (Some bytes) first second = ap Some (append_assoc bytes first second)

-- what lines give, and one line after them
pub gains_push : (report : Report) (earlier lines : List (List ℕ)) (line : List ℕ)
    → gains_from report earlier (lines ++ line ∷ [])
    ≡ gains_from report earlier lines ++ report.gains (earlier ++ lines) line
gains_push report earlier [] line =
    append-nil (report.gains earlier line) ∙ ap (λ before. report.gains before line) (sym (append-nil earlier))
gains_push report earlier (first ∷ lines) line =
    ap (λ more. report.gains earlier first ++ more) (gains_push report (earlier ++ first ∷ []) lines line)
    ∙ (sym
    (append_assoc (report.gains earlier first) (gains_from report (earlier ++ first ∷ []) lines)
    (report.gains ((earlier ++ first ∷ []) ++ lines) line))
    ∙ ap (λ before. (report.gains earlier first ++ gains_from report (earlier ++ first ∷ []) lines)
    ++ report.gains before line) (append_assoc
    earlier (first ∷ []) lines))

pub written_push : (report : Report) (lines : List (List ℕ)) (line : List ℕ)
    → written report (lines ++ line ∷ []) ≡ written report lines ++ report.gains lines line
written_push report lines line = gains_push report [] lines line

-- a line gave its bytes, and some of what was kept back was passed on
pub gained_more : (report : Report) (taken : List (List ℕ)) (line : List ℕ) (old now new : Option (List ℕ))
    (kept_back added kept : List ℕ)
    → Gained old now kept_back (written report taken)
    → added ≡ kept_back ++ report.gains taken line → (early : List ℕ) → new ≡ append_known now early
    → early ++ kept ≡ added → Gained old new kept (written report (taken ++ line ∷ []))
gained_more report taken line old now new kept_back added kept before gives early passed_on all = record {
  early = before.early ++ early;
  written = passed_on ∙ (ap (λ known. append_known known early) before.written ∙ append_further old before.early early);
  all = append_assoc before.early early kept
      ∙ (ap (λ more. before.early ++ more) (all ∙ gives)
      ∙ (sym (append_assoc before.early kept_back (report.gains taken line))
      ∙ (ap (λ more. more ++ report.gains taken line) before.all ∙ sym (written_push report taken line))));
}

-- nothing more was kept back
pub kept_as : {old now : Option (List ℕ)} {kept_back kept bytes : List ℕ} → Gained old now kept_back bytes
    → kept ≡ kept_back → Gained old now kept bytes
kept_as {old} {now} {kept_back} {kept} {bytes} before same =
    record { early = before.early; written = before.written; all = ap (λ more. before.early ++ more) same ∙ before.all }

-- all that was kept back was passed on
pub passed_on_all : {old now new : Option (List ℕ)} {kept_back bytes : List ℕ} → Gained old now kept_back bytes
    → new ≡ append_known now kept_back → Gained old new [] bytes
passed_on_all {old} {now} {new} {kept_back} {bytes} before passed_on = record {
  early = before.early ++ kept_back;
  written =
      passed_on ∙ (ap (λ known. append_known known kept_back) before.written
      ∙ append_further old before.early kept_back);
  all = append-nil (before.early ++ kept_back) ∙ before.all;
}

-- a front of what is kept back was written, and the rest is lost
pub front_of_all : (old now new : Option (List ℕ)) (kept_back bytes : List ℕ) → Gained old now kept_back bytes
    → (count : ℕ) → new ≡ append_known now (take count kept_back)
    → (more : ℕ) × (new ≡ append_known old (take more bytes))
front_of_all old now new kept_back bytes before count passed_on = (
  length before.early + count,
  passed_on ∙ (ap (λ known. append_known known (take count kept_back)) before.written
      ∙ (append_further old before.early (take count kept_back)
      ∙ ap (append_known old)
      (sym (take-append-add before.early kept_back count) ∙ ap (take (length before.early + count)) before.all))),
)

-- a front of a list is what stands before the next number
pub take_front : (front more all : List (List ℕ)) (number : ℕ) → all ≡ front ++ more → number ≡ length front + 1
    → front ≡ take (number - 1) all
take_front front more all number all_is number_is =
    let count : number - 1 ≡ length front = omega (arith, number_is) in
    sym (ap₂ take count all_is ∙ take-append_seam front more)

-- an output that is told and gained less than all hasn't gained all
pub cut_is_not_whole : (old new : Option (List ℕ)) (bytes all : List ℕ) → old ≡ Some bytes → GainsCutFront old new all
    → new ≡ append_known old all → ⊥
cut_is_not_whole old new bytes all known cut whole =
    let same : Some (bytes ++ take cut.0 all) ≡ Some (bytes ++ all) =
    ap (λ o. append_known o (take cut.0 all)) (sym known)
    ∙ (sym cut.2 ∙ (whole ∙ ap (λ o. append_known o all) known)) in
    let lengths : length (bytes ++ take cut.0 all) ≡ length (bytes ++ all) =
    ap (λ (o : Option (List ℕ)). length (unwrap_or o [])) same in
    omega (arith, lengths, cut.1, length-append bytes (take cut.0 all), length-append bytes all, length-take cut.0 all)
