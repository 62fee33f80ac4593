use Rattle.std.proofs.Common.{◌≡◌, ℕ, List, ◌∷◌, [], Bool, None, refl, sym, ap, ◌∙◌, subst, rules}
use Rattle.std.specs.Prelude.{IsUtf8}
use Rattle.std.proofs.lemmas.Result.{IfOk-at_ok}
use Rattle.serde_json.specs.Data.{Data}
use Rattle.serde_json.specs.Find.{as_str, as_bool}
use Rattle.dhat_json.specs.DataOf.{data_of}
use Rattle.dhat_json.specs.declared.key.Key.TheVariants.{Mode, Verb, Bklt, Bkacc}
use Rattle.dhat_json.specs.DhatFault.{Finding, first_of, needed, no_object, version_findings, head_findings}
use Rattle.dhat_json.specs.Parts.{head_in}
use Rattle.dhat_json.specs.ProfileIn.{text_at, flag_at}
use Rattle.dhat_json.proofs.Findings.{passed_then, found_first, first_later, first_stays, passes_on, read_as}
use Rattle.dhat_json.proofs.Findings.{refused_as}
use Rattle.dhat_json.proofs.reader.read_head.Goals as goal
use Rattle.dhat_json.proofs.reader.read_head.Goals.{In_ok-texts, In_ok-texts-2}

-- what is found from the second flag, the first flag, the second text and the first one on
abbrev bkacc_on : Data → List Finding
bkacc_on v = needed as_bool None Bkacc v ∷ []

abbrev bklt_on : Data → List Finding
bklt_on v = needed as_bool None Bklt v ∷ bkacc_on v

abbrev verb_on : Data → List Finding
verb_on v = needed as_str None Verb v ∷ bklt_on v

abbrev mode_on : Data → List Finding
mode_on v = needed as_str None Mode v ∷ verb_on v

up_to_mode : (v : Data) → no_object v ≡ None → first_of (version_findings v) ≡ None
    → first_of (head_findings v) ≡ first_of (mode_on v)
up_to_mode v object version = passed_then (no_object v) _ object ∙ first_later (version_findings v) (mode_on v) version

up_to_verb : (v : Data) → no_object v ≡ None → first_of (version_findings v) ≡ None → needed as_str None Mode v ≡ None
    → first_of (head_findings v) ≡ first_of (verb_on v)
up_to_verb v object version mode =
    up_to_mode v object version ∙ passed_then (needed as_str None Mode v) (verb_on v) mode

up_to_bklt : (v : Data) → no_object v ≡ None → first_of (version_findings v) ≡ None → needed as_str None Mode v ≡ None
    → needed as_str None Verb v ≡ None → first_of (head_findings v) ≡ first_of (bklt_on v)
up_to_bklt v object version mode verb =
    up_to_verb v object version mode ∙ passed_then (needed as_str None Verb v) (bklt_on v) verb

up_to_bkacc : (v : Data) → no_object v ≡ None → first_of (version_findings v) ≡ None → needed as_str None Mode v ≡ None
    → needed as_str None Verb v ≡ None → needed as_bool None Bklt v ≡ None
    → first_of (head_findings v) ≡ first_of (bkacc_on v)
up_to_bkacc v object version mode verb bklt =
    up_to_bklt v object version mode verb ∙ passed_then (needed as_bool None Bklt v) (bkacc_on v) bklt

head_is : (v : Data) (mode verb : List ℕ) (bklt bkacc : Bool) → mode ≡ text_at Mode v → verb ≡ text_at Verb v
    → bklt ≡ flag_at Bklt v → bkacc ≡ flag_at Bkacc v
    → record { mode = mode; verb = verb; bklt = bklt; bkacc = bkacc } ≡ head_in v
head_is v mode verb bklt bkacc mode-is verb-is bklt-is bkacc-is = rw (mode-is, verb-is, bklt-is, bkacc-is) refl

read-verb : (c : In_ok-texts)
    → (needed as_str None Verb (data_of c.args.value.now) ≡ None)
    × (c.in_ok-texts.texts.1 ≡ text_at Verb (data_of c.args.value.now))
read-verb c =
    read_as c.read_text-2.result c.in_ok-texts.texts.1 _ _ c.in_ok-texts.ensures.ok.0 c.read_text-2.ensures.read

read-bklt : (c : In_ok-texts-2)
    → (needed as_bool None Bklt (data_of c.args.value.now) ≡ None)
    × (c.in_ok-texts-2.bklt ≡ flag_at Bklt (data_of c.args.value.now))
read-bklt c = read_as c.read_flag.result c.in_ok-texts-2.bklt _ _ c.in_ok-texts-2.ensures.ok.0 c.read_flag.ensures

pub returns-in_err-check_version-clause-read : goal.returns-in_err-check_version-clause-read
returns-in_err-check_version-clause-read c =
    let v = data_of c.args.value.now in
    passes_on _ _ _ _ _ c.from_residual.ensures.1 c.in_err-check_version.ensures
    (λ found. passed_then (no_object v) _ (search rules) ∙ first_stays (version_findings v) (mode_on v) _ found)

pub returns-in_err-mode-clause-read : goal.returns-in_err-mode-clause-read
returns-in_err-mode-clause-read c =
    let v = data_of c.args.value.now in
    passes_on _ _ _ _ _ c.from_residual-in_err-mode.ensures.1 c.in_err-mode.ensures.read
    (λ found. up_to_mode v (search rules) c.in_ok-check_version.ensures.0
    ∙ found_first (needed as_str None Mode v) (verb_on v) _ found)

pub returns-in_err-texts-clause-read : goal.returns-in_err-texts-clause-read
returns-in_err-texts-clause-read c =
    let v = data_of c.args.value.now in
    passes_on _ _ _ _ _ c.from_residual-in_err-texts.ensures.1
    (refused_as _ _ _ _ c.in_err-texts.ensures.err c.read_text-2.ensures.read)
    (λ found. up_to_verb v (search rules) c.in_ok-check_version.ensures.0 c.in_ok-mode.ensures.read.0
    ∙ found_first (needed as_str None Verb v) (bklt_on v) _ found)

pub returns-in_err-texts-2-clause-read : goal.returns-in_err-texts-2-clause-read
returns-in_err-texts-2-clause-read c =
    let v = data_of c.args.value.now in
    let at = goal.at.returns-in_err-texts-2-clause-read c in
    passes_on _ _ _ _ _ c.from_residual-in_err-texts-2.ensures.1
    (refused_as _ _ _ _ c.in_err-texts-2.ensures.err c.read_flag.ensures)
    (λ found. up_to_bklt v (search rules) c.in_ok-check_version.ensures.0 c.in_ok-mode.ensures.read.0
    (read-verb at.In_ok-texts).0
    ∙ found_first (needed as_bool None Bklt v) (bkacc_on v) _ found)

pub returns-in_err-mode-2-clause-read : goal.returns-in_err-mode-2-clause-read
returns-in_err-mode-2-clause-read c =
    let at = goal.at.returns-in_err-mode-2-clause-read c in
    passes_on _ _ _ _ _ c.from_residual-in_err-mode-2.ensures.1
    (refused_as _ _ _ _ c.in_err-mode-2.ensures.err c.read_flag-2.ensures)
    (λ found. up_to_bkacc (data_of c.args.value.now) (search rules) c.in_ok-check_version.ensures.0
    c.in_ok-mode.ensures.read.0 (read-verb at.In_ok-texts).0 (read-bklt at.In_ok-texts-2).0
    ∙ found_first (needed as_bool None Bkacc (data_of c.args.value.now)) [] _ found)

pub returns-clause-read : goal.returns-clause-read
returns-clause-read c =
    let v = data_of c.args.value.now in
    let at = goal.at.returns-clause-read c in
    let verb = read-verb at.In_ok-texts in
    let bklt = read-bklt at.In_ok-texts-2 in
    let last = c.in_ok-mode-2 in
    let kept = last.ensures.ok.1 ∙ c.in_ok-texts-2.ensures.ok.1 in
    let bkacc = read_as c.read_flag-2.result last.bkacc _ _ last.ensures.ok.0 c.read_flag-2.ensures in (
      up_to_bkacc v (search rules) c.in_ok-check_version.ensures.0 c.in_ok-mode.ensures.read.0 verb.0 bklt.0
          ∙ passed_then (needed as_bool None Bkacc v) [] bkacc.0,
      head_is v last.mode last.verb c.in_ok-texts-2.bklt last.bkacc
          (ap (λ (texts : List ℕ × List ℕ). texts.0) kept ∙ c.in_ok-texts.ensures.ok.1 ∙ c.in_ok-mode.ensures.read.1)
          (ap (λ (texts : List ℕ × List ℕ). texts.1) kept ∙ verb.1) bklt.1 bkacc.1,
    )

pub returns-clause-utf8 : goal.returns-clause-utf8
returns-clause-utf8 c =
    let kept = c.in_ok-mode-2.ensures.ok.1 ∙ c.in_ok-texts-2.ensures.ok.1 in
    let mode = ap (λ (texts : List ℕ × List ℕ). texts.0) kept ∙ c.in_ok-texts.ensures.ok.1 in
    let verb = ap (λ (texts : List ℕ × List ℕ). texts.1) kept in (
      subst IsUtf8 (sym mode) c.in_ok-mode.ensures.utf8,
      subst IsUtf8 (sym verb) (IfOk-at_ok IsUtf8 c.in_ok-texts.ensures.ok.0 c.read_text-2.ensures.utf8),
    )
