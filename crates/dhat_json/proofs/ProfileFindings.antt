-- The first fault of a profile, part by part.
use Rattle.std.proofs.Common.{◌≡◌, ◌≢◌, ℕ, ◌-◌, ◌^◌, ◌<◌, List, [], ◌∷◌, ◌++◌, length, map, Bool, true, false, ltb}
use Rattle.std.proofs.Common.{Some, None, Ok, Err, refl, sym, ap, ap₂, ◌∙◌, subst, arith, append_assoc}
use Rattle.std.proofs.lemmas.List.{length-map}
use Rattle.std.proofs.lemmas.Bool.{lt-ltb, ltb-true, ltb-false}
use Rattle.serde_json.specs.Data.{Data}
use Rattle.dhat_json.specs.declared.fault.DhatFault.{DhatFault}
use Rattle.dhat_json.specs.declared.fault.DhatFault.TheVariants.{TooMany}
use Rattle.dhat_json.specs.declared.gathered.Gathered.{Gathered}
use Rattle.dhat_json.specs.declared.key.Key.TheVariants.{Bklt, Bkacc, Ftbl, Pps}
use Rattle.dhat_json.specs.declared.parts.Front.{Front}
use Rattle.dhat_json.specs.declared.parts.Head.{Head}
use Rattle.dhat_json.specs.declared.parts.Units.{Units}
use Rattle.dhat_json.specs.declared.parts.Run.{Run}
use Rattle.dhat_json.specs.declared.shape.Shape.{Shape}
use Rattle.dhat_json.specs.DhatFault.{Finding, first_of, needed, head_findings, unit_findings, run_findings}
use Rattle.dhat_json.specs.DhatFault.{table_findings, too_many, all_points_findings, dhat_fault}
use Rattle.dhat_json.specs.Document.{dhat_in, unless_fault}
use Rattle.dhat_json.specs.Front.{IsFront, front_findings, front_in, shape_in}
use Rattle.dhat_json.specs.Gathered.{FaultIs, HasGathered, shape_findings}
use Rattle.dhat_json.specs.Kinds.{as_list}
use Rattle.dhat_json.specs.Parts.{head_in, units_in, run_in, joined}
use Rattle.dhat_json.specs.ProfileIn.{profile_in, text_in, flag_at, list_at}
use Rattle.dhat_json.specs.Reads.{UnlessNoMemory}
use Rattle.dhat_json.proofs.Findings.{fault_follows, first_later, first_stays, found_first, passed_then}

abbrev pub table_on : Data → List Finding
table_on v = table_findings v ++ all_points_findings v

abbrev pub run_on : Data → List Finding
run_on v = run_findings v ++ table_on v

abbrev pub units_on : Data → List Finding
units_on v = unit_findings v ++ run_on v

-- ---- all but the points

abbrev list_behind : Data → List Finding
list_behind v = needed as_list None Pps v ∷ []

abbrev table_behind : Data → List Finding
table_behind v = table_findings v ++ list_behind v

abbrev run_behind : Data → List Finding
run_behind v = run_findings v ++ table_behind v

abbrev units_behind : Data → List Finding
units_behind v = unit_findings v ++ run_behind v

pub refused_in_head : (v : Data) (fault : DhatFault) → first_of (head_findings v) ≡ Some fault
    → first_of (front_findings v) ≡ Some fault
refused_in_head v fault found = first_stays (head_findings v) (units_behind v) fault found

up_to_units : (v : Data) → first_of (head_findings v) ≡ None → first_of (front_findings v) ≡ first_of (units_behind v)
up_to_units v head = first_later (head_findings v) (units_behind v) head

pub refused_in_units : (v : Data) (fault : DhatFault) → first_of (head_findings v) ≡ None
    → first_of (unit_findings v) ≡ Some fault → first_of (front_findings v) ≡ Some fault
refused_in_units v fault head found = up_to_units v head ∙ first_stays (unit_findings v) (run_behind v) fault found

up_to_run : (v : Data) → first_of (head_findings v) ≡ None → first_of (unit_findings v) ≡ None
    → first_of (front_findings v) ≡ first_of (run_behind v)
up_to_run v head units = up_to_units v head ∙ first_later (unit_findings v) (run_behind v) units

pub refused_in_run : (v : Data) (fault : DhatFault) → first_of (head_findings v) ≡ None
    → first_of (unit_findings v) ≡ None → first_of (run_findings v) ≡ Some fault
    → first_of (front_findings v) ≡ Some fault
refused_in_run v fault head units found =
    up_to_run v head units ∙ first_stays (run_findings v) (table_behind v) fault found

up_to_table : (v : Data) → first_of (head_findings v) ≡ None → first_of (unit_findings v) ≡ None
    → first_of (run_findings v) ≡ None → first_of (front_findings v) ≡ first_of (table_behind v)
up_to_table v head units run = up_to_run v head units ∙ first_later (run_findings v) (table_behind v) run

pub refused_in_table : (v : Data) (fault : DhatFault) → first_of (head_findings v) ≡ None
    → first_of (unit_findings v) ≡ None → first_of (run_findings v) ≡ None → first_of (table_findings v) ≡ Some fault
    → first_of (front_findings v) ≡ Some fault
refused_in_table v fault head units run found =
    up_to_table v head units run ∙ first_stays (table_findings v) (list_behind v) fault found

up_to_list : (v : Data) → first_of (head_findings v) ≡ None → first_of (unit_findings v) ≡ None
    → first_of (run_findings v) ≡ None → first_of (table_findings v) ≡ None
    → first_of (front_findings v) ≡ first_of (list_behind v)
up_to_list v head units run table = up_to_table v head units run ∙ first_later (table_findings v) (list_behind v) table

pub refused_in_list : (v : Data) (fault : DhatFault) → first_of (head_findings v) ≡ None
    → first_of (unit_findings v) ≡ None → first_of (run_findings v) ≡ None → first_of (table_findings v) ≡ None
    → needed as_list None Pps v ≡ Some fault
    → first_of (front_findings v) ≡ Some fault
refused_in_list v fault head units run table found =
    up_to_list v head units run table ∙ found_first (needed as_list None Pps v) [] fault found

pub nothing_in_front : (v : Data) → first_of (head_findings v) ≡ None → first_of (unit_findings v) ≡ None
    → first_of (run_findings v) ≡ None → first_of (table_findings v) ≡ None → needed as_list None Pps v ≡ None
    → first_of (front_findings v) ≡ None
nothing_in_front v head units run table list =
    up_to_list v head units run table ∙ passed_then (needed as_list None Pps v) [] list

pub front_is : (v : Data) (head : Head) (units : Units) (run : Run) (ftbl : List (List ℕ)) → head ≡ head_in v
    → units ≡ units_in v → run ≡ run_in v → ftbl ≡ map text_in (list_at Ftbl v)
    → record { head = head; units = units; run = run; ftbl = ftbl } ≡ front_in v
front_is v head units run ftbl head-is units-is run-is ftbl-is = rw (head-is, units-is, run-is, ftbl-is) refl

-- ---- the points

abbrev points_behind : Data → List Finding
points_behind v = too_many (list_at Pps v) ∷ shape_findings (shape_in v) (list_at Pps v)

parts_then : (a b c d rest : List Finding) (o : Finding)
    → (a ++ (b ++ (c ++ (d ++ o ∷ [])))) ++ rest ≡ a ++ (b ++ (c ++ (d ++ o ∷ rest)))
parts_then a b c d rest o = simp append_assoc

all_findings : (v : Data) → dhat_fault v ≡ first_of (front_findings v ++ points_behind v)
unfolding dhat_fault
all_findings v =
    sym (ap first_of
    (parts_then (head_findings v) (unit_findings v) (run_findings v) (table_findings v) (points_behind v)
    (needed as_list None Pps v)))

refused : (v : Data) (fault : DhatFault) → dhat_fault v ≡ Some fault → dhat_in v ≡ Err fault
unfolding dhat_in
refused v fault found = ap (λ (o : Finding). unless_fault o (profile_in v)) found

pub refused_in_front : (v : Data) (fault : DhatFault) → first_of (front_findings v) ≡ Some fault → dhat_in v ≡ Err fault
refused_in_front v fault found =
    refused v fault (all_findings v ∙ first_stays (front_findings v) (points_behind v) fault found)

pub refused_in_points : (v : Data) (fault : DhatFault) → first_of (front_findings v) ≡ None
    → first_of (points_behind v) ≡ Some fault → dhat_in v ≡ Err fault
refused_in_points v fault front found =
    refused v fault (all_findings v ∙ first_later (front_findings v) (points_behind v) front ∙ found)

pub taken : (v : Data) → first_of (front_findings v) ≡ None → first_of (points_behind v) ≡ None
    → dhat_in v ≡ Ok (profile_in v)
unfolding dhat_in
taken v front points =
    ap (λ (o : Finding). unless_fault o (profile_in v))
    (all_findings v ∙ first_later (front_findings v) (points_behind v) front ∙ points)

-- ---- what was gathered is the answer

shape_by : (shape : Shape) (v : Data) → shape.bklt ≡ flag_at Bklt v → shape.bkacc ≡ flag_at Bkacc v
    → shape.frames ≡ length (list_at Ftbl v) → shape ≡ shape_in v
shape_by shape v bklt bkacc frames =
    ap (λ (b : Bool). record { bklt = b; bkacc = shape.bkacc; frames = shape.frames }) bklt
    ∙ ap (λ (b : Bool). record { bklt = flag_at Bklt v; bkacc = b; frames = shape.frames }) bkacc
    ∙ ap (λ (n : ℕ). record { bklt = flag_at Bklt v; bkacc = flag_at Bkacc v; frames = n }) frames

-- what a profile says of all points is what its value says of them
pub shape_is : (shape : Shape) (front : Front) (v : Data) → shape.bklt ≡ front.head.bklt
    → shape.bkacc ≡ front.head.bkacc → shape.frames ≡ length front.ftbl → front ≡ front_in v → shape ≡ shape_in v
shape_is shape front v bklt bkacc frames is =
    shape_by shape v (bklt ∙ ap (λ (f : Front). f.head.bklt) is) (bkacc ∙ ap (λ (f : Front). f.head.bkacc) is)
    (frames ∙ ap (λ (f : Front). length f.ftbl) is ∙ length-map (list_at Ftbl v) text_in)

abbrev shaped : Gathered → Data → Gathered
shaped gathered v = record gathered { shape = shape_in v }

within : (v : Data) (gathered : Gathered) (b : Bool) → ltb (length (list_at Pps v)) (2 ^ 32 - 1) ≡ b
    → HasGathered (shaped gathered v) (list_at Pps v) → gathered.count ≢ 2 ^ 32 - 1
    → length (list_at Pps v) < 2 ^ 32 - 1
within v gathered true e h few = ltb-true _ _ e
within v gathered false e h few = absurd (few (h.full (ltb-false _ _ e)))

pub too_many_points : (v : Data) (gathered : Gathered) → first_of (front_findings v) ≡ None
    → HasGathered (shaped gathered v) (list_at Pps v) → gathered.count ≡ 2 ^ 32 - 1 → dhat_in v ≡ Err TooMany
too_many_points v gathered front h full = at (ltb (length (list_at Pps v)) (2 ^ 32 - 1)) refl
  where
    at : (b : Bool) → ltb (length (list_at Pps v)) (2 ^ 32 - 1) ≡ b → dhat_in v ≡ Err TooMany
    at true e = let lt = ltb-true _ _ e in absurd (omega (arith, h.count lt, full, lt))
    at false e = refused_in_points v TooMany front (rw e refl)

few_points : (v : Data) → length (list_at Pps v) < 2 ^ 32 - 1
    → first_of (points_behind v) ≡ first_of (shape_findings (shape_in v) (list_at Pps v))
few_points v lt =
    passed_then (too_many (list_at Pps v)) (shape_findings (shape_in v) (list_at Pps v)) (rw (lt-ltb _ _ lt) refl)

pub faulty_point : (v : Data) (gathered : Gathered) (fault : DhatFault) → first_of (front_findings v) ≡ None
    → HasGathered (shaped gathered v) (list_at Pps v) → gathered.count ≢ 2 ^ 32 - 1 → gathered.fault ≡ Some fault
    → UnlessNoMemory fault (dhat_in v ≡ Err fault)
faulty_point v gathered fault front h few is =
    let lt = within v gathered _ refl h few in
    let found =
    subst (λ (o : Finding). FaultIs o (first_of (shape_findings (shape_in v) (list_at Pps v)))) is (h.fault lt) in
    fault_follows _ _ fault found (λ e. refused_in_points v fault front (few_points v lt ∙ e))

pub all_points : (v : Data) (front : Front) (gathered : Gathered) → IsFront front v
    → HasGathered (shaped gathered v) (list_at Pps v) → gathered.count ≢ 2 ^ 32 - 1 → gathered.fault ≡ None
    → dhat_in v ≡ Ok (joined front gathered.points)
all_points v front gathered is h few none =
    let lt = within v gathered _ refl h few in
    let found =
    subst (λ (o : Finding). FaultIs o (first_of (shape_findings (shape_in v) (list_at Pps v)))) none (h.fault lt) in
    let joined-is : joined front gathered.points ≡ profile_in v = ap₂ joined is.says (h.points lt none) in
    taken v is.none (few_points v lt ∙ found) ∙ ap Ok (sym joined-is)
