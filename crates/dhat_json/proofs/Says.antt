-- A value of which no check found anything says the profile that is read from it.
use Rattle.std.proofs.Common.{◌≡◌, ℕ, suc, ◌-◌, ◌^◌, ◌<◌, List, [], ◌∷◌, ◌++◌, length, map, Bool, true, false, cond}
use Rattle.std.proofs.Common.{Option, Some, None, Ok, refl, sym, ap, ◌∙◌, subst, ltb, rules}
use Rattle.std.specs.List.{AllZip}
use Rattle.std.proofs.lemmas.Bool.{ltb-true}
use Rattle.std.proofs.lemmas.List.{length-map}
use Rattle.serde_json.specs.Data.{Data, array}
use Rattle.serde_json.specs.Find.{as_object}
use Rattle.serde_json.specs.View.{items_of}
use Rattle.dhat_json.specs.declared.fault.DhatFault.{DhatFault}
use Rattle.dhat_json.specs.declared.fault.DhatFault.TheVariants.{TooMany}
use Rattle.dhat_json.specs.declared.key.Key.TheVariants.{Mode, Verb, Bklt, Bkacc, Bu, Bsu, Bksu, Tu, Mtu, Tuth}
use Rattle.dhat_json.specs.declared.key.Key.TheVariants.{Cmd, Pid, Te, Tg, Ftbl, Pps, Tb, Tbk, Rb, Wb, Acc, Fs}
use Rattle.dhat_json.specs.declared.profile.Dhat.{Dhat}
use Rattle.dhat_json.specs.DhatFault.{Finding, life_findings, access_findings, pair_findings, frames_findings}
use Rattle.dhat_json.specs.DhatFault.{point_findings, points_findings, head_findings, unit_findings, run_findings}
use Rattle.dhat_json.specs.DhatFault.{table_findings, all_points_findings, dhat_findings, dhat_fault}
use Rattle.dhat_json.specs.Document.{dhat_in, unless_fault}
use Rattle.dhat_json.specs.IsDhat.{SaysLife, SaysAccess, IsPart, is_point, is_dhat}
use Rattle.dhat_json.specs.ProfileIn.{text_in, list_at, flag_at, life_in, access_in, part_in, point_in, profile_in}
use Rattle.dhat_json.proofs.ProfileFindings.{units_on, run_on, table_on}
use Rattle.dhat_json.proofs.KindLemmas.{AllNone, none_first, none_left, none_right, text_stands, flag_stands}
use Rattle.dhat_json.proofs.KindLemmas.{whole_stands, list_stands, optional_text_stands, optional_whole_stands, kind_is}
use Rattle.dhat_json.proofs.KindLemmas.{texts_stand, frames_stand, frames_below, acc_is, kind_is_object, version_is}

life_says : (bklt : Bool) (point : ℕ) (d : Data) → AllNone (life_findings bklt point d)
    → IsPart (SaysLife d) bklt (part_in bklt (life_in d))
life_says false point d h = tt
life_says true point d h = search (rules, whole_stands)

access_says : (bkacc : Bool) (point : ℕ) (d : Data) → AllNone (access_findings bkacc point d)
    → IsPart (SaysAccess d) bkacc (part_in bkacc (access_in d))
access_says false point d h = tt
access_says true point d h = record {
  rb = whole_stands (Some point) Rb _ h.0;
  wb = whole_stands (Some point) Wb _ h.1.0;
  acc = acc_is (Some point) Acc _ h.1.1.0;
}

point_says : (bklt bkacc : Bool) (frames point : ℕ) (d : Data) → AllNone (point_findings bklt bkacc frames point d)
    → is_point bklt bkacc frames d (point_in bklt bkacc d)
point_says bklt bkacc frames point d h =
    let access_on = access_findings bkacc point d ++ frames_findings point frames d in
    let life_on = life_findings bklt point d ++ access_on in
    let counts = none_left (pair_findings point Tb Tbk d) life_on h.1 in
    let later = none_right (pair_findings point Tb Tbk d) life_on h.1 in
    let life = none_left (life_findings bklt point d) access_on later in
    let behind = none_right (life_findings bklt point d) access_on later in
    let access = none_left (access_findings bkacc point d) (frames_findings point frames d) behind in
    let fs = none_right (access_findings bkacc point d) (frames_findings point frames d) behind in record {
      object = kind_is as_object (Some point) Pps d h.0;
      tb = whole_stands (Some point) Tb _ counts.0;
      tbk = whole_stands (Some point) Tbk _ counts.1.0;
      life = life_says bklt point d life;
      access = access_says bkacc point d access;
      fs =
          list_stands (Some point) Fs _ fs.0
          ∙ ap (λ (ds : List Data). Some (array (items_of ds))) (sym (frames_stand point frames (list_at Fs d) fs.1));
      in_table = frames_below point frames (list_at Fs d) fs.1;
    }

points_say : (bklt bkacc : Bool) (frames point : ℕ) (ds : List Data)
    → AllNone (points_findings bklt bkacc frames point ds)
    → AllZip (is_point bklt bkacc frames) ds (map (point_in bklt bkacc) ds)
points_say bklt bkacc frames point [] h = tt
points_say bklt bkacc frames point (d ∷ ds) h = (
  point_says bklt bkacc frames point d (none_first (point_findings bklt bkacc frames point d) h.0),
  points_say bklt bkacc frames (suc point) ds h.1,
)

few_points : (n most : ℕ) (b : Bool) (fault : DhatFault) → ltb n most ≡ b
    → cond {A = Finding} b None (Some fault) ≡ None → n < most
few_points n most true fault lt e = ltb-true n most lt
few_points n most false fault lt e = absurd cc

-- the profile that is read is what the value says
pub profile_says : (v : Data) → dhat_fault v ≡ None → is_dhat v (profile_in v)
unfolding dhat_fault
profile_says v none =
    let all = none_first (dhat_findings v) none in
    let head = none_left (head_findings v) (units_on v) all in
    let from_units = none_right (head_findings v) (units_on v) all in
    let units = none_left (unit_findings v) (run_on v) from_units in
    let from_run = none_right (unit_findings v) (run_on v) from_units in
    let ran = none_left (run_findings v) (table_on v) from_run in
    let from_table = none_right (run_findings v) (table_on v) from_run in
    let table = none_left (table_findings v) (all_points_findings v) from_table in
    let points = none_right (table_findings v) (all_points_findings v) from_table in
    let entries = list_at Ftbl v in
    let n-is : length (list_at Ftbl v) ≡ length (map text_in entries) = sym (length-map entries text_in) in record {
      object = kind_is_object v head.0;
      version = version_is _ head.1.0 head.1.1.0;
      mode = text_stands None Mode _ head.1.1.1.0;
      verb = text_stands None Verb _ head.1.1.1.1.0;
      bklt = flag_stands None Bklt _ head.1.1.1.1.1.0;
      bkacc = flag_stands None Bkacc _ head.1.1.1.1.1.1.0;
      bu = optional_text_stands None Bu _ units.0;
      bsu = optional_text_stands None Bsu _ units.1.0;
      bksu = optional_text_stands None Bksu _ units.1.1.0;
      tu = text_stands None Tu _ units.1.1.1.0;
      mtu = text_stands None Mtu _ units.1.1.1.1.0;
      tuth = optional_whole_stands None Tuth _ units.1.1.1.1.1.0;
      cmd = text_stands None Cmd _ ran.0;
      pid = whole_stands None Pid _ ran.1.0;
      te = whole_stands None Te _ ran.1.1.0;
      tg = optional_whole_stands None Tg _ ran.1.1.1.0;
      ftbl =
          list_stands None Ftbl _ table.0
          ∙ ap (λ (ds : List Data). Some (array (items_of ds))) (sym (texts_stand entries table.1));
      points = list_at Pps v;
      pps = list_stands None Pps _ points.0;
      same =
          subst (λ (n : ℕ). AllZip (is_point (flag_at Bklt v) (flag_at Bkacc v) n) (list_at Pps v)
          (map (point_in (flag_at Bklt v) (flag_at Bkacc v)) (list_at Pps v))) n-is
          (points_say (flag_at Bklt v) (flag_at Bkacc v) (length entries) 0 (list_at Pps v) points.1.1);
      few =
          few_points (length (list_at Pps v)) (2 ^ 32 - 1) (ltb (length (list_at Pps v)) (2 ^ 32 - 1)) TooMany refl
          points.1.0;
    }

fault_none : (o : Option DhatFault) (p d : Dhat) → unless_fault o p ≡ Ok d → (o ≡ None) × (p ≡ d)
fault_none None p d e = (refl, cc)
fault_none (Some fault) p d e = absurd cc

pub taken_says : (v : Data) (d : Dhat) → dhat_in v ≡ Ok d → is_dhat v d
unfolding dhat_in
taken_says v d e = let h = fault_none (dhat_fault v) (profile_in v) d e in subst (is_dhat v) h.1 (profile_says v h.0)
