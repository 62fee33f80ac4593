-- Where a value says a profile, no check finds anything, and that profile is read.
use Rattle.std.proofs.Common.{◌≡◌, ℕ, suc, ◌-◌, ◌^◌, ◌<◌, List, [], ◌∷◌, length, map, All, Bool, true, false, cond}
use Rattle.std.proofs.Common.{Option, Some, None, Ok, refl, sym, ap, ◌∙◌, subst, rules}
use Rattle.std.specs.Prelude.{IsSome, IfSome, is_some, unwrap_or}
use Rattle.std.specs.Option.{option_map, option_and_then}
use Rattle.std.specs.List.{AllZip}
use Rattle.std.proofs.lemmas.Bool.{lt-ltb}
use Rattle.std.proofs.lemmas.List.{length-map}
use Rattle.std.proofs.lemmas.List.Elements.{All-nil, All-cons}
use Rattle.serde_json.specs.Data.{Data, Items, array, string, boolean}
use Rattle.serde_json.specs.Find.{as_object, as_array, as_str, as_bool}
use Rattle.serde_json.specs.View.{items_of}
use Rattle.dhat_json.specs.declared.fault.DhatFault.TheVariants.{WrongKind}
use Rattle.dhat_json.specs.declared.key.Key.{Key}
use Rattle.dhat_json.specs.declared.key.Key.TheVariants.{Bklt, Bkacc, Ftbl, Pps, Tb, Tbk, Fs}
use Rattle.dhat_json.specs.declared.profile.Life.{Life}
use Rattle.dhat_json.specs.declared.profile.Access.{Access}
use Rattle.dhat_json.specs.declared.profile.Point.{Point}
use Rattle.dhat_json.specs.declared.profile.Dhat.{Dhat}
use Rattle.dhat_json.specs.DhatFault.{Finding, needed_value, optional_value, other_kind, version_value, no_object}
use Rattle.dhat_json.specs.DhatFault.{life_findings, access_findings, pair_findings, frames_findings, frame_finding}
use Rattle.dhat_json.specs.DhatFault.{point_findings, points_findings, head_findings, unit_findings, run_findings}
use Rattle.dhat_json.specs.DhatFault.{table_findings, all_points_findings, listed_points_findings, dhat_findings}
use Rattle.dhat_json.specs.DhatFault.{dhat_fault, too_many}
use Rattle.dhat_json.specs.DhatValue.{whole}
use Rattle.dhat_json.specs.Document.{dhat_in, unless_fault}
use Rattle.dhat_json.specs.IsDhat.{IsOptional, SaysLife, SaysAccess, IsPart, is_point, is_dhat}
use Rattle.dhat_json.specs.IsSound.{IsSoundPoint, IsSound}
use Rattle.dhat_json.specs.Kinds.{as_whole, as_list, list_of}
use Rattle.dhat_json.specs.ProfileIn.{text_in, whole_in, list_at, flag_at, life_in, access_in, part_in, point_in}
use Rattle.dhat_json.specs.ProfileIn.{profile_in}
use Rattle.dhat_json.proofs.ProfileFindings.{units_on, run_on, table_on}
use Rattle.dhat_json.proofs.KindLemmas.{AllNone, first_none, none_both, texts_found, texts_again, frames_found}
use Rattle.dhat_json.proofs.KindLemmas.{frames_again}
use Rattle.dhat_json.proofs.ValueLists.{list_of_items}

-- ---- single keys

text_found : (point : Option ℕ) (key : Key) (o : Option Data) (text : List ℕ) → o ≡ Some (string text)
    → needed_value as_str point key o ≡ None
text_found point key o text e = rw e refl

flag_found : (point : Option ℕ) (key : Key) (o : Option Data) (flag : Bool) → o ≡ Some (boolean flag)
    → needed_value as_bool point key o ≡ None
flag_found point key o flag e = rw e refl

whole_found : (point : Option ℕ) (key : Key) (o : Option Data) (n : ℕ) → o ≡ Some (whole n)
    → needed_value as_whole point key o ≡ None
whole_found point key o n e = rw e refl

list_found : (point : Option ℕ) (key : Key) (o : Option Data) (ds : List Data) → o ≡ Some (array (items_of ds))
    → needed_value as_list point key o ≡ None
list_found point key o ds e = rw e refl

optional_text_found : (point : Option ℕ) (key : Key) (o : Option Data) (text : Option (List ℕ))
    → IsOptional string o text → optional_value as_str point key o ≡ None
optional_text_found point key o None e = rw e refl
optional_text_found point key o (Some text) e = rw e refl

optional_whole_found : (point : Option ℕ) (key : Key) (o : Option Data) (n : Option ℕ) → IsOptional whole o n
    → optional_value as_whole point key o ≡ None
optional_whole_found point key o None e = rw e refl
optional_whole_found point key o (Some n) e = rw e refl

text_again : (o : Option Data) (text : List ℕ) → o ≡ Some (string text) → unwrap_or (option_and_then as_str o) [] ≡ text
text_again o text e = rw e refl

flag_again : (o : Option Data) (flag : Bool) → o ≡ Some (boolean flag)
    → unwrap_or (option_and_then as_bool o) false ≡ flag
flag_again o flag e = rw e refl

whole_again : (o : Option Data) (n : ℕ) → o ≡ Some (whole n) → unwrap_or (option_and_then as_whole o) 0 ≡ n
whole_again o n e = rw e refl

list_again : (o : Option Data) (ds : List Data) → o ≡ Some (array (items_of ds))
    → unwrap_or (option_and_then as_list o) [] ≡ ds
list_again o ds e = rw e (list_of_items ds)

optional_text_again : (o : Option Data) (text : Option (List ℕ)) → IsOptional string o text
    → option_and_then as_str o ≡ text
optional_text_again o None e = rw e refl
optional_text_again o (Some text) e = rw e refl

optional_whole_again : (o : Option Data) (n : Option ℕ) → IsOptional whole o n → option_and_then as_whole o ≡ n
optional_whole_again o None e = rw e refl
optional_whole_again o (Some n) e = rw e refl

acc_found : (point : Option ℕ) (key : Key) (o : Option Data) → IfSome o (λ counts. IsSome (as_array counts))
    → optional_value as_list point key o ≡ None
acc_found point key None h = refl
acc_found point key (Some d) h = found (as_array d) h
  where
    found : (o : Option Items) → is_some o ≡ true
        → cond {A = Finding} (is_some (option_map list_of o)) None (Some (WrongKind point key)) ≡ None
    found None e = absurd cc
    found (Some ds) e = refl

-- ---- points

life_found : (bklt : Bool) (point : ℕ) (d : Data) (life : Option Life) → IsPart (SaysLife d) bklt life
    → AllNone (life_findings bklt point d)
life_found false point d life h = tt
life_found true point d None h = absurd h
life_found true point d (Some life) h = search (rules, whole_found)

access_found : (bkacc : Bool) (point : ℕ) (d : Data) (access : Option Access) → IsPart (SaysAccess d) bkacc access
    → AllNone (access_findings bkacc point d)
access_found false point d access h = tt
access_found true point d None h = absurd h
access_found true point d (Some access) h = search (rules, whole_found, acc_found)

object_found : (point : Option ℕ) (key : Key) (d : Data) → IsSome (as_object d)
    → other_kind as_object point key d ≡ None
object_found point key d h = rw h refl

-- nothing is found in a point that says one
point_found : (bklt bkacc : Bool) (frames n : ℕ) (d : Data) (point : Point) → is_point bklt bkacc frames d point
    → AllNone (point_findings bklt bkacc frames n d)
point_found bklt bkacc frames n d point h =
    let fs = list_again _ (map whole point.fs) h.fs in
    let in_table : AllNone (map (frame_finding n frames) (list_at Fs d)) =
    subst (λ (ds : List Data). AllNone (map (frame_finding n frames) ds)) (sym fs)
    (frames_found n frames point.fs h.in_table) in (
      object_found (Some n) Pps d h.object,
      none_both (pair_findings n Tb Tbk d) _
          (whole_found (Some n) Tb _ point.tb h.tb, (whole_found (Some n) Tbk _ point.tbk h.tbk, tt))
          (none_both (life_findings bklt n d) _ (life_found bklt n d point.life h.life)
          (none_both (access_findings bkacc n d) (frames_findings n frames d)
          (access_found bkacc n d point.access h.access)
          (list_found (Some n) Fs _ (map whole point.fs) h.fs, in_table))),
    )

points_found : (bklt bkacc : Bool) (frames n : ℕ) (ds : List Data) (points : List Point)
    → AllZip (is_point bklt bkacc frames) ds points → AllNone (points_findings bklt bkacc frames n ds)
points_found bklt bkacc frames n [] [] h = tt
points_found bklt bkacc frames n [] (point ∷ points) h = absurd h
points_found bklt bkacc frames n (d ∷ ds) [] h = absurd h
points_found bklt bkacc frames n (d ∷ ds) (point ∷ points) h = (
  first_none (point_findings bklt bkacc frames n d) (point_found bklt bkacc frames n d point h.0),
  points_found bklt bkacc frames (suc n) ds points h.1,
)

-- what is read from it is that point

abbrev make_same_life : ℕ → ℕ → ℕ → ℕ → ℕ → ℕ → ℕ → Life
make_same_life tl mb mbk gb gbk eb ebk = record { tl = tl; mb = mb; mbk = mbk; gb = gb; gbk = gbk; eb = eb; ebk = ebk }

same_life : (tl tl' : ℕ) (mb mb' : ℕ) (mbk mbk' : ℕ) (gb gb' : ℕ) (gbk gbk' : ℕ) (eb eb' : ℕ) (ebk ebk' : ℕ) → tl ≡ tl'
    → mb ≡ mb' → mbk ≡ mbk' → gb ≡ gb' → gbk ≡ gbk' → eb ≡ eb' → ebk ≡ ebk'
    → make_same_life tl mb mbk gb gbk eb ebk ≡ make_same_life tl' mb' mbk' gb' gbk' eb' ebk'
same_life tl tl' mb mb' mbk mbk' gb gb' gbk gbk' eb eb' ebk ebk' e0 e1 e2 e3 e4 e5 e6 =
    rw (e0, e1, e2, e3, e4, e5, e6) refl

part_again : {A : Type 0} (Says : A → Type 0) (told : Bool) (here : A) (part : Option A) → IsPart Says told part
    → ((found : A) → Says found → here ≡ found) → part_in told here ≡ part
part_again Says false here None h same = refl
part_again Says false here (Some found) h same = absurd h
part_again Says true here None h same = absurd h
part_again Says true here (Some found) h same = ap Some (same found h)

life_again : (d : Data) (life : Life) → SaysLife d life → life_in d ≡ life
life_again d life h =
    same_life _ life.tl _ life.mb _ life.mbk _ life.gb _ life.gbk _ life.eb _ life.ebk
    (whole_again _ life.tl h.tl) (whole_again _ life.mb h.mb) (whole_again _ life.mbk h.mbk)
    (whole_again _ life.gb h.gb) (whole_again _ life.gbk h.gbk) (whole_again _ life.eb h.eb)
    (whole_again _ life.ebk h.ebk)

abbrev make_access : ℕ → ℕ → Access
make_access rb wb = record { rb = rb; wb = wb }

same_access : (rb rb' wb wb' : ℕ) → rb ≡ rb' → wb ≡ wb' → make_access rb wb ≡ make_access rb' wb'
same_access rb rb' wb wb' e f = rw (e, f) refl

access_again : (d : Data) (access : Access) → SaysAccess d access → access_in d ≡ access
access_again d access h =
    same_access _ access.rb _ access.wb (whole_again _ access.rb h.rb) (whole_again _ access.wb h.wb)

abbrev make_same_point : ℕ → ℕ → Option Life → Option Access → List ℕ → Point
make_same_point tb tbk life access fs = record { tb = tb; tbk = tbk; life = life; access = access; fs = fs }

same_point : (tb tb' : ℕ) (tbk tbk' : ℕ) (life life' : Option Life) (access access' : Option Access) (fs fs' : List ℕ)
    → tb ≡ tb' → tbk ≡ tbk' → life ≡ life' → access ≡ access' → fs ≡ fs'
    → make_same_point tb tbk life access fs ≡ make_same_point tb' tbk' life' access' fs'
same_point tb tb' tbk tbk' life life' access access' fs fs' e0 e1 e2 e3 e4 = rw (e0, e1, e2, e3, e4) refl

point_again : (bklt bkacc : Bool) (frames : ℕ) (d : Data) (point : Point) → is_point bklt bkacc frames d point
    → point_in bklt bkacc d ≡ point
point_again bklt bkacc frames d point h =
    let fs : map whole_in (list_at Fs d) ≡ point.fs =
    ap (map whole_in) (list_again _ (map whole point.fs) h.fs) ∙ frames_again point.fs in
    same_point _ point.tb _ point.tbk _ point.life _ point.access _ point.fs (whole_again _ point.tb h.tb)
    (whole_again _ point.tbk h.tbk) (part_again (SaysLife d) bklt (life_in d) point.life h.life (life_again d))
    (part_again (SaysAccess d) bkacc (access_in d) point.access h.access (access_again d)) fs

both : (p q : Point) (ps qs : List Point) → p ≡ q → ps ≡ qs → p ∷ ps ≡ q ∷ qs
both p q ps qs e f = rw (e, f) refl

points_again : (bklt bkacc : Bool) (frames : ℕ) (ds : List Data) (points : List Point)
    → AllZip (is_point bklt bkacc frames) ds points → map (point_in bklt bkacc) ds ≡ points
points_again bklt bkacc frames [] [] h = refl
points_again bklt bkacc frames [] (point ∷ points) h = absurd h
points_again bklt bkacc frames (d ∷ ds) [] h = absurd h
points_again bklt bkacc frames (d ∷ ds) (point ∷ points) h =
    both _ _ _ _ (point_again bklt bkacc frames d point h.0) (points_again bklt bkacc frames ds points h.1)

-- ---- the profile

version_found : (o : Option Data) → o ≡ Some (whole 2) → version_value o ≡ None
version_found o e = rw e refl

version_stands : (point : Option ℕ) (key : Key) (o : Option Data) (d : Data) → o ≡ Some d
    → needed_value Some point key o ≡ None
version_stands point key o d e = rw e refl

object_is : (v : Data) → IsSome (as_object v) → no_object v ≡ None
object_is v h = rw h refl

few_found : (ds : List Data) → length ds < 2 ^ 32 - 1 → too_many ds ≡ None
few_found ds lt = rw (lt-ltb (length ds) (2 ^ 32 - 1) lt) refl

head_found : (v : Data) (d : Dhat) → is_dhat v d → AllNone (head_findings v)
head_found v d h = search (rules, object_is, version_found, version_stands, text_found, flag_found)

units_found : (v : Data) (d : Dhat) → is_dhat v d → AllNone (unit_findings v)
units_found v d h = search (rules, optional_text_found, text_found, optional_whole_found)

run_found : (v : Data) (d : Dhat) → is_dhat v d → AllNone (run_findings v)
run_found v d h = search (rules, text_found, whole_found, optional_whole_found)

table_found : (v : Data) (d : Dhat) → is_dhat v d → AllNone (table_findings v)
table_found v d h =
    let entries = list_again _ (map string d.ftbl) h.ftbl in (
      list_found None Ftbl _ (map string d.ftbl) h.ftbl,
      subst (λ (ds : List Data). AllNone (map (other_kind as_str None Ftbl) ds)) (sym entries) (texts_found d.ftbl),
    )

-- the length of the table as the points are judged by it
table_length : (v : Data) (d : Dhat) → is_dhat v d → length (list_at Ftbl v) ≡ length d.ftbl
table_length v d h = ap length (list_again _ (map string d.ftbl) h.ftbl) ∙ length-map d.ftbl string

listed_found : (bklt bkacc : Bool) (frames : ℕ) (v : Data) (d : Dhat) (h : is_dhat v d) → bklt ≡ d.bklt
    → bkacc ≡ d.bkacc → frames ≡ length d.ftbl → AllNone (listed_points_findings bklt bkacc frames v)
listed_found bklt bkacc frames v d h bklt-is bkacc-is frames-is =
    let ds-is = list_again _ h.points h.pps in
    let P : List Data → Type 0 = λ ds. AllNone (points_findings bklt bkacc frames 0 ds) in
    let same : AllZip (is_point bklt bkacc frames) h.points d.pps = rw (bklt-is, bkacc-is, frames-is) h.same in (
      list_found None Pps _ h.points h.pps,
      (
        few_found (list_at Pps v) (subst (λ (ds : List Data). length ds < 2 ^ 32 - 1) (sym ds-is) h.few),
        subst P (sym ds-is) (points_found bklt bkacc frames 0 h.points d.pps same),
      ),
    )

-- nothing is found where a value says a profile
pub none_found : (v : Data) (d : Dhat) → is_dhat v d → dhat_fault v ≡ None
unfolding dhat_fault
none_found v d h =
    first_none (dhat_findings v)
    (none_both (head_findings v) (units_on v) (head_found v d h)
    (none_both (unit_findings v) (run_on v) (units_found v d h)
    (none_both (run_findings v) (table_on v) (run_found v d h)
    (none_both (table_findings v) (all_points_findings v) (table_found v d h)
    (listed_found (flag_at Bklt v) (flag_at Bkacc v) (length (list_at Ftbl v)) v d h (flag_again _ d.bklt h.bklt)
    (flag_again _ d.bkacc h.bkacc) (table_length v d h))))))

abbrev make_same_dhat : List ℕ → List ℕ → Bool → Bool → Option (List ℕ) → Option (List ℕ) → Option (List ℕ) → List ℕ
    → List ℕ → Option ℕ → List ℕ → ℕ → ℕ → Option ℕ → List Point → List (List ℕ) → Dhat
make_same_dhat mode verb bklt bkacc bu bsu bksu tu mtu tuth cmd pid te tg pps ftbl =
    record {
      mode = mode;
      verb = verb;
      bklt = bklt;
      bkacc = bkacc;
      bu = bu;
      bsu = bsu;
      bksu = bksu;
      tu = tu;
      mtu = mtu;
      tuth = tuth;
      cmd = cmd;
      pid = pid;
      te = te;
      tg = tg;
      pps = pps;
      ftbl = ftbl;
    }

same_dhat : (mode mode' : List ℕ) (verb verb' : List ℕ) (bklt bklt' : Bool) (bkacc bkacc' : Bool)
    (bu bu' : Option (List ℕ)) (bsu bsu' : Option (List ℕ)) (bksu bksu' : Option (List ℕ)) (tu tu' : List ℕ)
    (mtu mtu' : List ℕ) (tuth tuth' : Option ℕ) (cmd cmd' : List ℕ) (pid pid' : ℕ) (te te' : ℕ) (tg tg' : Option ℕ)
    (pps pps' : List Point) (ftbl ftbl' : List (List ℕ))
    → mode ≡ mode' → verb ≡ verb' → bklt ≡ bklt' → bkacc ≡ bkacc' → bu ≡ bu' → bsu ≡ bsu' → bksu ≡ bksu' → tu ≡ tu'
    → mtu ≡ mtu' → tuth ≡ tuth' → cmd ≡ cmd' → pid ≡ pid' → te ≡ te' → tg ≡ tg' → pps ≡ pps' → ftbl ≡ ftbl'
    → make_same_dhat mode verb bklt bkacc bu bsu bksu tu mtu tuth cmd pid te tg pps ftbl
    ≡ make_same_dhat mode' verb' bklt' bkacc' bu' bsu' bksu' tu' mtu' tuth' cmd' pid' te' tg' pps' ftbl'
same_dhat mode mode' verb verb' bklt bklt' bkacc bkacc' bu bu' bsu bsu' bksu bksu' tu tu' mtu mtu' tuth tuth' cmd cmd'
    pid pid' te te' tg tg' pps pps' ftbl ftbl' e0 e1 e2 e3 e4 e5 e6 e7 e8 e9 e10 e11 e12 e13 e14 e15 = rw
    (e0, e1, e2, e3, e4, e5, e6, e7, e8, e9, e10, e11, e12, e13, e14, e15) refl

points_are : (bklt bkacc : Bool) (v : Data) (d : Dhat) (h : is_dhat v d) → bklt ≡ d.bklt → bkacc ≡ d.bkacc
    → map (point_in bklt bkacc) (list_at Pps v) ≡ d.pps
points_are bklt bkacc v d h bklt-is bkacc-is =
    rw (bklt-is, bkacc-is)
    (ap (map (point_in d.bklt d.bkacc)) (list_again _ h.points h.pps)
    ∙ points_again d.bklt d.bkacc (length d.ftbl) h.points d.pps h.same)

table_is : (v : Data) (d : Dhat) → is_dhat v d → map text_in (list_at Ftbl v) ≡ d.ftbl
table_is v d h = ap (map text_in) (list_again _ (map string d.ftbl) h.ftbl) ∙ texts_again d.ftbl

pub profile_is : (v : Data) (d : Dhat) → is_dhat v d → profile_in v ≡ d
profile_is v d h =
    same_dhat _ d.mode _ d.verb _ d.bklt _ d.bkacc _ d.bu _ d.bsu _ d.bksu _ d.tu _ d.mtu _ d.tuth _ d.cmd _ d.pid _
    d.te _ d.tg _ d.pps _ d.ftbl
    (text_again _ d.mode h.mode) (text_again _ d.verb h.verb) (flag_again _ d.bklt h.bklt)
    (flag_again _ d.bkacc h.bkacc)
    (optional_text_again _ d.bu h.bu) (optional_text_again _ d.bsu h.bsu) (optional_text_again _ d.bksu h.bksu)
    (text_again _ d.tu h.tu) (text_again _ d.mtu h.mtu) (optional_whole_again _ d.tuth h.tuth)
    (text_again _ d.cmd h.cmd) (whole_again _ d.pid h.pid) (whole_again _ d.te h.te) (optional_whole_again _ d.tg h.tg)
    (points_are (flag_at Bklt v) (flag_at Bkacc v) v d h (flag_again _ d.bklt h.bklt) (flag_again _ d.bkacc h.bkacc))
    (table_is v d h)

pub is_taken : (v : Data) (d : Dhat) → is_dhat v d → dhat_in v ≡ Ok d
unfolding dhat_in
is_taken v d h = ap (λ (o : Finding). unless_fault o (profile_in v)) (none_found v d h) ∙ ap Ok (profile_is v d h)

pub one_profile : (v : Data) (p q : Dhat) → is_dhat v p → is_dhat v q → p ≡ q
one_profile v p q h k = sym (profile_is v p h) ∙ profile_is v q k

-- ---- what such a profile is like

part_told : {A : Type 0} (Says : A → Type 0) (told : Bool) (part : Option A) → IsPart Says told part
    → is_some part ≡ told
part_told Says false None h = refl
part_told Says false (Some part) h = absurd h
part_told Says true None h = absurd h
part_told Says true (Some part) h = refl

points_sound : (bklt bkacc : Bool) (frames : ℕ) (ds : List Data) (points : List Point)
    → AllZip (is_point bklt bkacc frames) ds points
    → All (IsSoundPoint bklt bkacc frames) points × (length points ≡ length ds)
points_sound bklt bkacc frames [] [] h = (All-nil (IsSoundPoint bklt bkacc frames), refl)
points_sound bklt bkacc frames [] (point ∷ points) h = absurd h
points_sound bklt bkacc frames (d ∷ ds) [] h = absurd h
points_sound bklt bkacc frames (d ∷ ds) (point ∷ points) h =
    let later = points_sound bklt bkacc frames ds points h.1 in
    let sound : IsSoundPoint bklt bkacc frames point =
    record {
      life = part_told (SaysLife d) bklt point.life h.0.life;
      access = part_told (SaysAccess d) bkacc point.access h.0.access;
      in_table = h.0.in_table;
    } in
    (All-cons (IsSoundPoint bklt bkacc frames) point points sound later.0, ap suc later.1)

pub is_sound : (v : Data) (d : Dhat) → is_dhat v d → IsSound d
is_sound v d h =
    let points = points_sound d.bklt d.bkacc (length d.ftbl) h.points d.pps h.same in
    record { few = rw points.1 h.few; points = points.0 }
