-- What is asked of the outline of a document is what is asked of the document.
use Rattle.std.proofs.Common.{◌≡◌, ℕ, List, [], ◌∷◌, ◌++◌, Bool, true, false, map, Option, Some, None, refl, sym, ap}
use Rattle.std.proofs.Common.{◌∙◌, bytes_eq, true≢false}
use Rattle.std.specs.Prelude.{codes, is_some, unwrap_or}
use Rattle.std.specs.Borrow.{Bor}
use Rattle.std.specs.declared.alloc.Global.{Global}
use Rattle.std.specs.Option.{option_map, option_and_then}
use Rattle.std.proofs.lemmas.Slice.Eq.{bytes_eq-Decides}
use Rattle.json.specs.Value.{members_view}
use Rattle.json.specs.declared.value.Value.{Value}
use Rattle.serde_json.specs.Data.{Data, null, boolean, number, string, array, object, Members, put}
use Rattle.serde_json.specs.Find.{get, get_member, as_str, as_bool}
use Rattle.serde_json.proofs.Views.{get_member-put, get_member-put_other}
use Rattle.dhat_json.specs.declared.key.Key.{Key}
use Rattle.dhat_json.specs.declared.key.Key.TheVariants.{DhatFileVersion, Mode, Verb, Bklt, Bkacc, Bu, Bsu, Bksu, Tu}
use Rattle.dhat_json.specs.declared.key.Key.TheVariants.{Mtu, Tuth, Cmd, Pid, Te, Tg, Ftbl, Pps}
use Rattle.dhat_json.specs.declared.parts.Front.{Front}
use Rattle.dhat_json.specs.DataOf.{data_of, members_data}
use Rattle.dhat_json.specs.DhatFault.{Finding, needed_value, optional_value, version_value, needed, allowed, no_object}
use Rattle.dhat_json.specs.DhatFault.{other_kind, other_version}
use Rattle.dhat_json.specs.Front.{front_findings, front_in}
use Rattle.dhat_json.specs.KeyName.{key_name}
use Rattle.dhat_json.specs.Kinds.{as_whole, as_list}
use Rattle.dhat_json.specs.Outline.{hollow, IsOutline}
use Rattle.dhat_json.specs.ProfileIn.{found, text_at, whole_at, flag_at, list_at, text_in}

-- ---- kinds of a value without its parts

pub hollow_twice : (d : Data) → hollow (hollow d) ≡ hollow d
hollow_twice null = refl
hollow_twice _ = refl

-- a kind that asks for no part
abbrev pub IsShallow : {A : Type 0} → (Data → Option A) → Type 0
IsShallow kind = (d : Data) → kind (hollow d) ≡ kind d

shallow_text : IsShallow as_str
shallow_text (string s) = refl
shallow_text _ = refl

shallow_flag : IsShallow as_bool
shallow_flag (boolean b) = refl
shallow_flag _ = refl

shallow_whole : IsShallow as_whole
shallow_whole (number n) = refl
shallow_whole _ = refl

-- whether it is of the kind
abbrev AsksShallow : {A : Type 0} → (Data → Option A) → Type 0
AsksShallow kind = (d : Data) → is_some (kind (hollow d)) ≡ is_some (kind d)

asks_list : AsksShallow as_list
asks_list (array ds) = refl
asks_list _ = refl

asks : {A : Type 0} (kind : Data → Option A) → IsShallow kind → AsksShallow kind
asks kind same d = ap is_some (same d)

needed_hollow : {A : Type 0} (kind : Data → Option A) (point : Option ℕ) (key : Key) (o : Option Data)
    → AsksShallow kind → needed_value kind point key (option_map hollow o) ≡ needed_value kind point key o
needed_hollow kind point key None same = refl
needed_hollow kind point key (Some d) same = rw (same d) refl

optional_hollow : {A : Type 0} (kind : Data → Option A) (point : Option ℕ) (key : Key) (o : Option Data)
    → AsksShallow kind → optional_value kind point key (option_map hollow o) ≡ optional_value kind point key o
optional_hollow kind point key None same = refl
optional_hollow kind point key (Some d) same = rw (same d) refl

version_hollow : (o : Option Data) → version_value (option_map hollow o) ≡ version_value o
version_hollow None = refl
version_hollow (Some d) = rw (shallow_whole d) refl

found_hollow : {A : Type 0} (kind : Data → Option A) (o : Option Data) → IsShallow kind
    → option_and_then kind (option_map hollow o) ≡ option_and_then kind o
found_hollow kind None same = refl
found_hollow kind (Some d) same = same d

abbrev front_of : List ℕ → List ℕ → Bool → Bool → Option (List ℕ) → Option (List ℕ) → Option (List ℕ) → List ℕ → List ℕ
    → Option ℕ → List ℕ → ℕ → ℕ → Option ℕ → List (List ℕ) → Front
front_of mode verb bklt bkacc bu bsu bksu tu mtu tuth cmd pid te tg ftbl = record {
  head = record { mode = mode; verb = verb; bklt = bklt; bkacc = bkacc };
  units =
      record { block = record { bu = bu; bsu = bsu; bksu = bksu }; time = record { tu = tu; mtu = mtu; tuth = tuth } };
  run = record { cmd = cmd; pid = pid; te = te; tg = tg };
  ftbl = ftbl;
}

made : {mode mode' verb verb' : List ℕ} {bklt bklt' bkacc bkacc' : Bool} {bu bu' bsu bsu' bksu bksu' : Option
    (List ℕ)} {tu tu' mtu mtu' : List ℕ} {tuth tuth' : Option ℕ} {cmd cmd' : List ℕ} {pid pid' te te' : ℕ} {tg
    tg' : Option ℕ} {ftbl ftbl' : List (List ℕ)}
    → mode ≡ mode' → verb ≡ verb' → bklt ≡ bklt' → bkacc ≡ bkacc' → bu ≡ bu' → bsu ≡ bsu' → bksu ≡ bksu' → tu ≡ tu'
    → mtu ≡ mtu' → tuth ≡ tuth' → cmd ≡ cmd' → pid ≡ pid' → te ≡ te' → tg ≡ tg' → ftbl ≡ ftbl'
    → front_of mode verb bklt bkacc bu bsu bksu tu mtu tuth cmd pid te tg ftbl
    ≡ front_of mode' verb' bklt' bkacc' bu' bsu' bksu' tu' mtu' tuth' cmd' pid' te' tg' ftbl'
made a b c d e f g h i j k l m n o = rw (a, b, c, d, e, f, g, h, i, j, k, l, m, n, o) refl

-- ---- keys of the outline

module _ (v d : Data) (is : IsOutline v d) where
  needed_same : {A : Type 0} (kind : Data → Option A) (key : Key) → AsksShallow kind
      → needed kind None key v ≡ needed kind None key d
  needed_same kind key same =
      sym (needed_hollow kind None key (get (key_name key) v) same) ∙ ap (needed_value kind None key) (is.others key)
      ∙ needed_hollow kind None key (get (key_name key) d) same

  allowed_same : {A : Type 0} (kind : Data → Option A) (key : Key) → AsksShallow kind
      → allowed kind None key v ≡ allowed kind None key d
  allowed_same kind key same =
      sym (optional_hollow kind None key (get (key_name key) v) same)
      ∙ ap (optional_value kind None key) (is.others key) ∙ optional_hollow kind None key (get (key_name key) d) same

  version_same : other_version v ≡ other_version d
  version_same =
      sym (version_hollow (get (key_name DhatFileVersion) v)) ∙ ap version_value (is.others DhatFileVersion)
      ∙ version_hollow (get (key_name DhatFileVersion) d)

  found_same : {A : Type 0} (kind : Data → Option A) (key : Key) → IsShallow kind → found kind key v ≡ found kind key d
  found_same kind key same =
      sym (found_hollow kind (get (key_name key) v) same) ∙ ap (option_and_then kind) (is.others key)
      ∙ found_hollow kind (get (key_name key) d) same

  text_same : (key : Key) → text_at key v ≡ text_at key d
  text_same key = ap (λ (o : Option (List ℕ)). unwrap_or o []) (found_same as_str key shallow_text)

  flag_same : (key : Key) → flag_at key v ≡ flag_at key d
  flag_same key = ap (λ (o : Option Bool). unwrap_or o false) (found_same as_bool key shallow_flag)

  whole_same : (key : Key) → whole_at key v ≡ whole_at key d
  whole_same key = ap (λ (o : Option ℕ). unwrap_or o 0) (found_same as_whole key shallow_whole)

  table_same : list_at Ftbl v ≡ list_at Ftbl d
  table_same = ap (λ (o : Option Data). unwrap_or (option_and_then as_list o) []) is.table

  object_same : no_object v ≡ no_object d
  object_same = rw is.object refl

  listed : (xs ys : List Finding) (a b : Finding) → a ≡ b → xs ≡ ys → a ∷ xs ≡ b ∷ ys
  listed xs ys a b first later = ap (λ (o : Finding). o ∷ xs) first ∙ ap (λ (os : List Finding). b ∷ os) later

  pub findings_same : front_findings v ≡ front_findings d
  findings_same =
      let points : needed as_list None Pps v ∷ [] ≡ needed as_list None Pps d ∷ [] =
      listed [] [] _ _ (needed_same as_list Pps asks_list) refl in
      let texts : map (other_kind as_str None Ftbl) (list_at Ftbl v)
      ≡ map (other_kind as_str None Ftbl) (list_at Ftbl d) = ap (map (other_kind as_str None Ftbl)) table_same in
      let table =
      listed _ _ _ _ (needed_same as_list Ftbl asks_list)
      (ap (λ (os : List Finding). os ++ needed as_list None Pps v ∷ []) texts
      ∙ ap (λ (os : List Finding). map (other_kind as_str None Ftbl) (list_at Ftbl d) ++ os) points) in
      let text = asks as_str shallow_text in
      let flag = asks as_bool shallow_flag in
      let whole = asks as_whole shallow_whole in
      let run =
      listed _ _ _ _ (needed_same as_str Cmd text)
      (listed _ _ _ _ (needed_same as_whole Pid whole)
      (listed _ _ _ _ (needed_same as_whole Te whole) (listed _ _ _ _ (allowed_same as_whole Tg whole) table))) in
      let time =
      listed _ _ _ _ (needed_same as_str Tu text)
      (listed _ _ _ _ (needed_same as_str Mtu text) (listed _ _ _ _ (allowed_same as_whole Tuth whole) run)) in
      let units =
      listed _ _ _ _ (allowed_same as_str Bu text)
      (listed _ _ _ _ (allowed_same as_str Bsu text) (listed _ _ _ _ (allowed_same as_str Bksu text) time)) in
      let flags =
      listed _ _ _ _ (needed_same as_bool Bklt flag) (listed _ _ _ _ (needed_same as_bool Bkacc flag) units) in
      let texts' =
      listed _ _ _ _ (needed_same as_str Mode text) (listed _ _ _ _ (needed_same as_str Verb text) flags) in
      listed _ _ _ _ object_same
      (listed _ _ _ _ version_same (listed _ _ _ _ (needed_same Some DhatFileVersion (λ e. refl)) texts'))

  pub front_same : front_in v ≡ front_in d
  front_same = made (text_same Mode) (text_same Verb) (flag_same Bklt) (flag_same Bkacc)
      (found_same as_str Bu shallow_text) (found_same as_str Bsu shallow_text) (found_same as_str Bksu shallow_text)
      (text_same Tu) (text_same Mtu) (found_same as_whole Tuth shallow_whole)
      (text_same Cmd) (whole_same Pid) (whole_same Te) (found_same as_whole Tg shallow_whole)
      (ap (map text_in) table_same)

-- ---- a member more

-- what is asked of a key is the same where it was, and where the value that was put is
pub put_same : {X : Type 0} (ask : Option Data → X) (k name : List ℕ) (e d : Data) (outline found : Members)
    → (name ≡ k → ask (Some e) ≡ ask (Some d)) → ask (get_member k outline) ≡ ask (get_member k found)
    → ask (get_member k (put name e outline)) ≡ ask (get_member k (put name d found))
put_same {X = X} ask k name e d outline found here before = at (bytes_eq name k) refl
  where
    at : (b : Bool) → bytes_eq name k ≡ b
        → ask (get_member k (put name e outline)) ≡ ask (get_member k (put name d found))
    at true same = let is : name ≡ k = (bytes_eq-Decides name k).0 same in
        rw (← is) (ap ask (get_member-put name e outline) ∙ here is ∙ sym (ap ask (get_member-put name d found)))
    at false other =
        let apart : k ≡ name → ⊥ = λ is. true≢false (sym ((bytes_eq-Decides name k).1 (sym is)) ∙ other) in
        ap ask (get_member-put_other k name e outline apart) ∙ before
        ∙ sym (ap ask (get_member-put_other k name d found apart))

pub outline_put : (name : List ℕ) (e d : Data) (outline found : Members) → hollow e ≡ hollow d
    → (name ≡ codes "ftbl" → e ≡ d) → IsOutline (object outline) (object found)
    → IsOutline (object (put name e outline)) (object (put name d found))
outline_put name e d outline found alike same is = record {
  object = refl;
  table =
      put_same (λ (o : Option Data). o) (codes "ftbl") name e d outline found (λ here. ap Some (same here)) is.table;
  others =
      λ key. put_same (option_map hollow) (key_name key) name e d outline found (λ here. ap Some alike) (is.others key);
}

pub data_push : (xs : List (Bor (List ℕ) × Value Global)) (m : Bor (List ℕ) × Value Global) (found : Members)
    → members_data (members_view (xs ++ m ∷ [])) found
    ≡ put m.0.now (data_of m.1) (members_data (members_view xs) found)
data_push [] m found = refl
data_push (x ∷ xs) m found = data_push xs m (put x.0.now (data_of x.1) found)

-- ---- the points of an object

abbrev listed_in : Option Data → List Data
listed_in o = unwrap_or (option_and_then as_list o) []

pub points_kept : (name : List ℕ) (d : Data) (found : Members) → (name ≡ codes "pps" → ⊥)
    → list_at Pps (object (put name d found)) ≡ list_at Pps (object found)
points_kept name d found other = ap listed_in (get_member-put_other (codes "pps") name d found (λ is. other (sym is)))

pub points_put : (name : List ℕ) (d : Data) (found : Members) → name ≡ codes "pps"
    → list_at Pps (object (put name d found)) ≡ unwrap_or (as_list d) []
points_put name d found is = rw is (ap listed_in (get_member-put (codes "pps") d found))
