-- The value of a profile says that profile.
use Rattle.std.proofs.Common.{◌≡◌, ℕ, ◌<◌, List, [], ◌∷◌, length, map, All, Bool, Option, Some, None, refl, sym, ◌∙◌}
use Rattle.std.proofs.Common.{subst}
use Rattle.std.specs.Prelude.{codes, is_some}
use Rattle.std.specs.Option.{option_map}
use Rattle.std.specs.List.{AllZip}
use Rattle.std.proofs.lemmas.List.{length-map}
use Rattle.std.proofs.lemmas.List.Elements.{All-head, All-tail}
use Rattle.serde_json.specs.Data.{Data, string, array, Members, member, no_members}
use Rattle.serde_json.specs.Find.{get_member}
use Rattle.serde_json.specs.View.{items_of}
use Rattle.dhat_json.specs.declared.profile.Life.{Life}
use Rattle.dhat_json.specs.declared.profile.Access.{Access}
use Rattle.dhat_json.specs.declared.profile.Point.{Point}
use Rattle.dhat_json.specs.declared.profile.Dhat.{Dhat}
use Rattle.dhat_json.specs.DhatValue.{whole, optional, optional_text, optional_whole, point_value, dhat_value}
use Rattle.dhat_json.specs.IsDhat.{IsOptional, is_point, is_dhat}
use Rattle.dhat_json.specs.IsSound.{IsSoundPoint, IsSound}

-- ---- points

abbrev the_point : ℕ → ℕ → Option Life → Option Access → List ℕ → Point
the_point tb tbk life access fs = record { tb = tb; tbk = tbk; life = life; access = access; fs = fs }

parts_say : (frames tb tbk : ℕ) (life : Option Life) (access : Option Access) (fs : List ℕ)
    → All (λ frame. frame < frames) fs
    → is_point (is_some life) (is_some access) frames (point_value (the_point tb tbk life access fs))
    (the_point tb tbk life access fs)
parts_say frames tb tbk None None fs h =
    record { object = refl; tb = refl; tbk = refl; life = tt; access = tt; fs = refl; in_table = h }
parts_say frames tb tbk (Some life) None fs h = record {
  object = refl;
  tb = refl;
  tbk = refl;
  life = record { tl = refl; mb = refl; mbk = refl; gb = refl; gbk = refl; eb = refl; ebk = refl };
  access = tt;
  fs = refl;
  in_table = h;
}
parts_say frames tb tbk None (Some access) fs h =
    record {
      object = refl;
      tb = refl;
      tbk = refl;
      life = tt;
      access = record { rb = refl; wb = refl; acc = tt };
      fs = refl;
      in_table = h;
    }
parts_say frames tb tbk (Some life) (Some access) fs h = record {
  object = refl;
  tb = refl;
  tbk = refl;
  life = record { tl = refl; mb = refl; mbk = refl; gb = refl; gbk = refl; eb = refl; ebk = refl };
  access = record { rb = refl; wb = refl; acc = tt };
  fs = refl;
  in_table = h;
}

-- a point's value says it
point_says : (bklt bkacc : Bool) (frames : ℕ) (point : Point) → IsSoundPoint bklt bkacc frames point
    → is_point bklt bkacc frames (point_value point) point
point_says bklt bkacc frames point h =
    subst (λ (told : Bool). is_point told bkacc frames (point_value point) point) h.life
    (subst (λ (told : Bool). is_point (is_some point.life) told frames (point_value point) point) h.access
    (parts_say frames point.tb point.tbk point.life point.access point.fs h.in_table))

points_say : (bklt bkacc : Bool) (frames : ℕ) (points : List Point) → All (IsSoundPoint bklt bkacc frames) points
    → AllZip (is_point bklt bkacc frames) (map point_value points) points
points_say bklt bkacc frames [] h = tt
points_say bklt bkacc frames (point ∷ points) h = (
  point_says bklt bkacc frames point (All-head (IsSoundPoint bklt bkacc frames) point points h),
  points_say bklt bkacc frames points (All-tail (IsSoundPoint bklt bkacc frames) point points h),
)

-- ---- the profile

-- a key that is looked for passes over another
abbrev Apart : List ℕ → List ℕ → Type 0
Apart k l = (d : Data) (rest : Members) → get_member k (member l d rest) ≡ get_member k rest

passes : (k l : List ℕ) (o : Option Data) (rest : Members) → Apart k l
    → get_member k (optional l o rest) ≡ get_member k rest
passes k l None rest apart = refl
passes k l (Some d) rest apart = apart d rest

-- a key that is looked for is found
abbrev Found : List ℕ → Type 0
Found k = (d : Data) (rest : Members) → get_member k (member k d rest) ≡ Some d

text_there : (k : List ℕ) (text : Option (List ℕ)) (rest : Members) → Found k → get_member k rest ≡ None
    → IsOptional string (get_member k (optional_text k text rest)) text
text_there k None rest found none = none
text_there k (Some text) rest found none = found (string text) rest

whole_there : (k : List ℕ) (n : Option ℕ) (rest : Members) → Found k → get_member k rest ≡ None
    → IsOptional whole (get_member k (optional_whole k n rest)) n
whole_there k None rest found none = none
whole_there k (Some n) rest found none = found (whole n) rest

abbrev pub verb_on : Dhat → Members
verb_on d = member (codes "verb") (string d.verb) no_members

abbrev pub tuth_on : Dhat → Members
tuth_on d = optional_whole (codes "tuth") d.tuth (verb_on d)

abbrev pub tu_on : Dhat → Members
tu_on d = member (codes "tu") (string d.tu) (tuth_on d)

abbrev pub tg_on : Dhat → Members
tg_on d = optional_whole (codes "tg") d.tg (tu_on d)

abbrev pub cmd_on : Dhat → Members
cmd_on d =
    member (codes "cmd") (string d.cmd)
    (member (codes "dhatFileVersion") (whole 2)
    (member (codes "ftbl") (array (items_of (map string d.ftbl)))
    (member (codes "mode") (string d.mode)
    (member (codes "pid") (whole d.pid)
    (member (codes "pps") (array (items_of (map point_value d.pps)))
    (member (codes "te") (whole d.te) (tg_on d)))))))

abbrev pub bu_on : Dhat → Members
bu_on d = optional_text (codes "bu") d.bu (cmd_on d)

abbrev pub bsu_on : Dhat → Members
bsu_on d = optional_text (codes "bsu") d.bsu (bu_on d)

abbrev pub bksu_on : Dhat → Members
bksu_on d = optional_text (codes "bksu") d.bksu (bsu_on d)

-- the optional units are passed over
past_units : (k : List ℕ) (d : Dhat) → Apart k (codes "bksu") → Apart k (codes "bsu") → Apart k (codes "bu")
    → get_member k (bksu_on d) ≡ get_member k (cmd_on d)
past_units k d bksu bsu bu =
    passes k (codes "bksu") (option_map string d.bksu) (bsu_on d) bksu
    ∙ passes k (codes "bsu") (option_map string d.bsu) (bu_on d) bsu
    ∙ passes k (codes "bu") (option_map string d.bu) (cmd_on d) bu

-- and so are the optional times
past_tg : (k : List ℕ) (d : Dhat) → Apart k (codes "tg") → get_member k (tg_on d) ≡ get_member k (tu_on d)
past_tg k d tg = passes k (codes "tg") (option_map whole d.tg) (tu_on d) tg

past_tuth : (k : List ℕ) (d : Dhat) → Apart k (codes "tuth") → get_member k (tuth_on d) ≡ get_member k (verb_on d)
past_tuth k d tuth = passes k (codes "tuth") (option_map whole d.tuth) (verb_on d) tuth

IsOptional-same : {A : Type 0} (spelled : A → Data) (o p : Option Data) (x : Option A) → o ≡ p → IsOptional spelled p x
    → IsOptional spelled o x
IsOptional-same spelled o p x e h = subst (λ (q : Option Data). IsOptional spelled q x) (sym e) h

pub value_says : (d : Dhat) → IsSound d → is_dhat (dhat_value d) d
unfolding dhat_value
value_says d sound = record {
  object = refl;
  version = past_units (codes "dhatFileVersion") d (λ e rest. refl) (λ e rest. refl) (λ e rest. refl);
  mode = past_units (codes "mode") d (λ e rest. refl) (λ e rest. refl) (λ e rest. refl);
  verb =
      past_units (codes "verb") d (λ e rest. refl) (λ e rest. refl) (λ e rest. refl)
      ∙ past_tg (codes "verb") d (λ e rest. refl) ∙ past_tuth (codes "verb") d (λ e rest. refl);
  bklt = refl;
  bkacc = refl;
  bu =
      IsOptional-same string _ (get_member (codes "bu") (bu_on d)) d.bu
      (passes (codes "bu") (codes "bksu") (option_map string d.bksu) (bsu_on d) (λ e rest. refl)
      ∙ passes (codes "bu") (codes "bsu") (option_map string d.bsu) (bu_on d) (λ e rest. refl))
      (text_there (codes "bu") d.bu (cmd_on d) (λ e rest. refl)
      (past_tg (codes "bu") d (λ e rest. refl) ∙ past_tuth (codes "bu") d (λ e rest. refl)));
  bsu =
      IsOptional-same string _ (get_member (codes "bsu") (bsu_on d)) d.bsu
      (passes (codes "bsu") (codes "bksu") (option_map string d.bksu) (bsu_on d) (λ e rest. refl))
      (text_there (codes "bsu") d.bsu (bu_on d) (λ e rest. refl)
      (passes (codes "bsu") (codes "bu") (option_map string d.bu) (cmd_on d) (λ e rest. refl)
      ∙ past_tg (codes "bsu") d (λ e rest. refl) ∙ past_tuth (codes "bsu") d (λ e rest. refl)));
  bksu = text_there (codes "bksu") d.bksu (bsu_on d) (λ e rest. refl)
      (passes (codes "bksu") (codes "bsu") (option_map string d.bsu) (bu_on d) (λ e rest. refl)
      ∙ passes (codes "bksu") (codes "bu") (option_map string d.bu) (cmd_on d) (λ e rest. refl)
      ∙ past_tg (codes "bksu") d (λ e rest. refl) ∙ past_tuth (codes "bksu") d (λ e rest. refl));
  tu =
      past_units (codes "tu") d (λ e rest. refl) (λ e rest. refl) (λ e rest. refl)
      ∙ past_tg (codes "tu") d (λ e rest. refl);
  mtu = refl;
  tuth =
      IsOptional-same whole _ (get_member (codes "tuth") (tuth_on d)) d.tuth
      (past_units (codes "tuth") d (λ e rest. refl) (λ e rest. refl) (λ e rest. refl)
      ∙ past_tg (codes "tuth") d (λ e rest. refl))
      (whole_there (codes "tuth") d.tuth (verb_on d) (λ e rest. refl) refl);
  cmd = past_units (codes "cmd") d (λ e rest. refl) (λ e rest. refl) (λ e rest. refl);
  pid = past_units (codes "pid") d (λ e rest. refl) (λ e rest. refl) (λ e rest. refl);
  te = past_units (codes "te") d (λ e rest. refl) (λ e rest. refl) (λ e rest. refl);
  tg =
      IsOptional-same whole _ (get_member (codes "tg") (tg_on d)) d.tg
      (past_units (codes "tg") d (λ e rest. refl) (λ e rest. refl) (λ e rest. refl))
      (whole_there (codes "tg") d.tg (tu_on d) (λ e rest. refl) (past_tuth (codes "tg") d (λ e rest. refl)));
  ftbl = past_units (codes "ftbl") d (λ e rest. refl) (λ e rest. refl) (λ e rest. refl);
  points = map point_value d.pps;
  pps = past_units (codes "pps") d (λ e rest. refl) (λ e rest. refl) (λ e rest. refl);
  same = points_say d.bklt d.bkacc (length d.ftbl) d.pps sound.points;
  few = rw (length-map d.pps point_value) sound.few;
}
