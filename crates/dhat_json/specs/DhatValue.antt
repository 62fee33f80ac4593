-- The value of a profile has its keys in the order of their bytes, and its text has no blank
-- between.
use Rattle.std.specs.Prelude.{ℕ, List, map, Option, Some, None, codes}
use Rattle.std.specs.Option.{option_map}
use Rattle.serde_json.specs.Data.{Data, boolean, number, string, array, object, unsigned, Members, member, no_members}
use Rattle.serde_json.specs.View.{items_of}
use Rattle.serde_json.specs.Written.{compact_text}
use Rattle.dhat_json.specs.declared.profile.Life.{Life}
use Rattle.dhat_json.specs.declared.profile.Access.{Access}
use Rattle.dhat_json.specs.declared.profile.Point.{Point}
use Rattle.dhat_json.specs.declared.profile.Dhat.{Dhat}

abbrev pub whole : ℕ → Data
whole n = number (unsigned n)

-- lists of texts and of whole numbers
abbrev pub texts_data : List (List ℕ) → Data
texts_data texts = array (items_of (map string texts))

abbrev pub wholes_data : List ℕ → Data
wholes_data numbers = array (items_of (map whole numbers))

-- a member with a value, and no member where there is no value
abbrev pub optional : List ℕ → Option Data → Members → Members
optional key None rest = rest
optional key (Some d) rest = member key d rest

abbrev pub optional_text : List ℕ → Option (List ℕ) → Members → Members
optional_text key text = optional key (option_map string text)

abbrev pub optional_whole : List ℕ → Option ℕ → Members → Members
optional_whole key n = optional key (option_map whole n)

-- a figure of the lifetimes, and one of the accesses
abbrev pub life_member : List ℕ → (Life → ℕ) → Option Life → Members → Members
life_member key figure life = optional_whole key (option_map figure life)

abbrev pub access_member : List ℕ → (Access → ℕ) → Option Access → Members → Members
access_member key figure access = optional_whole key (option_map figure access)

abbrev pub point_members : Point → Members
point_members point =
    life_member (codes "eb") (λ life. life.eb) point.life
    (life_member (codes "ebk") (λ life. life.ebk) point.life
    (member (codes "fs") (wholes_data point.fs)
    (life_member (codes "gb") (λ life. life.gb) point.life
    (life_member (codes "gbk") (λ life. life.gbk) point.life
    (life_member (codes "mb") (λ life. life.mb) point.life
    (life_member (codes "mbk") (λ life. life.mbk) point.life
    (access_member (codes "rb") (λ access. access.rb) point.access
    (member (codes "tb") (whole point.tb)
    (member (codes "tbk") (whole point.tbk)
    (life_member (codes "tl") (λ life. life.tl) point.life
    (access_member (codes "wb") (λ access. access.wb) point.access no_members)))))))))))

abbrev pub point_value : Point → Data
point_value point = object (point_members point)

abbrev pub dhat_members : Dhat → Members
dhat_members dhat =
    member (codes "Mtu") (string dhat.mtu)
    (member (codes "bkacc") (boolean dhat.bkacc)
    (member (codes "bklt") (boolean dhat.bklt)
    (optional_text (codes "bksu") dhat.bksu
    (optional_text (codes "bsu") dhat.bsu
    (optional_text (codes "bu") dhat.bu
    (member (codes "cmd") (string dhat.cmd)
    (member (codes "dhatFileVersion") (whole 2)
    (member (codes "ftbl") (texts_data dhat.ftbl)
    (member (codes "mode") (string dhat.mode)
    (member (codes "pid") (whole dhat.pid)
    (member (codes "pps") (array (items_of (map point_value dhat.pps)))
    (member (codes "te") (whole dhat.te)
    (optional_whole (codes "tg") dhat.tg
    (member (codes "tu") (string dhat.tu)
    (optional_whole (codes "tuth") dhat.tuth
    (member (codes "verb") (string dhat.verb) no_members))))))))))))))))

unfoldable pub dhat_value : Dhat → Data
dhat_value dhat = object (dhat_members dhat)

-- the compact text of the value, with no space
unfoldable pub dhat_text : Dhat → List ℕ
dhat_text dhat = compact_text (dhat_value dhat)
