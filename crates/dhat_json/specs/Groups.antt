-- The members of a profile and of a point in groups, for private clauses. What follows a group is its last argument.
use Rattle.std.specs.Prelude.{List, map, codes}
use Rattle.serde_json.specs.Data.{boolean, string, array, Members, member}
use Rattle.serde_json.specs.View.{items_of}
use Rattle.dhat_json.specs.declared.profile.Point.{Point}
use Rattle.dhat_json.specs.declared.profile.Dhat.{Dhat}
use Rattle.dhat_json.specs.DhatValue.{whole, optional_text, optional_whole, life_member, access_member, point_value}
use Rattle.dhat_json.specs.DhatValue.{texts_data, wholes_data}

abbrev pub unit_members : Dhat → Members → Members
unit_members dhat rest =
    member (codes "Mtu") (string dhat.mtu)
    (member (codes "bkacc") (boolean dhat.bkacc)
    (member (codes "bklt") (boolean dhat.bklt)
    (optional_text (codes "bksu") dhat.bksu
    (optional_text (codes "bsu") dhat.bsu
    (optional_text (codes "bu") dhat.bu rest)))))

abbrev pub run_members : Dhat → Members → Members
run_members dhat rest =
    member (codes "cmd") (string dhat.cmd)
    (member (codes "dhatFileVersion") (whole 2)
    (member (codes "ftbl") (texts_data dhat.ftbl)
    (member (codes "mode") (string dhat.mode)
    (member (codes "pid") (whole dhat.pid) rest))))

abbrev pub points_member : List Point → Members → Members
points_member points rest = member (codes "pps") (array (items_of (map point_value points))) rest

-- the members behind the points: the times, their unit and threshold, and the verb
abbrev pub time_members : Dhat → Members → Members
time_members dhat rest =
    member (codes "te") (whole dhat.te)
    (optional_whole (codes "tg") dhat.tg
    (member (codes "tu") (string dhat.tu)
    (optional_whole (codes "tuth") dhat.tuth
    (member (codes "verb") (string dhat.verb) rest))))

-- up to the frames
abbrev pub first_members : Point → Members → Members
first_members point rest =
    life_member (codes "eb") (λ life. life.eb) point.life
    (life_member (codes "ebk") (λ life. life.ebk) point.life
    (member (codes "fs") (wholes_data point.fs) rest))

-- the figures at the peak of the profile and at their own
abbrev pub peak_members : Point → Members → Members
peak_members point rest =
    life_member (codes "gb") (λ life. life.gb) point.life
    (life_member (codes "gbk") (λ life. life.gbk) point.life
    (life_member (codes "mb") (λ life. life.mb) point.life
    (life_member (codes "mbk") (λ life. life.mbk) point.life rest)))

abbrev pub count_members : Point → Members → Members
count_members point rest =
    access_member (codes "rb") (λ access. access.rb) point.access
    (member (codes "tb") (whole point.tb)
    (member (codes "tbk") (whole point.tbk) rest))

abbrev pub last_members : Point → Members → Members
last_members point rest =
    life_member (codes "tl") (λ life. life.tl) point.life
    (access_member (codes "wb") (λ access. access.wb) point.access rest)
