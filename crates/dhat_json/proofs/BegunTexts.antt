-- The text of a profile whose points come one by one.
use Rattle.std.proofs.Common.{◌≡◌, ℕ, ◌+◌, ◌<◌, List, [], ◌∷◌, ◌++◌, codes, get_or, length, map, take, sym, ap, ◌∙◌}
use Rattle.std.proofs.Common.{subst, append_assoc, append-nil}
use Rattle.std.proofs.lemmas.List.{take_more}
use Rattle.json.specs.Token.{Token, begin_array, begin_object, end_array, end_object, key}
use Rattle.json.specs.Tree.{items_tokens, json_tokens, members_tokens}
use Rattle.json.specs.Written.{Written}
use Rattle.serde_json.specs.Data.{no_members}
use Rattle.serde_json.specs.View.{items_of}
use Rattle.serde_json.specs.Written.{items_outline, members_outline, outline}
use Rattle.dhat_json.specs.declared.profile.Dhat.{Dhat}
use Rattle.dhat_json.specs.declared.profile.Point.{Point}
use Rattle.dhat_json.specs.Adds.{Adds, AddsValue, Fits, MembersFit, before_rest}
use Rattle.dhat_json.specs.Begun.{HasBegun, HasTimes, IsWhole, rest_tokens, with_points}
use Rattle.dhat_json.specs.DhatValue.{dhat_value, point_value}
use Rattle.dhat_json.specs.Groups.{points_member, run_members, time_members, unit_members}

-- what stands before the points
pub begun_none : (dhat : Dhat) (none opened last keyed now : Written) → none.before ≡ [] → none.tokens ≡ []
    → opened.before ≡ none.before → opened.tokens ≡ none.tokens ++ begin_object ∷ []
    → Adds opened last (λ rest. unit_members dhat (run_members dhat rest))
    → keyed.before ≡ last.before → keyed.tokens ≡ last.tokens ++ key (codes "pps") ∷ []
    → now.before ≡ keyed.before → now.tokens ≡ keyed.tokens ++ begin_array ∷ []
    → HasBegun now (with_points dhat [])
unfolding dhat_value
begun_none dhat none opened last keyed now empty no_token kept-1 opens added kept-2 keys kept-3 begins = record {
  before = kept-3 ∙ kept-2 ∙ added.before ∙ kept-1 ∙ empty;
  tokens = λ more.
      let rest = points_member more (time_members dhat no_members) in
      let left : List Token = rest_tokens dhat more in
      let front : opened.tokens ≡ begin_object ∷ [] =
      opens ∙ ap (λ (ts : List Token). ts ++ begin_object ∷ []) no_token in
      let whole : begin_object ∷ members_tokens (members_outline (unit_members dhat (run_members dhat rest)))
      ≡ before_rest last.tokens rest =
      ap (λ (ts : List Token). ts ++ members_tokens (members_outline (unit_members dhat (run_members dhat rest))))
      (sym front)
      ∙ added.tokens rest in
      let here : now.tokens ≡ (last.tokens ++ key (codes "pps") ∷ []) ++ begin_array ∷ [] =
      begins ∙ ap (λ (ts : List Token). ts ++ begin_array ∷ []) keys in
      whole ∙ sym (append_assoc last.tokens (key (codes "pps") ∷ []) (begin_array ∷ left))
      ∙ sym (append_assoc (last.tokens ++ key (codes "pps") ∷ []) (begin_array ∷ []) left)
      ∙ ap (λ (ts : List Token). ts ++ left) (sym here);
  fits = λ more items times. added.fits (points_member more (time_members dhat no_members)) (items, times);
}

-- a point more
pub begun_more : (now next : Written) (dhat : Dhat) (point : Point) → HasBegun now dhat
    → AddsValue now next (point_value point) → HasBegun next (with_points dhat (dhat.pps ++ point ∷ []))
begun_more now next dhat point begun added = record {
  before = added.before ∙ begun.before;
  tokens = λ more.
      ap (λ (points : List Point). json_tokens (outline (dhat_value (with_points dhat points))))
      (append_assoc dhat.pps (point ∷ []) more)
      ∙ begun.tokens (point ∷ more)
      ∙ ap (λ (ts : List Token). now.tokens ++ ts)
      (append_assoc (json_tokens (outline (point_value point)))
      (items_tokens (items_outline (items_of (map point_value more))))
      (members_tokens (members_outline (time_members dhat no_members))))
      ∙ sym (append_assoc now.tokens (json_tokens (outline (point_value point))) (rest_tokens dhat more))
      ∙ ap (λ (ts : List Token). ts ++ rest_tokens dhat more) (sym added.tokens);
  fits = λ more items times.
      subst (λ (points : List Point). Fits (dhat_value (with_points dhat points)))
      (sym (append_assoc dhat.pps (point ∷ []) more)) (begun.fits (point ∷ more) (added.fits, items) times);
}

-- so many points of a list, and one more
pub begun_next : (now next : Written) (dhat : Dhat) (points : List Point) (count : ℕ) (point : Point)
    → count < length points → get_or points count point ≡ point
    → HasBegun now (with_points dhat (dhat.pps ++ take count points)) → AddsValue now next (point_value point)
    → HasBegun next (with_points dhat (dhat.pps ++ take (count + 1) points))
begun_next now next dhat points count point within is begun added =
    let longer : take (count + 1) points ≡ take count points ++ point ∷ [] =
    take_more points count point within ∙ ap (λ (p : Point). take count points ++ p ∷ []) is in
    let all : (dhat.pps ++ take count points) ++ point ∷ [] ≡ dhat.pps ++ take (count + 1) points =
    append_assoc dhat.pps (take count points) (point ∷ []) ∙ ap (λ (ps : List Point). dhat.pps ++ ps) (sym longer) in
    subst (λ (ps : List Point). HasBegun next (with_points dhat ps)) all
    (begun_more now next (with_points dhat (dhat.pps ++ take count points)) point begun added)

pub begun_ended : (now closed behind last : Written) (dhat head : Dhat) → HasBegun now dhat → HasTimes head dhat
    → closed.before ≡ now.before → closed.tokens ≡ now.tokens ++ end_array ∷ []
    → Adds closed behind (time_members head)
    → last.before ≡ behind.before → last.tokens ≡ behind.tokens ++ end_object ∷ []
    → IsWhole last dhat
begun_ended now closed behind last dhat head begun times kept-1 closes added kept-2 ends = record {
  before = kept-2 ∙ added.before ∙ kept-1 ∙ begun.before;
  tokens = ends ∙ sym (added.tokens no_members)
      ∙ ap (λ ms. closed.tokens ++ members_tokens (members_outline ms)) (sym times)
      ∙ ap (λ (ts : List Token). ts ++ members_tokens (members_outline (time_members dhat no_members))) closes
      ∙ append_assoc now.tokens (end_array ∷ []) (members_tokens (members_outline (time_members dhat no_members)))
      ∙ sym (begun.tokens [])
      ∙ ap (λ (points : List Point). json_tokens (outline (dhat_value (with_points dhat points))))
      (append-nil dhat.pps);
  fits = subst (λ (points : List Point). Fits (dhat_value (with_points dhat points))) (append-nil dhat.pps)
      (begun.fits [] tt (subst MembersFit (sym times) (added.fits no_members tt)));
}

-- all points of a profile behind none
pub begun_all : (none now : Written) (dhat : Dhat) (points : List Point) → points ≡ dhat.pps
    → HasBegun none (with_points dhat [])
    → ((other : Dhat) → HasBegun none other → HasBegun now (with_points other (other.pps ++ points)))
    → HasBegun now dhat
begun_all none now dhat points are begun put =
    subst (λ (ps : List Point). HasBegun now (with_points dhat ps)) are (put (with_points dhat []) begun)
