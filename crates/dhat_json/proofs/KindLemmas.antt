-- What stands at a key of which nothing was found, and what is found at a key where the right thing stands.
use Rattle.std.proofs.Common.{◌≡◌, ℕ, ◌<◌, List, [], ◌∷◌, ◌++◌, map, All, Bool, true, false, cond, Option, Some, None}
use Rattle.std.proofs.Common.{refl, sym, ap, ltb}
use Rattle.std.specs.Prelude.{IsSome, IfSome, ◌==◌, is_some, unwrap_or}
use Rattle.std.specs.Option.{option_and_then}
use Rattle.std.proofs.lemmas.Bool.{eqb-true, ltb-true, lt-ltb}
use Rattle.std.proofs.lemmas.List.Elements.{All-nil, All-cons, All-head, All-tail}
use Rattle.serde_json.specs.Data.{Data, boolean, number, string, array, unsigned, Items, no_items, item}
use Rattle.serde_json.specs.Find.{as_str, as_bool, as_object, as_array}
use Rattle.serde_json.specs.View.{items_of}
use Rattle.dhat_json.specs.declared.fault.DhatFault.{DhatFault}
use Rattle.dhat_json.specs.declared.fault.DhatFault.TheVariants.{NotJson, WrongFileVersion, WrongKind, FrameOutOfTable}
use Rattle.dhat_json.specs.declared.key.Key.{Key}
use Rattle.dhat_json.specs.declared.key.Key.TheVariants.{DhatFileVersion, Ftbl}
use Rattle.dhat_json.specs.DhatFault.{Finding, first_of, other_kind, needed_value, optional_value, frame_finding}
use Rattle.dhat_json.specs.DhatFault.{no_object, version_value}
use Rattle.dhat_json.specs.DhatValue.{whole}
use Rattle.dhat_json.specs.IsDhat.{IsOptional}
use Rattle.dhat_json.specs.Kinds.{as_whole, as_list, list_of}
use Rattle.dhat_json.specs.ProfileIn.{text_in, whole_in}

-- ---- lists of findings

-- nothing was found by any of the checks
abbrev pub AllNone : List Finding → Type 0
AllNone [] = Unit {0}
AllNone (o ∷ os) = (o ≡ None) × AllNone os

pub none_first : (os : List Finding) → first_of os ≡ None → AllNone os
none_first [] e = tt
none_first (None ∷ os) e = (refl, none_first os e)
none_first (Some fault ∷ os) e = absurd cc

pub first_none : (os : List Finding) → AllNone os → first_of os ≡ None
first_none [] h = refl
first_none (None ∷ os) h = first_none os h.1
first_none (Some fault ∷ os) h = h.0

pub none_left : (xs ys : List Finding) → AllNone (xs ++ ys) → AllNone xs
none_left [] ys h = tt
none_left (o ∷ xs) ys h = (h.0, none_left xs ys h.1)

pub none_right : (xs ys : List Finding) → AllNone (xs ++ ys) → AllNone ys
none_right [] ys h = h
none_right (o ∷ xs) ys h = none_right xs ys h.1

pub none_both : (xs ys : List Finding) → AllNone xs → AllNone ys → AllNone (xs ++ ys)
none_both [] ys h k = k
none_both (o ∷ xs) ys h k = (h.0, none_both xs ys h.1 k)

-- ---- single values

pub items_of_list : (ds : Items) → items_of (list_of ds) ≡ ds
items_of_list no_items = refl
items_of_list (item d ds) = ap (item d) (items_of_list ds)

pub text_stands : (point : Option ℕ) (key : Key) (o : Option Data) → needed_value as_str point key o ≡ None
    → o ≡ Some (string (unwrap_or (option_and_then as_str o) []))
text_stands point key (Some (string s)) e = refl
text_stands _ _ _ e = absurd cc

pub flag_stands : (point : Option ℕ) (key : Key) (o : Option Data) → needed_value as_bool point key o ≡ None
    → o ≡ Some (boolean (unwrap_or (option_and_then as_bool o) false))
flag_stands point key (Some (boolean b)) e = refl
flag_stands _ _ _ e = absurd cc

pub whole_stands : (point : Option ℕ) (key : Key) (o : Option Data) → needed_value as_whole point key o ≡ None
    → o ≡ Some (whole (unwrap_or (option_and_then as_whole o) 0))
whole_stands point key (Some (number (unsigned n))) e = refl
whole_stands _ _ _ e = absurd cc

pub list_stands : (point : Option ℕ) (key : Key) (o : Option Data) → needed_value as_list point key o ≡ None
    → o ≡ Some (array (items_of (unwrap_or (option_and_then as_list o) [])))
list_stands point key (Some (array ds)) e = ap (λ (items : Items). Some (array items)) (sym (items_of_list ds))
list_stands _ _ _ e = absurd cc

pub optional_text_stands : (point : Option ℕ) (key : Key) (o : Option Data) → optional_value as_str point key o ≡ None
    → IsOptional string o (option_and_then as_str o)
optional_text_stands point key None e = refl
optional_text_stands point key (Some (string s)) e = refl
optional_text_stands _ _ _ e = absurd cc

pub optional_whole_stands : (point : Option ℕ) (key : Key) (o : Option Data)
    → optional_value as_whole point key o ≡ None → IsOptional whole o (option_and_then as_whole o)
optional_whole_stands point key None e = refl
optional_whole_stands point key (Some (number (unsigned n))) e = refl
optional_whole_stands _ _ _ e = absurd cc

passes : (b : Bool) (fault : DhatFault) → cond {A = Finding} b None (Some fault) ≡ None → b ≡ true
passes true fault e = refl
passes false fault e = absurd cc

pub kind_is : {A : Type 0} (kind : Data → Option A) (point : Option ℕ) (key : Key) (d : Data)
    → other_kind kind point key d ≡ None → is_some (kind d) ≡ true
kind_is kind point key d e = passes (is_some (kind d)) (WrongKind point key) e

-- ---- lists of values

abbrev TextIs : Data → Type 0
TextIs d = string (text_in d) ≡ d

text_is : (d : Data) → other_kind as_str None Ftbl d ≡ None → TextIs d
text_is (string s) e = refl
text_is _ e = absurd cc

both : (d e : Data) (ds es : List Data) → d ≡ e → ds ≡ es → d ∷ ds ≡ e ∷ es
both d e ds es p q = rw (p, q) refl

-- a table of which nothing was found is one of texts
pub texts_stand : (ds : List Data) → AllNone (map (other_kind as_str None Ftbl) ds) → map string (map text_in ds) ≡ ds
texts_stand [] h = refl
texts_stand (d ∷ ds) h = both _ _ _ _ (text_is d h.0) (texts_stand ds h.1)

pub texts_found : (texts : List (List ℕ)) → AllNone (map (other_kind as_str None Ftbl) (map string texts))
texts_found [] = tt
texts_found (text ∷ texts) = (refl, texts_found texts)

pub texts_again : (texts : List (List ℕ)) → map text_in (map string texts) ≡ texts
texts_again [] = refl
texts_again (text ∷ texts) = ap (λ (rest : List (List ℕ)). text ∷ rest) (texts_again texts)

abbrev pub FrameIs : ℕ → Data → Type 0
FrameIs frames d = (whole (whole_in d) ≡ d) × (whole_in d < frames)

frame_below : (point frames n : ℕ) (b : Bool) → ltb n frames ≡ b
    → cond {A = Finding} b None (Some (FrameOutOfTable point n)) ≡ None → n < frames
frame_below point frames n true lt e = ltb-true n frames lt
frame_below point frames n false lt e = absurd cc

frame_is : (point frames : ℕ) (d : Data) → frame_finding point frames d ≡ None → FrameIs frames d
frame_is point frames (number (unsigned n)) e = (refl, frame_below point frames n (ltb n frames) refl e)
frame_is _ _ _ e = absurd cc

pub frames_stand : (point frames : ℕ) (ds : List Data) → AllNone (map (frame_finding point frames) ds)
    → map whole (map whole_in ds) ≡ ds
frames_stand point frames [] h = refl
frames_stand point frames (d ∷ ds) h = both _ _ _ _ (frame_is point frames d h.0).0 (frames_stand point frames ds h.1)

pub frames_below : (point frames : ℕ) (ds : List Data) → AllNone (map (frame_finding point frames) ds)
    → All (λ frame. frame < frames) (map whole_in ds)
frames_below point frames [] h = All-nil (λ frame. frame < frames)
frames_below point frames (d ∷ ds) h =
    All-cons (λ frame. frame < frames) _ _ (frame_is point frames d h.0).1 (frames_below point frames ds h.1)

pub frames_found : (point frames : ℕ) (fs : List ℕ) → All (λ frame. frame < frames) fs
    → AllNone (map (frame_finding point frames) (map whole fs))
frames_found point frames [] h = tt
frames_found point frames (n ∷ fs) h = (
  rw (lt-ltb n frames (All-head (λ frame. frame < frames) n fs h)) refl,
  frames_found point frames fs (All-tail (λ frame. frame < frames) n fs h),
)

pub frames_again : (fs : List ℕ) → map whole_in (map whole fs) ≡ fs
frames_again [] = refl
frames_again (n ∷ fs) = ap (λ (rest : List ℕ). n ∷ rest) (frames_again fs)

-- ---- parts of a profile

pub kind_is_object : (v : Data) → no_object v ≡ None → is_some (as_object v) ≡ true
kind_is_object v e = passes (is_some (as_object v)) NotJson e

array_is : (point : Option ℕ) (key : Key) (d : Data) → other_kind as_list point key d ≡ None → IsSome (as_array d)
array_is point key (array ds) e = refl
array_is _ _ _ e = absurd cc

pub acc_is : (point : Option ℕ) (key : Key) (o : Option Data) → optional_value as_list point key o ≡ None
    → IfSome o (λ counts. IsSome (as_array counts))
acc_is point key None e = tt
acc_is point key (Some d) e = array_is point key d e

two_is : (n : ℕ) (b : Bool) → (n == 2) ≡ b → cond {A = Finding} b None (Some WrongFileVersion) ≡ None → n ≡ 2
two_is n true e h = eqb-true n 2 e
two_is n false e h = absurd cc

pub version_is : (o : Option Data) → version_value o ≡ None → needed_value Some None DhatFileVersion o ≡ None
    → o ≡ Some (whole 2)
version_is (Some (number (unsigned n))) e h = ap (λ (m : ℕ). Some (whole m)) (two_is n (n == 2) refl e)
version_is _ e h = absurd cc
