-- Lists with one more element at their end, and what they give.
use Rattle.std.proofs.Common.{◌≡◌, List, [], ◌∷◌, ◌++◌, Option, Some, None, refl, sym, ap, ◌∙◌, append_assoc}
use Rattle.std.proofs.Common.{append-nil}
use Rattle.std.specs.Prelude.{slice_get}
use Rattle.std.specs.Option.{option_or, option_to_list}
use Rattle.std.specs.List.{filter_map, cons_option, AllByRecursion}
use Rattle.std.proofs.lemmas.List.Elements.{filter_map-append}
use Rattle.ht_trace.specs.Gathered.{gathered}

-- an element more brings what it gives after all before it
pub gathered-push : {X Y : Type 0} (f : List X → X → Option Y) (earlier xs : List X) (x : X)
    → gathered f earlier (xs ++ x ∷ []) ≡ gathered f earlier xs ++ option_to_list (f (earlier ++ xs) x)
gathered-push f earlier [] x = append-nil _ ∙ ap (λ before. option_to_list (f before x)) (sym (append-nil earlier))
gathered-push f earlier (y ∷ ys) x =
    let more = gathered-push f (earlier ++ y ∷ []) ys x in
    let same = append_assoc earlier (y ∷ []) ys in
    ap (λ rest. option_to_list (f earlier y) ++ rest)
    (more ∙ ap (λ before. gathered f (earlier ++ y ∷ []) ys ++ option_to_list (f before x)) same)
    ∙ sym (append_assoc (option_to_list (f earlier y)) (gathered f (earlier ++ y ∷ []) ys)
    (option_to_list (f (earlier ++ y ∷ ys) x)))

cons_option-nil : {Y : Type 0} (o : Option Y) → cons_option o [] ≡ option_to_list o
cons_option-nil None = refl
cons_option-nil (Some y) = refl

-- an element more at the end adds what it gives
pub filter_map-push : {X Y : Type 0} (f : X → Option Y) (xs : List X) (x : X)
    → filter_map f (xs ++ x ∷ []) ≡ filter_map f xs ++ option_to_list (f x)
filter_map-push f xs x = filter_map-append f xs (x ∷ []) ∙ ap (λ more. filter_map f xs ++ more) (cons_option-nil (f x))

-- the first of a list with one more at the end
pub first-push : {Y : Type 0} (ys : List Y) (o : Option Y)
    → slice_get (ys ++ option_to_list o) 0 ≡ option_or (slice_get ys 0) o
first-push [] None = refl
first-push [] (Some y) = refl
first-push (y ∷ ys) o = refl

pub or-none : {Y : Type 0} (o : Option Y) → option_or o None ≡ o
or-none None = refl
or-none (Some y) = refl

-- what holds of each element still holds where it follows from it, also of one more
pub all-weaker : {X : Type 0} (P Q : X → Type 0) → ((x : X) → P x → Q x) → (xs : List X) → AllByRecursion P xs
    → AllByRecursion Q xs
all-weaker P Q f [] all = tt
all-weaker P Q f (x ∷ xs) all = (f x all.0, all-weaker P Q f xs all.1)

pub all-push : {X : Type 0} (P : X → Type 0) (xs : List X) (y : X) → AllByRecursion P xs → P y
    → AllByRecursion P (xs ++ y ∷ [])
all-push P [] y all here = (here, tt)
all-push P (x ∷ xs) y all here = (all.0, all-push P xs y all.1 here)
