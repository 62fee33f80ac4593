-- Lists of JSON values, and reading them one by one.
use Rattle.std.proofs.Common.{◌≡◌, ℕ, ◌+◌, ◌<◌, ◌≤◌, List, [], ◌∷◌, ◌++◌, length, map, get_or, drop, Some, None, refl}
use Rattle.std.proofs.Common.{sym, ap, ◌∙◌, append_assoc}
use Rattle.std.proofs.lemmas.List.{drop_more, drop_all, append-nil}
use Rattle.serde_json.specs.Data.{Data}
use Rattle.std.specs.declared.alloc.Global.{Global}
use Rattle.json.specs.declared.value.Value.{Value}
use Rattle.serde_json.specs.View.{items_of}
use Rattle.dhat_json.specs.DataOf.{data_of}
use Rattle.dhat_json.specs.declared.fault.DhatFault.{DhatFault}
use Rattle.dhat_json.specs.DhatFault.{Finding, first_of}
use Rattle.dhat_json.specs.Kinds.{list_of}
use Rattle.dhat_json.proofs.Findings.{passed_then}

-- the items of an array are the list that it was made of
pub list_of_items : (ds : List Data) → list_of (items_of ds) ≡ ds
list_of_items [] = refl
list_of_items (d ∷ ds) = ap (λ (rest : List Data). d ∷ rest) (list_of_items ds)

-- Nothing was found in the first i values, and what they say was read.
pub record Passed {A : Type 0} (f : Data → Finding) (g : Data → A) (values : List (Value Global)) (i : ℕ)
    (done : List A) : Type 0 where
  pub left : first_of (map f (map data_of values)) ≡ first_of (map f (map data_of (drop i values)))
  pub whole : map g (map data_of values) ≡ done ++ map g (map data_of (drop i values))

pub passed_none : {A : Type 0} (f : Data → Finding) (g : Data → A) (values : List (Value Global))
    → Passed f g values 0 []
passed_none f g values = record { left = refl; whole = refl }

-- the value at the place
here : (values : List (Value Global)) (i : ℕ) (x : Value Global) → i < length values → x ≡ get_or values i x
    → drop i values ≡ x ∷ drop (i + 1) values
here values i x lt is = drop_more values i x lt ∙ ap (λ (y : Value Global). y ∷ drop (i + 1) values) (sym is)

pub passed_more : {A : Type 0} (f : Data → Finding) (g : Data → A) (values : List (Value Global)) (i : ℕ)
    (done : List A) (x : Value Global)
    → i < length values → x ≡ get_or values i x → Passed f g values i done → f (data_of x) ≡ None
    → Passed f g values (i + 1) (done ++ g (data_of x) ∷ [])
passed_more {A = A} f g values i done x lt is p none = record {
  left =
      p.left ∙ ap (λ (ys : List (Value Global)). first_of (map f (map data_of ys))) (here values i x lt is)
      ∙ ap (λ (o : Finding). first_of (o ∷ map f (map data_of (drop (i + 1) values)))) none;
  whole =
      p.whole ∙ ap (λ (ys : List (Value Global)). done ++ map g (map data_of ys)) (here values i x lt is)
      ∙ sym (append_assoc done (g (data_of x) ∷ []) (map g (map data_of (drop (i + 1) values))));
}

passed_fault : {A : Type 0} (f : Data → Finding) (g : Data → A) (values : List (Value Global)) (i : ℕ) (done : List A)
    (x : Value Global) (fault : DhatFault)
    → i < length values → x ≡ get_or values i x → Passed f g values i done
    → f (data_of x) ≡ Some fault → first_of (map f (map data_of values)) ≡ Some fault
passed_fault f g values i done x fault lt is p found =
    p.left ∙ ap (λ (ys : List (Value Global)). first_of (map f (map data_of ys))) (here values i x lt is)
    ∙ ap (λ (o : Finding). first_of (o ∷ map f (map data_of (drop (i + 1) values)))) found

pub record PassedAll {A : Type 0} (f : Data → Finding) (g : Data → A) (values : List (Value Global))
    (done : List A) : Type 0 where
  pub none : first_of (map f (map data_of values)) ≡ None
  pub all : done ≡ map g (map data_of values)

passed_all : {A : Type 0} (f : Data → Finding) (g : Data → A) (values : List (Value Global)) (i : ℕ) (done : List A)
    → length values ≤ i → Passed f g values i done → PassedAll f g values done
passed_all {A = A} f g values i done end p = record {
  none = p.left ∙ ap (λ (ys : List (Value Global)). first_of (map f (map data_of ys))) (drop_all i values end);
  all =
      sym (p.whole ∙ ap (λ (ys : List (Value Global)). done ++ map g (map data_of ys)) (drop_all i values end)
      ∙ append-nil done);
}

-- ---- the values of a list that had to be there

pub list_refused : {A : Type 0} (needed : Finding) (f : Data → Finding) (g : Data → A) (values : List (Value Global))
    (ds : List Data) (i : ℕ) (done : List A) (x : Value Global) (fault : DhatFault)
    → needed ≡ None → map data_of values ≡ ds
    → i < length values → x ≡ get_or values i x → Passed f g values i done → f (data_of x) ≡ Some fault
    → first_of (needed ∷ map f ds) ≡ Some fault
list_refused needed f g values ds i done x fault none same lt is p found =
    passed_then needed (map f ds) none ∙ ap (λ (all : List Data). first_of (map f all)) (sym same)
    ∙ passed_fault f g values i done x fault lt is p found

pub list_read : {A : Type 0} (needed : Finding) (f : Data → Finding) (g : Data → A) (values : List (Value Global))
    (ds : List Data) (i : ℕ) (done : List A)
    → needed ≡ None → map data_of values ≡ ds
    → length values ≤ i → Passed f g values i done → (first_of (needed ∷ map f ds) ≡ None) × (done ≡ map g ds)
list_read needed f g values ds i done none same end p =
    let all = passed_all f g values i done end p in (
      passed_then needed (map f ds) none ∙ ap (λ (all : List Data). first_of (map f all)) (sym same) ∙ all.none,
      all.all ∙ ap (map g) same,
    )
