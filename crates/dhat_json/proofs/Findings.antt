-- The first of what checks find.
use Rattle.std.proofs.Common.{◌≡◌, List, [], ◌∷◌, ◌++◌, Some, None, Result, Ok, Err, refl, subst}
use Rattle.std.specs.Prelude.{IsErrAnd}
use Rattle.dhat_json.specs.declared.fault.DhatFault.{DhatFault}
use Rattle.dhat_json.specs.declared.fault.DhatFault.TheVariants.{NoMemory}
use Rattle.dhat_json.specs.DhatFault.{Finding, first_of}
use Rattle.dhat_json.specs.Reads.{Reads, UnlessNoMemory}

-- where nothing was found at first, what is found later counts
pub first_later : (xs ys : List Finding) → first_of xs ≡ None → first_of (xs ++ ys) ≡ first_of ys
first_later [] ys none = refl
first_later (None ∷ xs) ys none = first_later xs ys none
first_later (Some fault ∷ xs) ys none = absurd cc

-- and where a fault was found, it stays the first
pub first_stays : (xs ys : List Finding) (fault : DhatFault) → first_of xs ≡ Some fault
    → first_of (xs ++ ys) ≡ Some fault
first_stays [] ys fault found = absurd cc
first_stays (None ∷ xs) ys fault found = first_stays xs ys fault found
first_stays (Some first ∷ xs) ys fault found = found

-- a claim of a fault that follows from another
pub fault_follows : (P Q : Type 0) (fault : DhatFault) → UnlessNoMemory fault P → (P → Q) → UnlessNoMemory fault Q
fault_follows P Q NoMemory h f = tt
fault_follows P Q _ h f = f h

-- a call that passes on the fault of a part, which is the first of its own
pub passes_on : {A : Type 0} (result : Result A DhatFault) (fault : DhatFault) (finding : Finding) (there : A)
    (P : Type 0)
    → IsErrAnd result (λ e. e ≡ fault) → UnlessNoMemory fault P → (P → finding ≡ Some fault)
    → Reads result finding there
passes_on (Ok x) fault finding there P is h f = absurd is
passes_on (Err e) fault finding there P is h f = rw is (fault_follows P (finding ≡ Some fault) fault h f)

pub passed_then : (a : Finding) (xs : List Finding) → a ≡ None → first_of (a ∷ xs) ≡ first_of xs
passed_then a xs none = rw none refl

pub found_first : (a : Finding) (xs : List Finding) (fault : DhatFault) → a ≡ Some fault
    → first_of (a ∷ xs) ≡ Some fault
found_first a xs fault found = rw found refl

-- what a part that answered so has read or refused
pub read_as : {A : Type 0} (result : Result A DhatFault) (x : A) (finding : Finding) (there : A) → result ≡ Ok x
    → Reads result finding there → (finding ≡ None) × (x ≡ there)
read_as {A = A} result x finding there is read = subst (λ (r : Result A DhatFault). Reads r finding there) is read

pub refused_as : {A : Type 0} (result : Result A DhatFault) (fault : DhatFault) (finding : Finding) (there : A)
    → result ≡ Err fault → Reads result finding there → UnlessNoMemory fault (finding ≡ Some fault)
refused_as {A = A} result fault finding there is read =
    subst (λ (r : Result A DhatFault). Reads r finding there) is read
