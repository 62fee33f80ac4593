-- What one call of the reader says of the whole list of lines.
use Rattle.std.proofs.Common.{◌≡◌, ℕ, suc, ◌+◌, Bool, true, false, cond, List, [], ◌∷◌, ◌++◌, length, Option, None}
use Rattle.std.proofs.Common.{Result, Ok, Err, refl, sym, ap, ◌∙◌, arith}
use Rattle.std.specs.Prelude.{IfOk, IfErr}
use Rattle.std.proofs.lemmas.List.{append-nil}
use Rattle.massif_file.specs.declared.fault.ProfileFault.{ProfileFault}
use Rattle.massif_file.specs.declared.fault.ProfileFault.TheVariants.{NoMemory}
use Rattle.massif_file.specs.declared.profile.Profile.{Profile}
use Rattle.massif_file.specs.Blanks.{is_skipped}
use Rattle.massif_file.specs.ProfileOf.{at_line, unless_refused, read_from, profile_of}
use Rattle.massif_file.specs.StandsFor.{StandsFor}
use Rattle.massif_file.specs.Progress.{Progress, in_descriptions, refused_for, taken, after, after_all, progress_of}
use Rattle.massif_file.specs.Progress.{fault_in, end_of}
use Rattle.massif_file.specs.UnlessNoMemory.{UnlessNoMemory}

-- a claim that holds, holds unless memory is wanting
pub unless_claim : {claim : Type 0} (fault : ProfileFault) → claim → UnlessNoMemory fault claim
unless_claim NoMemory h = tt
unless_claim _ h = h

-- what follows from a claim holds too
pub unless_weaker : {claim weaker : Type 0} (fault : ProfileFault) → (claim → weaker) → UnlessNoMemory fault claim
    → UnlessNoMemory fault weaker
unless_weaker NoMemory f h = tt
unless_weaker _ f h = f h

-- a refused line stays refused
pub after-refused : (fault : ProfileFault) (line : List ℕ) → after (refused_for fault) line ≡ refused_for fault
unfolding taken
after-refused fault line = by (is_skipped line)
  where
    by : (t : Bool) → cond t (refused_for fault) (taken (refused_for fault) line) ≡ refused_for fault
    by true = refl
    by false = refl

-- whatever lines follow
after_all-refused : (fault : ProfileFault) (lines : List (List ℕ))
    → after_all (refused_for fault) lines ≡ refused_for fault
after_all-refused fault [] = refl
after_all-refused fault (line ∷ lines) =
    ap (λ (p : Progress). after_all p lines) (after-refused fault line) ∙ after_all-refused fault lines

-- where nothing is refused after the lines, nothing was before them
pub taken_before : (p : Progress) (lines : List (List ℕ)) → fault_in (after_all p lines) ≡ None → fault_in p ≡ None
taken_before (refused_for fault) lines h = ap fault_in (sym (after_all-refused fault lines)) ∙ h
taken_before _ lines h = refl

-- lines after lines
pub after_all-append : (p : Progress) (xs ys : List (List ℕ)) → after_all p (xs ++ ys) ≡ after_all (after_all p xs) ys
after_all-append p [] ys = refl
after_all-append p (x ∷ xs) ys = after_all-append (after p x) xs ys

-- what is read of lines whose front is taken
read_on : (p : Progress) (n : ℕ) (lines later : List (List ℕ)) → fault_in (after_all p lines) ≡ None
    → read_from p n (lines ++ later) ≡ read_from (after_all p lines) (n + length lines) later
read_on p n [] later h = ap (λ (k : ℕ). read_from p k later) {x = n} {y = n + 0} (omega arith)
read_on p n (line ∷ lines) later h =
    ap (λ (o : Option ProfileFault). unless_refused o n (read_from (after p line) (suc n) (lines ++ later)))
    (taken_before (after p line) lines h)
    ∙ read_on (after p line) (suc n) lines later h
    ∙ ap (λ (k : ℕ). read_from (after_all (after p line) lines) k later) {x = suc n + length lines} {y = n
    + length (line ∷ lines)} (omega arith)

-- what is read of all lines, once some are taken
pub profile_of-append : (lines later : List (List ℕ)) → fault_in (progress_of lines) ≡ None
    → profile_of (lines ++ later) ≡ read_from (progress_of lines) (length lines + 1) later
unfolding profile_of
profile_of-append lines later h =
    read_on (in_descriptions []) 1 lines later h
    ∙ ap (λ (k : ℕ). read_from (progress_of lines) k later) {x = 1 + length lines} {y = length lines + 1} (omega arith)

-- a reader that took a line stands for one line more
pub stands_more : (old new : Progress) (line : List ℕ) → new ≡ after old line → fault_in new ≡ None
    → (lines : List (List ℕ)) → StandsFor old lines → StandsFor new (lines ++ line ∷ [])
stands_more old new line e t lines s =
    let same : new ≡ progress_of (lines ++ line ∷ []) =
    e ∙ ap (λ (p : Progress). after p line) s.progress
    ∙ sym (after_all-append (in_descriptions []) lines (line ∷ [])) in
    record { progress = same; taken = ap fault_in (sym same) ∙ t }

-- a reader that refused a line says the fault of all lines, whatever follows
pub fault_of_all : (old : Progress) (line : List ℕ) (fault : ProfileFault) → after old line ≡ refused_for fault
    → (lines later : List (List ℕ)) → StandsFor old lines
    → profile_of (lines ++ line ∷ later) ≡ Err (length lines + 1, fault)
fault_of_all old line fault e lines later s =
    let next : after (progress_of lines) line ≡ refused_for fault =
    ap (λ (p : Progress). after p line) (sym s.progress) ∙ e in
    profile_of-append lines (line ∷ later) s.taken
    ∙ ap (λ (p : Progress). unless_refused (fault_in p) (length lines + 1) (read_from p (suc (length lines + 1)) later))
    next

-- what a reader of all lines answers at their end
pub at_end : (reader : Progress) (lines : List (List ℕ)) → StandsFor reader lines
    → profile_of lines ≡ at_line (length lines + 1) (end_of reader)
at_end reader lines s =
    ap profile_of (sym (append-nil lines)) ∙ profile_of-append lines [] s.taken
    ∙ ap (λ (p : Progress). at_line (length lines + 1) (end_of p)) (sym s.progress)

-- the profile at the end
pub end_profile : (reader : Progress) (r : Result Profile ProfileFault) → r ≡ end_of reader → (lines : List (List ℕ))
    → StandsFor reader lines → IfOk r (λ profile. profile_of lines ≡ Ok profile)
end_profile reader (Ok profile) e lines s = at_end reader lines s ∙ ap (at_line (length lines + 1)) (sym e)
end_profile reader (Err fault) e lines s = tt

-- the fault at the end
pub end_fault : (reader : Progress) (r : Result Profile ProfileFault) → r ≡ end_of reader → (lines : List (List ℕ))
    → StandsFor reader lines → IfErr r (λ fault. profile_of lines ≡ Err (length lines + 1, fault))
end_fault reader (Ok profile) e lines s = tt
end_fault reader (Err fault) e lines s = at_end reader lines s ∙ ap (at_line (length lines + 1)) (sym e)

-- the same of one call's answer
pub call_stands : (old new : Progress) (line : List ℕ) (r : Result (Unit {0}) ProfileFault)
    → IfOk r (λ _. new ≡ after old line) → IfOk r (λ _. fault_in new ≡ None)
    → IfOk r (λ _. (lines : List (List ℕ)) → StandsFor old lines → StandsFor new (lines ++ line ∷ []))
call_stands old new line (Ok done) e t = stands_more old new line e t
call_stands old new line (Err fault) e t = tt

-- the fault of all lines, by one call
pub call_fault : (old : Progress) (line : List ℕ) (r : Result (Unit {0}) ProfileFault)
    → IfErr r (λ fault. UnlessNoMemory fault (after old line ≡ refused_for fault))
    → IfErr r (λ fault. UnlessNoMemory fault
    ((lines later : List (List ℕ)) → StandsFor old lines
    → profile_of (lines ++ line ∷ later) ≡ Err (length lines + 1, fault)))
call_fault old line (Ok done) h = tt
call_fault old line (Err fault) h = unless_weaker fault (fault_of_all old line fault) h
