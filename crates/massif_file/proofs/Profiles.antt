-- The function and the relations say the same of all lines.
use Rattle.std.proofs.Common.{◌≡◌, ℕ, suc, ◌+◌, ◌<◌, Bool, true, false, cond, ltb, List, [], ◌∷◌, ◌++◌, length, Option}
use Rattle.std.proofs.Common.{Some, None, Result, Ok, Err, refl, sym, ap, subst, ◌∙◌, arith, inl, inr, lt-ltb, ltb-true}
use Rattle.std.specs.Prelude.{◌⊎◌, All, IfOk, IfErr}
use Rattle.massif_file.specs.declared.fault.ProfileFault.{ProfileFault}
use Rattle.massif_file.specs.declared.fault.ProfileFault.TheVariants.{Truncated}
use Rattle.massif_file.specs.declared.profile.Profile.{Profile}
use Rattle.massif_file.specs.Blanks.{is_skipped}
use Rattle.massif_file.specs.IsProfile.{is_profile, saying}
use Rattle.massif_file.specs.ProfileFault.{IsRefusedLine, IsTruncated, profile_fault}
use Rattle.massif_file.specs.ProfileOf.{at_line, unless_refused, read_from, profile_of}
use Rattle.massif_file.specs.StandsFor.{StandsFor}
use Rattle.massif_file.specs.Progress.{Progress, in_descriptions, at_unit, at_snapshot, at_time, at_heap, at_extra}
use Rattle.massif_file.specs.Progress.{at_stacks, at_mark, in_tree, refused_for, taken, after, after_all, progress_of}
use Rattle.massif_file.specs.Progress.{fault_in, end_of}
use Rattle.massif_file.specs.UnlessNoMemory.{UnlessNoMemory}
use Rattle.massif_file.proofs.Complete.{after_all-saying, run_all}
use Rattle.massif_file.specs.IsWritable.{IsLine, IsWritable}
use Rattle.massif_file.proofs.ReadTexts.{is_writable}
use Rattle.massif_file.proofs.ReadingLemmas.{profile_of-append, after_all-append, at_end, fault_of_all, unless_weaker}
use Rattle.massif_file.specs.Refuses.{Refuses}
use Rattle.massif_file.proofs.Refusing.{refused_is, ends_early}
use Rattle.massif_file.proofs.Sound.{Stands, reads, stands_after}
use Rattle.massif_file.proofs.Stopping.{stops, stops_at_end}

-- ---- an answer by cases

-- an answer with a line is a profile where it was one
at_line_ok : (n : ℕ) (r : Result Profile ProfileFault) (profile : Profile) → at_line n r ≡ Ok profile → r ≡ Ok profile
at_line_ok n (Ok p) profile e = cc
at_line_ok n (Err fault) profile e = absurd cc

-- what is read of the lines
abbrev Answer : Type 0
Answer = Result Profile (ℕ × ProfileFault)

-- the parts of a fault
pair_err : (n k : ℕ) (f g : ProfileFault) → (let r : Answer = Err (n, f) in r ≡ Err (k, g)) → (n ≡ k) × (f ≡ g)
pair_err n k f g e =
    let same : (n, f) ≡ (k, g) = cc in
    (ap (λ (p : ℕ × ProfileFault). p.0) same, ap (λ (p : ℕ × ProfileFault). p.1) same)

-- a profile is no fault
ok_is_no_err : (p : Profile) (at : ℕ × ProfileFault) → (let r : Answer = Ok p in r ≡ Err at) → ⊥
ok_is_no_err p at e = absurd cc

-- the parts of a fault at a line
at_line_err : (n : ℕ) (r : Result Profile ProfileFault) (k : ℕ) (fault : ProfileFault) → at_line n r ≡ Err (k, fault)
    → (n ≡ k) × (r ≡ Err fault)
at_line_err n (Ok p) k fault e = absurd cc
at_line_err n (Err f) k fault e = let r = pair_err n k f fault e in (r.0, ap Err r.1)

-- a profile comes of what follows
unless_ok : (o : Option ProfileFault) (n : ℕ) (later : Result Profile (ℕ × ProfileFault)) (profile : Profile)
    → unless_refused o n later ≡ Ok profile → later ≡ Ok profile
unless_ok None n later profile e = e
unless_ok (Some fault) n later profile e = absurd cc

-- where the lines may end there is a whole profile
whole_is : (p : Progress) (profile : Profile) → end_of p ≡ Ok profile
    → (p ≡ at_snapshot profile) × (0 < length profile.snaps)
whole_is (in_descriptions desc) profile e = absurd cc
whole_is (at_unit desc cmd) profile e = absurd cc
whole_is (at_snapshot q) profile e = by (ltb 0 (length q.snaps)) refl e
  where
    by : (t : Bool) → ltb 0 (length q.snaps) ≡ t → cond t (Ok q) (Err Truncated) ≡ Ok profile
        → (at_snapshot q ≡ at_snapshot profile) × (0 < length profile.snaps)
    by true some h =
        let same : q ≡ profile =
        cc in (ap at_snapshot same, subst (λ (r : Profile). 0 < length r.snaps) same (ltb-true 0 (length q.snaps) some))
    by false some h = absurd cc
whole_is (at_time q) profile e = absurd cc
whole_is (at_heap q time) profile e = absurd cc
whole_is (at_extra q time heap) profile e = absurd cc
whole_is (at_stacks q time heap extra) profile e = absurd cc
whole_is (at_mark q time heap extra stacks) profile e = absurd cc
whole_is (in_tree q snap to_come) profile e = absurd cc
whole_is (refused_for fault) profile e = absurd cc

-- the fault at the end of lines that are taken
truncated_is : (p : Progress) (fault : ProfileFault) → fault_in p ≡ None → end_of p ≡ Err fault → fault ≡ Truncated
truncated_is (in_descriptions desc) fault t e = cc
truncated_is (at_unit desc cmd) fault t e = cc
truncated_is (at_snapshot q) fault t e = by (ltb 0 (length q.snaps)) e
  where
    by : (b : Bool) → cond b (Ok q) (Err Truncated) ≡ Err fault → fault ≡ Truncated
    by true h = absurd cc
    by false h = cc
truncated_is (at_time q) fault t e = cc
truncated_is (at_heap q time) fault t e = cc
truncated_is (at_extra q time heap) fault t e = cc
truncated_is (at_stacks q time heap extra) fault t e = cc
truncated_is (at_mark q time heap extra stacks) fault t e = cc
truncated_is (in_tree q snap to_come) fault t e = cc
truncated_is (refused_for f) fault t e = absurd cc

-- ---- a profile

-- a profile comes at the end
read_ok : (p : Progress) (n : ℕ) (lines : List (List ℕ)) (profile : Profile) → read_from p n lines ≡ Ok profile
    → end_of (after_all p lines) ≡ Ok profile
read_ok p n [] profile e = at_line_ok n (end_of p) profile e
read_ok p n (line ∷ lines) profile e =
    read_ok (after p line) (suc n) lines profile
    (unless_ok (fault_in (after p line)) n (read_from (after p line) (suc n) lines) profile e)

-- what is read is a profile
pub read_is : (lines : List (List ℕ)) (profile : Profile) → profile_of lines ≡ Ok profile → is_profile lines profile
unfolding profile_of
read_is lines profile e =
    let w = whole_is (progress_of lines) profile (read_ok (in_descriptions []) 1 lines profile e) in
    let r = reads (saying lines) profile (sym (after_all-saying (in_descriptions []) lines) ∙ w.0) in
    record {
      descriptions = r.descriptions;
      others = r.others;
      parts = r.parts;
      described = r.described;
      said = r.said;
      right = record { some = w.1; snaps = r.right };
    }

-- a profile is read
pub is_read : (lines : List (List ℕ)) (profile : Profile) → is_profile lines profile → profile_of lines ≡ Ok profile
is_read lines profile h =
    let e : progress_of lines ≡ at_snapshot profile =
    run_all lines h.descriptions h.others profile h.parts h.described h.said h.right.snaps in
    at_end (at_snapshot profile) lines (record { progress = sym e; taken = ap fault_in e })
    ∙ ap (λ (t : Bool). at_line (length lines + 1) (cond t (Ok profile) (Err Truncated)))
    (lt-ltb 0 (length profile.snaps) h.right.some)

-- ---- a fault

-- a line is refused, from some progress and line number on
record RefusedFrom (p : Progress) (n : ℕ) (lines : List (List ℕ)) (k : ℕ) (fault : ProfileFault) : Type 0 where
  pub before : List (List ℕ)
  pub line : List ℕ
  pub later : List (List ℕ)
  pub parts : lines ≡ before ++ line ∷ later
  pub place : k ≡ n + length before
  pub taken : fault_in (after_all p before) ≡ None
  pub refused : fault_in (after_all p (before ++ line ∷ [])) ≡ Some fault

-- the lines end, from some progress and line number on
record EndsFrom (p : Progress) (n : ℕ) (lines : List (List ℕ)) (k : ℕ) (fault : ProfileFault) : Type 0 where
  pub place : k ≡ n + length lines
  pub taken : fault_in (after_all p lines) ≡ None
  pub truncated : end_of (after_all p lines) ≡ Err fault

-- the same of one line more at the begin
later_fault : (p : Progress) (n : ℕ) (line : List ℕ) (lines : List (List ℕ)) (k : ℕ) (fault : ProfileFault)
    → RefusedFrom (after p line) (suc n) lines k fault ⊎ EndsFrom (after p line) (suc n) lines k fault
    → RefusedFrom p n (line ∷ lines) k fault ⊎ EndsFrom p n (line ∷ lines) k fault
later_fault p n line lines k fault (inl r) =
    inl (record {
      before = line ∷ r.before;
      line = r.line;
      later = r.later;
      parts = ap (λ (ls : List (List ℕ)). line ∷ ls) r.parts;
      place = omega (arith, r.place);
      taken = r.taken;
      refused = r.refused;
    })
later_fault p n line lines k fault (inr r) =
    inr (record { place = omega (arith, r.place); taken = r.taken; truncated = r.truncated })

-- where a fault comes from
read_err : (p : Progress) (n : ℕ) (lines : List (List ℕ)) (k : ℕ) (fault : ProfileFault) → fault_in p ≡ None
    → read_from p n lines ≡ Err (k, fault) → RefusedFrom p n lines k fault ⊎ EndsFrom p n lines k fault
read_err p n [] k fault t e =
    let r = at_line_err n (end_of p) k fault e in
    inr (record { place = omega (arith, r.0); taken = t; truncated = r.1 })
read_err p n (line ∷ lines) k fault t e =
    by (fault_in (after p line)) refl e
    (λ q h. later_fault p n line lines k fault (read_err (after p line) (suc n) lines k fault q h))
  where
    by : (o : Option ProfileFault) → fault_in (after p line) ≡ o
        → unless_refused o n (read_from (after p line) (suc n) lines) ≡ Err (k, fault)
        → (fault_in (after p line) ≡ None → read_from (after p line) (suc n) lines ≡ Err (k, fault)
        → RefusedFrom p n (line ∷ lines) k fault ⊎ EndsFrom p n (line ∷ lines) k fault)
        → RefusedFrom p n (line ∷ lines) k fault ⊎ EndsFrom p n (line ∷ lines) k fault
    by None q h rest = rest q h
    by (Some f) q h rest =
        let r = pair_err n k f fault h in
        inl (record {
          before = [];
          line = line;
          later = lines;
          parts = refl;
          place = omega (arith, r.0);
          taken = t;
          refused = q ∙ ap Some r.1;
        })

-- where the reader stands, the lines that say something stand too
stands_there : (lines : List (List ℕ)) → Stands (saying lines) (progress_of lines)
stands_there lines =
    subst (Stands (saying lines)) (sym (after_all-saying (in_descriptions []) lines))
    (stands_after [] (saying lines) (in_descriptions []) refl)

-- a refused line says something, and can't follow
refused_after : (before : List (List ℕ)) (line : List ℕ) (fault : ProfileFault) → fault_in (progress_of before) ≡ None
    → fault_in (after (progress_of before) line) ≡ Some fault
    → (is_skipped line ≡ false) × Refuses (saying before) line fault
refused_after before line fault t e = by (is_skipped line) refl e
  where
    by : (s : Bool) → is_skipped line ≡ s
        → fault_in (cond s (progress_of before) (taken (progress_of before) line)) ≡ Some fault
        → (is_skipped line ≡ false) × Refuses (saying before) line fault
    by true q f = absurd (let other : None ≡ Some fault = sym t ∙ f in cc)
    by false q f = (q, refused_is (saying before) line fault (progress_of before) (stands_there before) t f)

-- what is refused has a fault
pub fault_is : (lines : List (List ℕ)) (k : ℕ) (fault : ProfileFault) → profile_of lines ≡ Err (k, fault)
    → profile_fault lines k fault
unfolding profile_of
fault_is lines k fault e = by (read_err (in_descriptions []) 1 lines k fault refl e)
  where
    by : RefusedFrom (in_descriptions []) 1 lines k fault ⊎ EndsFrom (in_descriptions []) 1 lines k fault
        → profile_fault lines k fault
    by (inl r) =
        let why =
        refused_after r.before r.line fault r.taken
        (ap fault_in (sym (after_all-append (in_descriptions []) r.before (r.line ∷ []))) ∙ r.refused) in
        inl (record {
          before = r.before;
          line = r.line;
          later = r.later;
          parts = r.parts;
          place = omega (arith, r.place);
          says = why.0;
          refused = why.1;
        })
    by (inr r) =
        let same = truncated_is (progress_of lines) fault r.taken r.truncated in
        inr (record {
          truncated = same;
          place = omega (arith, r.place);
          early =
              ends_early (saying lines) (progress_of lines) (stands_there lines) r.taken (r.truncated ∙ ap Err same);
        })

-- a refused line of the whole list
refused_line : (lines : List (List ℕ)) (k : ℕ) (fault : ProfileFault) → IsRefusedLine lines k fault
    → profile_of lines ≡ Err (k, fault)
refused_line lines k fault r =
    let stop = stops (saying r.before) r.line fault r.refused in
    let here : progress_of r.before ≡ stop.progress =
    after_all-saying (in_descriptions []) r.before ∙ stop.leads.runs in
    let taken_before : fault_in (progress_of r.before) ≡ None = ap fault_in here ∙ stop.leads.taken_so_far in
    let next : fault_in (after (progress_of r.before) r.line) ≡ Some fault =
    ap (λ (s : Bool). fault_in (cond s (progress_of r.before) (taken (progress_of r.before) r.line))) r.says
    ∙ ap (λ (p : Progress). fault_in (taken p r.line)) here
    ∙ stop.refused in
    ap profile_of r.parts
    ∙ profile_of-append r.before (r.line ∷ r.later) taken_before
    ∙ ap (λ (o : Option ProfileFault). unless_refused o (length r.before + 1)
    (read_from (after (progress_of r.before) r.line) (suc (length r.before + 1)) r.later)) next
    ∙ ap (λ (n : ℕ). Err (n, fault)) (sym r.place)

-- lines that end too early
too_short : (lines : List (List ℕ)) (k : ℕ) (fault : ProfileFault) → IsTruncated lines k fault
    → profile_of lines ≡ Err (k, fault)
too_short lines k fault r =
    let stop = stops_at_end (saying lines) r.early in
    let here : progress_of lines ≡ stop.progress = after_all-saying (in_descriptions []) lines ∙ stop.leads.runs in
    at_end (progress_of lines) lines (record { progress = refl; taken = ap fault_in here ∙ stop.leads.taken_so_far })
    ∙ ap (λ (p : Progress). at_line (length lines + 1) (end_of p)) here
    ∙ ap (at_line (length lines + 1)) stop.truncated
    ∙ ap (λ (g : ProfileFault). Err (length lines + 1, g)) (sym r.truncated)
    ∙ ap (λ (n : ℕ). Err (n, fault)) (sym r.place)

-- what has a fault is refused
pub is_fault : (lines : List (List ℕ)) (k : ℕ) (fault : ProfileFault) → profile_fault lines k fault
    → profile_of lines ≡ Err (k, fault)
is_fault lines k fault (inl r) = refused_line lines k fault r
is_fault lines k fault (inr r) = too_short lines k fault r

-- ---- either, and only one

-- lines are a profile or have a fault
pub one_of : (lines : List (List ℕ))
    → ((profile : Profile) × is_profile lines profile)
    ⊎ ((number : ℕ) × (fault : ProfileFault) × profile_fault lines number fault)
one_of lines = by (profile_of lines) refl
  where
    by : (r : Result Profile (ℕ × ProfileFault)) → profile_of lines ≡ r
        → ((profile : Profile) × is_profile lines profile)
        ⊎ ((number : ℕ) × (fault : ProfileFault) × profile_fault lines number fault)
    by (Ok profile) e = inl (profile, read_is lines profile e)
    by (Err at) e = inr (at.0, at.1, fault_is lines at.0 at.1 e)

-- lines are at most one profile
pub one_profile : (lines : List (List ℕ)) (p q : Profile) → is_profile lines p → is_profile lines q → p ≡ q
one_profile lines p q h k = same (sym (is_read lines p h) ∙ is_read lines q k)
  where
    same : (let r : Answer = Ok p in r ≡ Ok q) → p ≡ q
    same e = cc

-- lines have at most one first fault
pub one_fault : (lines : List (List ℕ)) (n m : ℕ) (f g : ProfileFault) → profile_fault lines n f
    → profile_fault lines m g → (n ≡ m) × (f ≡ g)
one_fault lines n m f g h k = pair_err n m f g (sym (is_fault lines n f h) ∙ is_fault lines m g k)

-- a profile has no fault
pub not_both : (lines : List (List ℕ)) (profile : Profile) (number : ℕ) (fault : ProfileFault)
    → is_profile lines profile → profile_fault lines number fault → ⊥
not_both lines profile number fault h k =
    ok_is_no_err profile (number, fault) (sym (is_read lines profile h) ∙ is_fault lines number fault k)

-- ---- what a reader of all lines answers at their end

-- what is answered is a profile
pub end_is : (reader : Progress) (r : Result Profile ProfileFault) → r ≡ end_of reader → (lines : List (List ℕ))
    → StandsFor reader lines → IfOk r (λ profile. is_profile lines profile)
end_is reader (Ok profile) e lines s =
    read_is lines profile (at_end reader lines s ∙ ap (at_line (length lines + 1)) (sym e))
end_is reader (Err fault) e lines s = tt

-- the profile of the lines is answered
pub end_only : (reader : Progress) (r : Result Profile ProfileFault) → r ≡ end_of reader
    → (lines : List (List ℕ)) (profile : Profile) → StandsFor reader lines → is_profile lines profile → r ≡ Ok profile
end_only reader r e lines profile s h =
    at_line_ok (length lines + 1) r profile
    (ap (at_line (length lines + 1)) e ∙ sym (at_end reader lines s) ∙ is_read lines profile h)

-- what is answered may be written
pub end_writable : (reader : Progress) (r : Result Profile ProfileFault) → r ≡ end_of reader → (lines : List (List ℕ))
    → StandsFor reader lines → All IsLine lines → IfOk r (λ profile. IsWritable profile)
end_writable reader (Ok profile) e lines s h = is_writable lines profile h (end_is reader (Ok profile) e lines s)
end_writable reader (Err fault) e lines s h = tt

-- the fault that is answered at the end
pub end_truncated : (reader : Progress) (r : Result Profile ProfileFault) → r ≡ end_of reader → (lines : List (List ℕ))
    → StandsFor reader lines → IfErr r (λ fault. fault ≡ Truncated)
end_truncated reader (Ok profile) e lines s = tt
end_truncated reader (Err fault) e lines s = truncated_is reader fault (ap fault_in s.progress ∙ s.taken) (sym e)

-- the fault that is answered at the end is that of the lines
pub end_first : (reader : Progress) (r : Result Profile ProfileFault) → r ≡ end_of reader → (lines : List (List ℕ))
    → StandsFor reader lines → IfErr r (λ fault. profile_fault lines (length lines + 1) fault)
end_first reader (Ok profile) e lines s = tt
end_first reader (Err fault) e lines s =
    fault_is lines (length lines + 1) fault (at_end reader lines s ∙ ap (at_line (length lines + 1)) (sym e))

-- and so is that of one call
pub call_first : (old : Progress) (line : List ℕ) (r : Result (Unit {0}) ProfileFault)
    → IfErr r (λ fault. UnlessNoMemory fault (after old line ≡ refused_for fault))
    → IfErr r (λ fault. UnlessNoMemory fault
    ((lines later : List (List ℕ)) → StandsFor old lines
    → profile_fault (lines ++ line ∷ later) (length lines + 1) fault))
call_first old line (Ok done) h = tt
call_first old line (Err fault) h =
    unless_weaker fault
    (λ e lines later s. fault_is (lines ++ line ∷ later) (length lines + 1) fault
    (fault_of_all old line fault e lines later s))
    h
