-- The pointers that stand for blocks, with one line more.
use Rattle.std.proofs.Common.{◌≡◌, ℕ, ◌<◌, ◌≤◌, Bool, true, false, cond, ◌||◌, List, [], ◌∷◌, ◌++◌, length, reverse}
use Rattle.std.proofs.Common.{Option, Some, None, refl, sym, ap, ◌∙◌, arith, subst}
use Rattle.std.specs.Prelude.{◌==◌, IfSome}
use Rattle.std.specs.List.{list_any}
use Rattle.std.specs.Option.{option_to_list}
use Rattle.std.proofs.lemmas.Bool.Decides.{nat_tests}
use Rattle.std.proofs.lemmas.List.{reverse-append}
use Rattle.std.proofs.lemmas.List.Folds.{list_any-append, position_or_len_push}
use Rattle.ht_lines.specs.Content.{Content, raw_allocation_line, raw_free_line}
use Rattle.interpret.specs.declared.infos.AllocationInfo.{AllocationInfo}
use Rattle.interpret.specs.FirstAppearances.{with_all, with_new}
use Rattle.interpret.specs.InterpreterState.{PointsAs, info_after, info_at}
use Rattle.interpret.specs.RawBlocks.{RawBlock, freed_info, held, held_back}
use Rattle.interpret.specs.RawTables.{info_in, info_number, same_info}
use Rattle.interpret.proofs.AddingLemmas.{all-no_fewer}
use Rattle.interpret.proofs.FirstLemmas.{place-within}
use Rattle.interpret.proofs.RepeatLemmas.{infos-decide}

-- the last line tells what a pointer stands for, or those before it
pub held-push : (said : List Content) (c : Content) (ptr : ℕ)
    → held (said ++ c ∷ []) ptr ≡ held_back (c ∷ reverse said) ptr
unfolding held
held-push said c ptr = ap (λ (l : List Content). held_back l ptr) (reverse-append said (c ∷ []))

-- the number of an info that is held stays
pub number-stays : (infos : List AllocationInfo) (info other : AllocationInfo) → info_number infos other < length infos
    → info_number (with_new same_info infos info) other ≡ info_number infos other
number-stays infos info other within = by (list_any (same_info info) infos)
  where
    by : (b : Bool) → info_number (cond b infos (infos ++ info ∷ [])) other ≡ info_number infos other
    by true = refl
    by false = let push = position_or_len_push (same_info other) infos info in grind (arith, nat_tests)

pub numbers-stay : (infos more : List AllocationInfo) (other : AllocationInfo) → info_number infos other < length infos
    → info_number (with_all same_info infos more) other ≡ info_number infos other
numbers-stay infos [] other within = refl
numbers-stay infos (info ∷ more) other within =
    let here = number-stays infos info other within in
    let few = all-no_fewer same_info infos (info ∷ []) in
    let still : info_number (with_new same_info infos info) other < length (with_new same_info infos info) =
    omega (arith, here, few, within) in
    numbers-stay (with_new same_info infos info) more other still ∙ here

-- an info that is added is held
pub info-held : (infos : List AllocationInfo) (info : AllocationInfo)
    → info_number (with_new same_info infos info) info < length (with_new same_info infos info)
info-held infos info =
    place-within (same_info info) (with_new same_info infos info) (by (list_any (same_info info) infos) refl)
  where
    by : (b : Bool) → list_any (same_info info) infos ≡ b
        → list_any (same_info info) (cond b infos (infos ++ info ∷ [])) ≡ true
    by true e = e
    by false e =
        list_any-append (same_info info) infos (info ∷ []) ∙ ap (λ (b : Bool). b || (same_info info info || false)) e
        ∙ ap (λ (b : Bool). b || false) ((infos-decide info info).1 refl)

-- the info of a block stays as the infos grow
freed-stays : (infos more : List AllocationInfo) (block : Option RawBlock)
    → IfSome (freed_info infos block) (λ n. n < length infos)
    → freed_info (with_all same_info infos more) block ≡ freed_info infos block
freed-stays infos more None within = refl
freed-stays infos more (Some block) within = ap Some (numbers-stay infos more block.info within)

within-more : (o : Option ℕ) (m n : ℕ) → m ≤ n → IfSome o (λ k. k < m) → IfSome o (λ k. k < n)
within-more None m n few within = tt
within-more (Some k) m n few within = omega arith

-- the info and the bound of a pointer that the line doesn't name
stays : (pointers : List (ℕ × ℕ)) (infos more : List AllocationInfo) (said : List Content) (ptr : ℕ)
    → PointsAs pointers infos said
    → (info_at pointers ptr ≡ freed_info (with_all same_info infos more) (held said ptr))
    × IfSome (info_at pointers ptr) (λ n. n < length (with_all same_info infos more))
stays pointers infos more said ptr points =
    let within = subst (λ (o : Option ℕ). IfSome o (λ n. n < length infos)) (points.info ptr) (points.within ptr) in (
      points.info ptr ∙ sym (freed-stays infos more (held said ptr) within),
      within-more (info_at pointers ptr) (length infos) (length (with_all same_info infos more))
          (all-no_fewer same_info infos more) (points.within ptr),
    )

-- what one line does to a pointer
record Points (infos : List AllocationInfo) (o : Option ℕ) (block : Option RawBlock) : Type 0 where
  info : o ≡ freed_info infos block
  within : IfSome o (λ n. n < length infos)

point-push : (pointers : List (ℕ × ℕ)) (infos : List AllocationInfo) (said : List Content) (c : Content) (ptr : ℕ)
    → PointsAs pointers infos said
    → Points (with_all same_info infos (option_to_list (info_in c)))
    (info_after (with_all same_info infos (option_to_list (info_in c))) c ptr (info_at pointers ptr))
    (held_back (c ∷ reverse said) ptr)
unfolding held
point-push pointers infos said (raw_allocation_line size trace named) ptr points =
    by (named == ptr) (stays pointers infos (record { size = size; trace = trace } ∷ []) said ptr points)
  where
    by : (b : Bool)
        → (info_at pointers ptr
        ≡ freed_info (with_new same_info infos (record { size = size; trace = trace })) (held_back (reverse said) ptr))
        × IfSome (info_at pointers ptr)
        (λ n. n < length (with_new same_info infos (record { size = size; trace = trace })))
        → Points (with_new same_info infos (record { size = size; trace = trace }))
        (cond {A = Option ℕ} b
        (Some
        (info_number (with_new same_info infos (record { size = size; trace = trace }))
        (record { size = size; trace = trace })))
        (info_at pointers ptr))
        (cond {A = Option RawBlock} b
        (Some (record { place = length (reverse said); info = record { size = size; trace = trace } }))
        (held_back (reverse said) ptr))
    by true same = record { info = refl; within = info-held infos (record { size = size; trace = trace }) }
    by false same = record { info = same.0; within = same.1 }
point-push pointers infos said (raw_free_line named) ptr points =
    by (named == ptr) (stays pointers infos [] said ptr points)
  where
    by : (b : Bool)
        → (info_at pointers ptr ≡ freed_info infos (held_back (reverse said) ptr))
        × IfSome (info_at pointers ptr) (λ n. n < length infos)
        → Points infos (cond {A = Option ℕ} b None (info_at pointers ptr))
        (cond {A = Option RawBlock} b None (held_back (reverse said) ptr))
    by true same = record { info = refl; within = tt }
    by false same = record { info = same.0; within = same.1 }
point-push pointers infos said c ptr points =
    let same = stays pointers infos [] said ptr points in record { info = same.0; within = same.1 }

-- what pointers have after one line more
pub points-push : (old new : List (ℕ × ℕ)) (infos new_infos : List AllocationInfo) (said : List Content) (c : Content)
    → PointsAs old infos said → new_infos ≡ with_all same_info infos (option_to_list (info_in c))
    → ((ptr : ℕ) → info_at new ptr ≡ info_after new_infos c ptr (info_at old ptr))
    → PointsAs new new_infos (said ++ c ∷ [])
points-push old new infos new_infos said c points is after = record {
  info = λ ptr.
      let here = point-push old infos said c ptr points in
      after ptr ∙ ap (λ (l : List AllocationInfo). info_after l c ptr (info_at old ptr)) is ∙ here.info
      ∙ ap (λ (l : List AllocationInfo). freed_info l (held_back (c ∷ reverse said) ptr)) (sym is)
      ∙ ap (λ (o : Option RawBlock). freed_info new_infos o) (sym (held-push said c ptr));
  within = λ ptr.
      let here = point-push old infos said c ptr points in
      subst (λ (l : List AllocationInfo). IfSome (info_at new ptr) (λ n. n < length l)) (sym is)
      (subst (λ (o : Option ℕ). IfSome o (λ n. n < length (with_all same_info infos (option_to_list (info_in c)))))
      (sym (after ptr ∙ ap (λ (l : List AllocationInfo). info_after l c ptr (info_at old ptr)) is)) here.within);
}
