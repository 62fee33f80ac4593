-- The module that counts at an address, as modules are put over one another.
use Rattle.std.proofs.Common.{◌≡◌, ◌≢◌, ◌⊎◌, inl, inr, ℕ, zero, suc, ◌<◌, ◌≤◌, Bool, true, false, cond, ltb, eqb, List}
use Rattle.std.proofs.Common.{[], ◌∷◌, ◌++◌, length, map, Option, Some, None, refl, sym, ap, ◌∙◌, subst, arith}
use Rattle.std.specs.Prelude.{unwrap_or, ◌&&◌, nat_le, nat_lt, if◌then◌else◌, find, reverse}
use Rattle.std.specs.List.{list_any}
use Rattle.std.specs.Ordering.{is_eq, is_gt, nat_cmp}
use Rattle.std.specs.declared.cmp.Ordering.{Ordering}
use Rattle.std.specs.declared.cmp.Ordering.TheVariants.{Less, Equal, Greater}
use Rattle.std.proofs.lemmas.Bool.{cases_eq}
use Rattle.std.proofs.lemmas.Bool.Decides.{nat_tests}
use Rattle.std.proofs.lemmas.List.{map-append, reverse-append}
use Rattle.interpret.specs.declared.address_index.AddressIndex.{AddressIndex}
use Rattle.interpret.specs.declared.modules.AddressRange.{AddressRange}
use Rattle.interpret.specs.declared.modules.ModuleEntry.{ModuleEntry}
use Rattle.interpret.specs.Holders.{change_at, holder_at}
use Rattle.interpret.specs.ModuleEntries.{AreHeld, Holds, module_kept}
use Rattle.interpret.specs.Modules.{LoadedModule, holds_address, in_range, module_of}
use Rattle.interpret.proofs.ListLemmas.{push-new, push-old}

-- the order of addresses, as the map of changes has it
pub address-upto : (k ip : ℕ) → k ≤ ip → is_gt (nat_cmp k ip) ≡ false
address-upto k ip upto = by (ltb k ip) (eqb k ip) refl refl
  where
    by : (l e : Bool) → ltb k ip ≡ l → eqb k ip ≡ e
        → is_gt (cond {A = Ordering} l Less (cond {A = Ordering} e Equal Greater)) ≡ false
    by true e p q = refl
    by false true p q = refl
    by false false p q = absurd (grind (arith, nat_tests, p, q, upto))

pub address-apart : (k other : ℕ) → k ≢ other → is_eq (nat_cmp k other) ≡ false
address-apart k other apart = by (ltb k other) (eqb k other) refl
  where
    by : (l e : Bool) → eqb k other ≡ e
        → is_eq (cond {A = Ordering} l Less (cond {A = Ordering} e Equal Greater)) ≡ false
    by true e q = refl
    by false true q = absurd (apart (grind (arith, nat_tests, q)))
    by false false q = refl

-- what the first address says
holder-first : (one : AddressIndex) (held : Option (Option ℕ)) → change_at one 0 ≡ held
    → holder_at one 0 ≡ unwrap_or held None
unfolding holder_at
holder-first one held at = ap (λ (o : Option (Option ℕ)). unwrap_or o None) at

-- what a change says holds there
pub holder-here : (index : AddressIndex) (from : ℕ) (held : Option ℕ) → change_at index from ≡ Some held
    → holder_at index from ≡ held
unfolding holder_at
holder-here index zero held at = ap (λ (o : Option (Option ℕ)). unwrap_or o None) at
holder-here index (suc from) held at = ap (λ (o : Option (Option ℕ)). unwrap_or o (holder_at index from)) at

-- two indexes that agree at an address agree up to where their changes differ
pub holder-same : (one other : AddressIndex) (from ip : ℕ) → from ≤ ip → holder_at one from ≡ holder_at other from
    → ((k : ℕ) → from < k → k ≤ ip → change_at one k ≡ change_at other k) → holder_at one ip ≡ holder_at other ip
unfolding holder_at
holder-same one other from zero upto here same =
    let is : from ≡ zero = omega (arith, upto) in
    subst (λ (n : ℕ). holder_at one n ≡ holder_at other n) is here
holder-same one other from (suc ip) upto here same =
    elim (cases_eq from (suc ip)) [
      | inl is ↦ subst (λ (n : ℕ). holder_at one n ≡ holder_at other n) is here
      | inr not ↦
          let below : from ≤ ip = omega (arith, upto, not) in
          ap (λ (o : Option (Option ℕ)). unwrap_or o (holder_at one ip))
          (same (suc ip) (omega (arith, below)) (omega arith))
          ∙ ap (λ (h : Option ℕ). unwrap_or (change_at other (suc ip)) h)
          (holder-same one other from ip below here (λ k after within. same k after (omega (arith, within))))
    ]

-- without a change between, what holds at an address holds at a later one
pub holder-kept : (index : AddressIndex) (from ip : ℕ) → from ≤ ip
    → ((k : ℕ) → from < k → k ≤ ip → change_at index k ≡ None) → holder_at index ip ≡ holder_at index from
unfolding holder_at
holder-kept index from zero upto none =
    let is : zero ≡ from = omega (arith, upto) in
    ap (holder_at index) is
holder-kept index from (suc ip) upto none =
    elim (cases_eq from (suc ip)) [
      | inl is ↦ ap (holder_at index) (sym is)
      | inr not ↦
          let below : from ≤ ip = omega (arith, upto, not) in
          ap (λ (o : Option (Option ℕ)). unwrap_or o (holder_at index ip))
          (none (suc ip) (omega (arith, below)) (omega arith))
          ∙ holder-kept index from ip below (λ k after within. none k after (omega (arith, within)))
    ]

-- the last change up to an address
pub holder-last : (index : AddressIndex) (from ip : ℕ) (held : Option ℕ) → from ≤ ip → change_at index from ≡ Some held
    → ((k : ℕ) → from < k → k ≤ ip → change_at index k ≡ None) → holder_at index ip ≡ held
holder-last index from ip held upto at none = holder-kept index from ip upto none ∙ holder-here index from held at

-- no change up to an address
pub holder-before : (index : AddressIndex) (ip : ℕ) → ((k : ℕ) → k ≤ ip → change_at index k ≡ None)
    → holder_at index ip ≡ None
holder-before index ip none =
    holder-kept index 0 ip (omega arith) (λ k after within. none k within)
    ∙ holder-first index None (none 0 (omega arith))

-- one more module over a range
pub holder-put : (old new : AddressIndex) (range : AddressRange) (place : ℕ) → range.begin < range.end
    → change_at new range.begin ≡ Some (Some place)
    → ((k : ℕ) → range.begin < k → k < range.end → change_at new k ≡ None)
    → change_at new range.end ≡ Some (holder_at old range.end)
    → ((k : ℕ) → (k < range.begin) ⊎ (range.end < k) → change_at new k ≡ change_at old k)
    → (ip : ℕ) → holder_at new ip ≡ (if in_range ip range then Some place else holder_at old ip)
holder-put old new range place some begins within ends others ip =
    by (nat_le range.begin ip) (nat_lt ip range.end) refl refl
  where
    by : (a b : Bool) → nat_le range.begin ip ≡ a → nat_lt ip range.end ≡ b
        → holder_at new ip ≡ cond {A = Option ℕ} (a && b) (Some place) (holder_at old ip)
    by true true low high =
        let from : range.begin ≤ ip = grind (arith, nat_tests, low) in
        let upto : ip < range.end = grind (arith, nat_tests, high) in
        holder-last new range.begin ip (Some place) from begins
        (λ k after until. within k after (omega (arith, until, upto)))
    by true false low high =
        let behind : range.end ≤ ip = grind (arith, nat_tests, high) in
        holder-same new old range.end ip behind (holder-here new range.end (holder_at old range.end) ends)
        (λ k after until. others k (inr after))
    by false b low high =
        let before : ip < range.begin = grind (arith, nat_tests, low) in
        holder-same new old 0 ip (omega arith)
        (holder-first new (change_at old 0) (others 0 (inl (omega (arith, before))))
        ∙ sym (holder-first old (change_at old 0) refl))
        (λ k after until. others k (inl (omega (arith, until, before))))

-- no change at all
pub holder-none : (index : AddressIndex) → ((k : ℕ) → change_at index k ≡ None) → (ip : ℕ) → holder_at index ip ≡ None
holder-none index none ip = holder-before index ip (λ k within. none k)

-- one more module
pub held-push : (entries : List ModuleEntry) (y : ModuleEntry) (old new : AddressIndex) → AreHeld entries old
    → ((ip : ℕ)
    → holder_at new ip ≡ (if list_any (in_range ip) y.ranges.items then Some (length entries) else holder_at old ip))
    → AreHeld (entries ++ y ∷ []) new
held-push entries y old new held put ip =
    subst (λ (h : Option ℕ). Holds (entries ++ y ∷ []) ip h) (sym (put ip))
    (by (list_any (in_range ip) y.ranges.items) refl)
  where
    last : module_of (map module_kept (entries ++ y ∷ [])) ip
        ≡ cond {A = Option LoadedModule} (list_any (in_range ip) y.ranges.items) (Some (module_kept y))
        (module_of (map module_kept entries) ip)
    last =
        ap (λ (ms : List LoadedModule). find (holds_address ip) ms)
        (ap (λ (ms : List LoadedModule). reverse ms) (map-append module_kept entries (y ∷ []))
        ∙ reverse-append (map module_kept entries) (module_kept y ∷ []))

    at : (b : Bool) → list_any (in_range ip) y.ranges.items ≡ b
        → module_of (map module_kept (entries ++ y ∷ [])) ip
        ≡ cond {A = Option LoadedModule} b (Some (module_kept y)) (module_of (map module_kept entries) ip)
    at b is =
        last
        ∙ ap (λ (t : Bool). cond {A = Option LoadedModule} t (Some (module_kept y))
        (module_of (map module_kept entries) ip)) is

    older : (h : Option ℕ) → list_any (in_range ip) y.ranges.items ≡ false → Holds entries ip h
        → Holds (entries ++ y ∷ []) ip h
    older None is none = at false is ∙ none
    older (Some place) is of = (of.0, push-old entries y of.0 place of.1, at false is ∙ of.2)

    by : (b : Bool) → list_any (in_range ip) y.ranges.items ≡ b
        → Holds (entries ++ y ∷ []) ip (cond {A = Option ℕ} b (Some (length entries)) (holder_at old ip))
    by true is = (y, push-new entries y, at true is)
    by false is = older (holder_at old ip) is (held ip)
