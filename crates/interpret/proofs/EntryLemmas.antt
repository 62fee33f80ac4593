-- Entries of symbols: the last of a module up to an offset, and what it says of all others.
use Rattle.std.proofs.Common.{◌≡◌, ◌≢◌, ◌⊎◌, inl, inr, ℕ, ◌-◌, ◌<◌, ◌≤◌, Bool, true, false, ◌&&◌, ltb, leb, eqb, List}
use Rattle.std.proofs.Common.{[], ◌∷◌, ◌++◌, length, Option, Some, None, refl, sym, ap, ◌∙◌, subst, arith, true≢false}
use Rattle.std.proofs.Common.{Bor}
use Rattle.std.specs.Prelude.{find, slice_get, unwrap_or, IfNone, IfSome}
use Rattle.std.specs.Option.{option_copied, option_map}
use Rattle.std.specs.List.{list_any}
use Rattle.std.specs.Str.{bytes_eq}
use Rattle.std.proofs.lemmas.Bool.{cases_eq, cases_lt, false_from_ne_true}
use Rattle.std.proofs.lemmas.Bool.Decides.{nat_tests}
use Rattle.std.proofs.lemmas.Option.{same_Some}
use Rattle.std.proofs.lemmas.Slice.Eq.{bytes_eq-Decides}
use Rattle.intern_tables.specs.Numbers.{name_at, number_of}
use Rattle.hp_num.proofs.Laws.{and-true}
use Rattle.interpret.specs.declared.start_index.StartIndex.{StartIndex}
use Rattle.interpret.specs.declared.symbols.SymbolEntry.{SymbolEntry}
use Rattle.interpret.specs.SymbolLine.{Symbol, fields}
use Rattle.interpret.specs.SymbolList.{holds, meets}
use Rattle.interpret.specs.SymbolEntries.{AreApart, AreIndexed, AreNamed, HasNone, IsLast, holds_offset, meets_range}
use Rattle.interpret.specs.SymbolEntries.{place_at, symbol_kept, symbols_kept}
use Rattle.interpret.proofs.ListLemmas.{any-map, any-none, any-not, any-some, find-map, find-none, find-only, map-same}
use Rattle.interpret.proofs.ListLemmas.{push-cases, push-new, push-old}

-- the entry under the last start
pub last-is : (entries : List SymbolEntry) (index : StartIndex) (number offset start place : ℕ)
    (result : Option (Bor SymbolEntry))
    → AreIndexed entries index
    → option_copied result ≡ slice_get entries place → place_at index number start ≡ Some place → start ≤ offset
    → ((other at : ℕ) → other ≤ offset → place_at index number other ≡ Some at → other ≤ start)
    → IfSome result (λ x. IsLast entries number offset x.now)
last-is entries index number offset start place None indexed read found upto last = tt
last-is entries index number offset start place (Some x) indexed read found upto last =
    let kept = indexed.only number start place found in
    let same : x.now ≡ kept.0 = same_Some _ _ (read ∙ kept.1) in
    let here : x.now.start ≡ start = ap (λ (e : SymbolEntry). e.start) same ∙ kept.3 in
    record {
      place = place;
      at = sym read;
      number_is = ap (λ (e : SymbolEntry). e.module_number) same ∙ kept.2;
      upto = omega (arith, here);
      last = λ k y at of before.
          let below =
          last y.start k before (subst (λ (n : ℕ). place_at index n y.start ≡ Some k) of (indexed.placed k y at)) in
          omega (arith, here, below);
    }

-- there is one
pub last-none : (entries : List SymbolEntry) (index : StartIndex) (number offset start place : ℕ)
    (result : Option (Bor SymbolEntry))
    → AreIndexed entries index
    → option_copied result ≡ slice_get entries place → place_at index number start ≡ Some place
    → IfNone result (HasNone entries number offset)
last-none entries index number offset start place None indexed read found =
    let kept = indexed.only number start place found in
    let both = read ∙ kept.1 in
    absurd (grind (arith, both))
last-none entries index number offset start place (Some x) indexed read found = tt

-- no start up to an offset
pub none-before : (entries : List SymbolEntry) (index : StartIndex) (number offset : ℕ) → AreIndexed entries index
    → ((start : ℕ) → start ≤ offset → place_at index number start ≡ None) → HasNone entries number offset
none-before entries index number offset indexed none = λ k y at of.
    elim (cases_lt offset y.start) [
      | inl above ↦ above
      | inr upto ↦
          let both =
          sym (none y.start upto) ∙ subst (λ (n : ℕ). place_at index n y.start ≡ Some k) of (indexed.placed k y at) in
          absurd (grind (arith, both))
    ]

-- an entry up to the offset that ends after the last one is that one
pub is-last : (entries : List SymbolEntry) (index : StartIndex) (number offset bound : ℕ) (x : SymbolEntry)
    → AreIndexed entries index → IsLast entries number offset x
    → (k : ℕ) (y : SymbolEntry) → slice_get entries k ≡ Some y → y.module_number ≡ number → y.start ≤ offset
    → bound < y.end → (x.end ≤ bound) ⊎ (offset < x.end) → (bound ≡ offset) ⊎ (x.end ≤ bound) → y ≡ x
is-last entries index number offset bound x indexed last k y at of upto after end same =
    elim (cases_eq k last.place) [
      | inl here ↦ same_Some _ _ (sym at ∙ ap (λ (n : ℕ). slice_get entries n) here ∙ last.at)
      | inr other ↦
          let before = last.last k y at of upto in
          let some = indexed.some last.place x last.at in
          let low = last.upto in
          absurd (elim (indexed.apart last.place k x y last.at at (λ e. other (sym e))) [
            | inl apart ↦ apart (last.number_is ∙ sym of)
            | inr (inl left) ↦ elim end
                [ inl short ↦ omega (arith, left, before, some) | inr long ↦ omega (arith, left, upto, long) ]
            | inr (inr right) ↦ elim same
                [ inl is ↦ omega (arith, right, low, after, is) | inr short ↦ omega (arith, right, after, some, short) ]
          ])
    ]

and3 : (a b c : Bool) → a ≡ true → b ≡ true → c ≡ true → (a && (b && c)) ≡ true
and3 a b c p q r = rw (p, q, r) refl

-- what an entry that meets a range says
meets-parts : (number start end : ℕ) (y : SymbolEntry) → meets_range number start end y ≡ true
    → (y.module_number ≡ number) × (start < y.end) × (y.start < end)
meets-parts number start end y meet =
    let one = and-true (eqb y.module_number number) _ meet in
    let two = and-true (ltb start y.end) (ltb y.start end) one.1 in
    let of = one.0 in
    let left = two.0 in
    let right = two.1 in
    (grind (arith, nat_tests, of), grind (arith, nat_tests, left), grind (arith, nat_tests, right))

pub meets-last : (entries : List SymbolEntry) (index : StartIndex) (number start end : ℕ) (x : SymbolEntry)
    → AreIndexed entries index → start < end → IsLast entries number (end - 1) x
    → ltb start x.end ≡ list_any (meets_range number start end) entries
meets-last entries index number start end x indexed some last = by (ltb start x.end) refl
  where
    by : (t : Bool) → ltb start x.end ≡ t → t ≡ list_any (meets_range number start end) entries
    by true long =
        let of = last.number_is in
        let upto = last.upto in
        sym (any-some (meets_range number start end) entries last.place x last.at
        (and3 (eqb x.module_number number) (ltb start x.end) (ltb x.start end) (grind (arith, nat_tests, of)) long
        (grind (arith, nat_tests, upto, some))))
    by false short =
        let past : x.end ≤ start = grind (arith, nat_tests, short) in
        sym (any-none (meets_range number start end) entries (λ k y at.
        false_from_ne_true (meets_range number start end y) (λ meet.
        let parts = meets-parts number start end y meet in
        let same =
        is-last entries index number (end - 1) start x indexed last k y at parts.0 (omega (arith, parts.2)) parts.1
        (inl past) (inr past) in
        let end_is = ap (λ (e : SymbolEntry). e.end) same in
        let after = parts.1 in
        omega (arith, end_is, after, past))))

pub meets-none : (entries : List SymbolEntry) (number start end : ℕ) → start < end → HasNone entries number (end - 1)
    → false ≡ list_any (meets_range number start end) entries
meets-none entries number start end some none =
    sym (any-none (meets_range number start end) entries (λ k y at.
    false_from_ne_true (meets_range number start end y) (λ meet.
    let parts = meets-parts number start end y meet in
    let above = none k y at parts.0 in
    let right = parts.2 in
    omega (arith, above, right, some))))

holds-parts : (number offset : ℕ) (y : SymbolEntry) → holds_offset number offset y ≡ true
    → (y.module_number ≡ number) × (y.start ≤ offset) × (offset < y.end)
holds-parts number offset y hold =
    let one = and-true (eqb y.module_number number) _ hold in
    let two = and-true (leb y.start offset) (ltb offset y.end) one.1 in
    let of = one.0 in
    let left = two.0 in
    let right = two.1 in
    (grind (arith, nat_tests, of), grind (arith, nat_tests, left), grind (arith, nat_tests, right))

pub holds-last : (entries : List SymbolEntry) (index : StartIndex) (number offset : ℕ) (x : SymbolEntry)
    → AreIndexed entries index → IsLast entries number offset x → offset < x.end
    → find (holds_offset number offset) entries ≡ Some x
holds-last entries index number offset x indexed last within =
    let of = last.number_is in
    let upto = last.upto in
    find-only (holds_offset number offset) entries last.place x last.at
    (and3 (eqb x.module_number number) (leb x.start offset) (ltb offset x.end) (grind (arith, nat_tests, of))
    (grind (arith, nat_tests, upto)) (grind (arith, nat_tests, within)))
    (λ k y at hold.
    let parts = holds-parts number offset y hold in
    is-last entries index number offset offset x indexed last k y at parts.0 parts.1 parts.2 (inr within) (inl refl))

pub holds-past : (entries : List SymbolEntry) (index : StartIndex) (number offset : ℕ) (x : SymbolEntry)
    → AreIndexed entries index → IsLast entries number offset x → x.end ≤ offset
    → find (holds_offset number offset) entries ≡ None
holds-past entries index number offset x indexed last past =
    find-none (holds_offset number offset) entries (λ k y at.
    false_from_ne_true (holds_offset number offset y) (λ hold.
    let parts = holds-parts number offset y hold in
    let same =
    is-last entries index number offset offset x indexed last k y at parts.0 parts.1 parts.2 (inl past) (inr past) in
    let end_is = ap (λ (e : SymbolEntry). e.end) same in
    let after = parts.2 in
    omega (arith, end_is, after, past)))

pub holds-none : (entries : List SymbolEntry) (number offset : ℕ) → HasNone entries number offset
    → find (holds_offset number offset) entries ≡ None
holds-none entries number offset none =
    find-none (holds_offset number offset) entries (λ k y at.
    false_from_ne_true (holds_offset number offset y) (λ hold.
    let parts = holds-parts number offset y hold in
    let above = none k y at parts.0 in
    let upto = parts.1 in
    omega (arith, above, upto)))

-- an entry's module by its name and by its number
same-module : (names : List (List ℕ)) (entries : List SymbolEntry) (bytes : List ℕ) (number k : ℕ) (x : SymbolEntry)
    → AreNamed names entries → name_at names number ≡ Some bytes → number_of names bytes ≡ Some number
    → slice_get entries k ≡ Some x → bytes_eq bytes (symbol_kept names x).module_name ≡ eqb x.module_number number
same-module names entries bytes number k x named name_is number_is at = by (eqb x.module_number number) refl
  where
    by : (t : Bool) → eqb x.module_number number ≡ t → bytes_eq bytes (symbol_kept names x).module_name ≡ t
    by true own =
        let of : x.module_number ≡ number = grind (arith, nat_tests, own) in
        let name : (symbol_kept names x).module_name ≡ bytes =
        ap (λ (n : ℕ). unwrap_or (name_at names n) []) of ∙ ap (λ (o : Option (List ℕ)). unwrap_or o []) name_is in
        (bytes_eq-Decides bytes (symbol_kept names x).module_name).1 (sym name)
    by false other = false_from_ne_true (bytes_eq bytes (symbol_kept names x).module_name) (λ same.
        let is = (bytes_eq-Decides bytes (symbol_kept names x).module_name).0 same in
        let of : number ≡ x.module_number =
        same_Some number x.module_number
        (sym number_is ∙ ap (λ (b : List ℕ). number_of names b) is ∙ named.number k x at) in
        let back = sym of in
        grind (arith, nat_tests, other, back))

pub meets-kept : (names : List (List ℕ)) (entries : List SymbolEntry) (s : Symbol) (number : ℕ) → AreNamed names entries
    → name_at names number ≡ Some s.module_name → number_of names s.module_name ≡ Some number
    → list_any (meets s) (symbols_kept names entries) ≡ list_any (meets_range number s.start s.end) entries
meets-kept names entries s number named name_is number_is =
    any-map (meets s) (meets_range number s.start s.end) (symbol_kept names) entries (λ k x at.
    ap (λ (b : Bool). b && (ltb s.start x.end && ltb x.start s.end))
    (same-module names entries s.module_name number k x named name_is number_is at))

pub holds-kept : (names : List (List ℕ)) (entries : List SymbolEntry) (name : List ℕ) (number offset : ℕ)
    → AreNamed names entries → name_at names number ≡ Some name → number_of names name ≡ Some number
    → find (holds name offset) (symbols_kept names entries)
    ≡ option_map (symbol_kept names) (find (holds_offset number offset) entries)
holds-kept names entries name number offset named name_is number_is =
    find-map (holds name offset) (holds_offset number offset) (symbol_kept names) entries (λ k x at.
    ap (λ (b : Bool). b && (leb x.start offset && ltb offset x.end))
    (same-module names entries name number k x named name_is number_is at))

-- a name without a number is the module of no entry
pub holds-unnamed : (names : List (List ℕ)) (entries : List SymbolEntry) (name : List ℕ) (offset : ℕ)
    → AreNamed names entries → number_of names name ≡ None
    → find (holds name offset) (symbols_kept names entries) ≡ None
holds-unnamed names entries name offset named none =
    find-map (holds name offset) (λ x. false) (symbol_kept names) entries (λ k x at.
    false_from_ne_true (holds name offset (symbol_kept names x)) (λ hold.
    let parts =
    and-true (bytes_eq name (symbol_kept names x).module_name) (leb x.start offset && ltb offset x.end) hold in
    let is = (bytes_eq-Decides name (symbol_kept names x).module_name).0 parts.0 in
    let both = sym none ∙ ap (λ (b : List ℕ). number_of names b) is ∙ named.number k x at in
    grind (arith, both)))
    ∙ ap (option_map (symbol_kept names)) (find-none (λ x. false) entries (λ k x at. refl))

-- the entries as names are added

pub kept-grown : (names more : List (List ℕ)) (entries : List SymbolEntry) → AreNamed names entries
    → ((n : ℕ) → n ≤ length names → name_at more n ≡ name_at names n)
    → symbols_kept more entries ≡ symbols_kept names entries
kept-grown names more entries named stay =
    map-same (symbol_kept more) (symbol_kept names) entries (λ k x at.
    ap (λ (o : Option (List ℕ)). record {
      module_name = unwrap_or o [];
      start = x.start;
      end = x.end;
      texts = fields x.texts;
    }) (stay
    x.module_number (named.within k x at)))

pub named-grown : (names more : List (List ℕ)) (entries : List SymbolEntry) → AreNamed names entries
    → ((n : ℕ) → n ≤ length names → name_at more n ≡ name_at names n)
    → ((name : List ℕ) (n : ℕ) → number_of names name ≡ Some n → number_of more name ≡ Some n)
    → length names ≤ length more → AreNamed more entries
named-grown names more entries named stay numbers fewer = record {
  number = λ k x at.
      ap (λ (o : Option (List ℕ)). number_of more (unwrap_or o [])) (stay x.module_number (named.within k x at))
      ∙ numbers (symbol_kept names x).module_name x.module_number (named.number k x at);
  within = λ k x at. let before = named.within k x at in omega (arith, before, fewer);
}

-- one more entry

pub named-push : (names : List (List ℕ)) (entries : List SymbolEntry) (y : SymbolEntry) (bytes : List ℕ)
    → AreNamed names entries → name_at names y.module_number ≡ Some bytes → number_of names bytes ≡ Some y.module_number
    → y.module_number ≤ length names
    → AreNamed names (entries ++ y ∷ [])
named-push names entries y bytes named name_is number_is within = record {
  number = λ k x at. elim (push-cases entries y x k at) [
    | inl old ↦ named.number k x old
    | inr new ↦ subst (λ (e : SymbolEntry). number_of names (symbol_kept names e).module_name ≡ Some e.module_number)
        (sym new.1) (ap (λ (o : Option (List ℕ)). number_of names (unwrap_or o [])) name_is ∙ number_is)
  ];
  within = λ k x at. elim (push-cases entries y x k at) [
    | inl old ↦ named.within k x old
    | inr new ↦ subst (λ (e : SymbolEntry). e.module_number ≤ length names) (sym new.1) within
  ];
}

-- an entry that doesn't meet a range is apart from the entry with it
apart-from : (x y : SymbolEntry) → meets_range y.module_number y.start y.end x ≡ false → AreApart x y
apart-from x y not = by (eqb x.module_number y.module_number) (ltb y.start x.end) (ltb x.start y.end) refl refl refl not
  where
    by : (a b c : Bool) → eqb x.module_number y.module_number ≡ a → ltb y.start x.end ≡ b → ltb x.start y.end ≡ c
        → (a && (b && c)) ≡ false → AreApart x y
    by false b c p q r not = inl (λ same. absurd (grind (arith, nat_tests, p, same)))
    by true false c p q r not = inr (inl (grind (arith, nat_tests, q)))
    by true true false p q r not = inr (inr (grind (arith, nat_tests, r)))
    by true true true p q r not = absurd (true≢false not)

apart-back : (x y : SymbolEntry) → AreApart x y → AreApart y x
apart-back x y (inl other) = inl (λ same. other (sym same))
apart-back x y (inr (inl left)) = inr (inr left)
apart-back x y (inr (inr right)) = inr (inl right)

-- entries that are apart have different keys
keys-differ : (x y : SymbolEntry) → x.start < x.end → y.start < y.end → AreApart x y
    → (x.module_number ≢ y.module_number) ⊎ (x.start ≢ y.start)
keys-differ x y some more (inl other) = inl other
keys-differ x y some more (inr (inl left)) = inr (λ same. omega (arith, same, left, some, more))
keys-differ x y some more (inr (inr right)) = inr (λ same. omega (arith, same, right, some, more))

pub indexed-push : (entries : List SymbolEntry) (index new : StartIndex) (y : SymbolEntry) → AreIndexed entries index
    → y.start < y.end → list_any (meets_range y.module_number y.start y.end) entries ≡ false
    → place_at new y.module_number y.start ≡ Some (length entries)
    → ((number start : ℕ) → (number ≢ y.module_number) ⊎ (start ≢ y.start)
    → place_at new number start ≡ place_at index number start)
    → AreIndexed (entries ++ y ∷ []) new
indexed-push entries index new y indexed more none here others = record {
  some = λ k x at. elim (push-cases entries y x k at) [
    | inl old ↦ indexed.some k x old
    | inr is ↦ subst (λ (e : SymbolEntry). e.start < e.end) (sym is.1) more
  ];
  apart = apart;
  placed = λ k x at. elim (push-cases entries y x k at) [
    | inl old ↦ others x.module_number x.start (keys-differ x y (indexed.some k x old) more (from-new k x old))
        ∙ indexed.placed k x old
    | inr is ↦ subst (λ (e : SymbolEntry). place_at new e.module_number e.start ≡ Some k) (sym is.1)
        (here ∙ ap (λ (n : ℕ). Some n) (sym is.0))
  ];
  only = only;
}
  where
    from-new : (k : ℕ) (x : SymbolEntry) → slice_get entries k ≡ Some x → AreApart x y
    from-new k x at = apart-from x y (any-not (meets_range y.module_number y.start y.end) entries k x none at)

    apart : (j k : ℕ) (x z : SymbolEntry) → slice_get (entries ++ y ∷ []) j ≡ Some x
        → slice_get (entries ++ y ∷ []) k ≡ Some z → j ≢ k → AreApart x z
    apart j k x z at there other =
        elim (push-cases entries y x j at) [
          | inl old ↦ elim (push-cases entries y z k there) [
            | inl older ↦ indexed.apart j k x z old older other
            | inr is ↦ subst (λ (e : SymbolEntry). AreApart x e) (sym is.1) (from-new j x old)
          ]
          | inr is ↦ elim (push-cases entries y z k there) [
            | inl older ↦ subst (λ (e : SymbolEntry). AreApart e z) (sym is.1) (apart-back z y (from-new k z older))
            | inr same ↦ absurd (other (is.0 ∙ sym same.0))
          ]
        ]

    only : (number start k : ℕ) → place_at new number start ≡ Some k
        → (x : SymbolEntry) × (slice_get (entries ++ y ∷ []) k ≡ Some x) × (x.module_number ≡ number) ×
        (x.start ≡ start)
    only number start k at =
        elim (cases_eq number y.module_number) [
          | inl of ↦ elim (cases_eq start y.start) [
            | inl begins ↦
                let place : k ≡ length entries =
                same_Some k (length entries)
                (sym at ∙ ap (λ (n : ℕ). place_at new n start) of
                ∙ ap (λ (n : ℕ). place_at new y.module_number n) begins ∙ here) in
                (y, ap (λ (n : ℕ). slice_get (entries ++ y ∷ []) n) place ∙ push-new entries y, sym of, sym begins)
            | inr differ ↦ old number start k (inr differ) at
          ]
          | inr differ ↦ old number start k (inl differ) at
        ]
      where
        old : (number start k : ℕ) → (number ≢ y.module_number) ⊎ (start ≢ y.start) → place_at new number start ≡ Some k
            → (x : SymbolEntry) × (slice_get (entries ++ y ∷ []) k ≡ Some x) × (x.module_number ≡ number)
            × (x.start ≡ start)
        old number start k differ at =
            let kept = indexed.only number start k (sym (others number start differ) ∙ at) in
            (kept.0, push-old entries y kept.0 k kept.1, kept.2, kept.3)
