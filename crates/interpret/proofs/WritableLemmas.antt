-- What the interpreted lines of a raw line say may be written in its file version.
use Rattle.std.proofs.Common.{◌≡◌, ℕ, ◌+◌, ◌-◌, ◌%◌, ◌^◌, ◌<◌, ◌≤◌, ◌⊎◌, inl, inr, Bool, true, false, not, cond, ◌&&◌}
use Rattle.std.proofs.Common.{List, [], ◌∷◌, ◌++◌, length, map, reverse, Option, Some, None, refl, sym, ap, arith}
use Rattle.std.proofs.Common.{subst, true≢false}
use Rattle.std.specs.Prelude.{◌==◌, find, nat_le, nat_lt, position, unwrap_or}
use Rattle.std.specs.List.{AllByRecursion, flat_map, position_or_len}
use Rattle.std.specs.Option.{option_map, option_to_list}
use Rattle.std.specs.Str.{bytes_eq}
use Rattle.std.specs.Str.Parse.{digits_value}
use Rattle.std.proofs.lemmas.Bool.Decides.{nat_tests}
use Rattle.std.proofs.lemmas.List.{reverse-append}
use Rattle.hp_num.specs.Numeral.{is_numeral}
use Rattle.hp_num.specs.ParsedDec.{parsed_dec}
use Rattle.ht_lines.specs.Content.{string_line, node_line, allocation_line, free_line}
use Rattle.ht_lines.specs.declared.item.Form.TheVariants.{Interpreted}
use Rattle.ht_lines.specs.Written.{AreWords, IsWritable}
use Rattle.ht_trace.specs.LineFault.{most_entries}
use Rattle.intern_tables.specs.Numbers.{number_of}
use Rattle.interpret.specs.declared.infos.AllocationInfo.{AllocationInfo}
use Rattle.interpret.specs.FirstAppearances.{with_all}
use Rattle.interpret.specs.Interpreted.{info_said, new_in}
use Rattle.interpret.specs.InterpretedTrace.{HasShortTexts}
use Rattle.interpret.specs.Modules.{LoadedModule, holds_address, module_of}
use Rattle.interpret.specs.RawBlocks.{RawBlock, freed_info}
use Rattle.interpret.specs.RawTables.{KnownIp, RawTables, info_number, ip_number, is_numbered, names_with, new_call}
use Rattle.interpret.specs.RawTables.{same_info}
use Rattle.interpret.specs.Resolved.{Resolved, SourceFrame, frame_names, frame_numbers, frames_of, instruction_said}
use Rattle.interpret.specs.Resolved.{module_number, name_number, names_called, resolved, resolved_in, texts_in}
use Rattle.interpret.specs.SymbolLine.{Symbol}
use Rattle.interpret.specs.SymbolList.{holds, symbol_at}
use Rattle.interpret.proofs.FirstLemmas.{place-within, position-some}
use Rattle.interpret.proofs.LedgerLemmas.{all-append}
use Rattle.interpret.proofs.TakeLemmas.{resolved-ip}
use Rattle.interpret.proofs.ToldLemmas.{all-more, new-grown, numbers-count, resolved-texts}

-- what is found is one of the list
pub find-all : {X : Type 0} (P : X → Type 0) (p : X → Bool) (xs : List X) (x : X) → AllByRecursion P xs
    → find p xs ≡ Some x → P x
find-all P p [] x all is = absurd (cc)
find-all {X} P p (y ∷ ys) x all is = by (p y) is (λ rest. find-all P p ys x all.1 rest)
  where
    by : (b : Bool) → cond {A = Option X} b (Some y) (find p ys) ≡ Some x → (find p ys ≡ Some x → P x) → P x
    by true is rest = let same : y ≡ x = cc in subst P same all.0
    by false is rest = rest is

reverse-all : {X : Type 0} (P : X → Type 0) (xs : List X) → AllByRecursion P xs → AllByRecursion P (reverse xs)
reverse-all P [] all = tt
reverse-all {X} P (x ∷ xs) all =
    subst (λ (l : List X). AllByRecursion P l) (sym (reverse-append (x ∷ []) xs))
    (all-append P (reverse xs) (x ∷ []) (reverse-all P xs all.1) (all.0, tt))

place-most : {X : Type 0} (p : X → Bool) (xs : List X) → position_or_len p xs ≤ length xs
place-most p [] = omega arith
place-most p (x ∷ xs) =
    elim (p x) as (λ b. cond (not b) (1 + position_or_len p xs) 0 ≤ length (x ∷ xs)) [
      | true ↦ omega arith
      | false ↦ let rest = place-most p xs in omega (arith, rest)
    ]

-- a number of names is at most their count
pub name-few : (names : List (List ℕ)) (name : List ℕ) → name_number names name ≤ length names
unfolding number_of
name-few names name = by (position (bytes_eq name) names) refl
  where
    by : (o : Option ℕ) → position (bytes_eq name) names ≡ o
        → unwrap_or (option_map (λ place. place + 1) o) 0 ≤ length names
    by None is = omega arith
    by (Some place) is =
        let at =
        position-some (bytes_eq name) names place is in let within =
        place-within (bytes_eq name) names at.0 in omega (arith, at.1, within)

pub module-few : (names : List (List ℕ)) (o : Option (List ℕ)) → module_number names o ≤ length names
module-few names None = omega arith
module-few names (Some name) = name-few names name

dec-few : (text : List ℕ) → unwrap_or (parsed_dec text) 0 < 2 ^ 64
unfolding parsed_dec
dec-few text = by (is_numeral 10 20 text && nat_lt (digits_value 10 text) (2 ^ 64)) refl
  where
    both : (a b : Bool) → (a && b) ≡ true → b ≡ true
    both true b is = is
    both false b is = absurd (true≢false (sym is))

    by : (b : Bool) → (is_numeral 10 20 text && nat_lt (digits_value 10 text) (2 ^ 64)) ≡ b
        → unwrap_or (cond {A = Option ℕ} b (Some (digits_value 10 text)) None) 0 < 2 ^ 64
    by true is =
        let less =
        both (is_numeral 10 20 text) (nat_lt (digits_value 10 text) (2 ^ 64)) is in grind (arith, nat_tests, less)
    by false is = omega arith

-- numbers of frames fit
frames-words : (names : List (List ℕ)) (texts : List (List ℕ)) → length names ≤ most_entries
    → AreWords (flat_map (frame_numbers names) (frames_of texts))
frames-words names [] few = tt
frames-words names (function ∷ []) few = let a = name-few names function in (omega (arith, a, few), tt)
frames-words names (function ∷ file ∷ []) few = let a = name-few names function in (omega (arith, a, few), tt)
frames-words names (function ∷ file ∷ line ∷ more) few =
    let a = name-few names function in
    let b = name-few names file in
    (omega (arith, a, few), (omega (arith, b, few), (dec-few line, frames-words names more few)))

frames-third : (names : List (List ℕ)) (texts : List (List ℕ))
    → (length (flat_map (frame_numbers names) (frames_of texts)) % 3 ≡ 1)
    ⊎ (length (flat_map (frame_numbers names) (frames_of texts)) % 3 ≡ 0)
frames-third names texts =
    elim (numbers-count names texts) [
      | inl is ↦ inr (omega (arith, is))
      | inr is ↦ inl (omega (arith, is))
    ]

call-writable : (v : ℕ) (names : List (List ℕ)) (symbols : List Symbol) (loaded : List LoadedModule) (ip : ℕ)
    → ip < 2 ^ 64 → length names ≤ most_entries
    → IsWritable Interpreted v (instruction_said names (resolved symbols loaded ip))
unfolding instruction_said
call-writable v names symbols loaded ip fits few =
    let found : Resolved = resolved symbols loaded ip in
    let texts = resolved-texts symbols loaded ip in
    let frames : flat_map (frame_numbers names) found.frames ≡ flat_map (frame_numbers names) (frames_of texts.0) =
    ap (λ (fs : List SourceFrame). flat_map (frame_numbers names) fs) texts.1 in
    let ip_is = resolved-ip symbols loaded ip in
    let module_few = module-few names found.module_name in (
      (
        omega (arith, ip_is, fits),
        (
          omega (arith, module_few, few),
          subst (λ (ns : List ℕ). AreWords ns) (sym frames) (frames-words names texts.0 few),
        ),
      ),
      subst (λ (ns : List ℕ). (length ns % 3 ≡ 1) ⊎ (length ns % 3 ≡ 0)) (sym frames) (frames-third names texts.0),
      refl,
    )

-- the names that an instruction calls for have what the texts of symbols and the names of modules have

frame-names : (P : List ℕ → Type 0) (texts : List (List ℕ)) → AllByRecursion P texts
    → AllByRecursion P (flat_map frame_names (frames_of texts))
frame-names P [] all = tt
frame-names P (function ∷ []) all = (all.0, tt)
frame-names P (function ∷ file ∷ []) all = (all.0, tt)
frame-names P (function ∷ file ∷ line ∷ more) all = (all.0, (all.1.0, frame-names P more all.1.1.1))

texts-all : (P : List ℕ → Type 0) (symbols : List Symbol) (m : LoadedModule) (ip : ℕ)
    → AllByRecursion (λ (s : Symbol). AllByRecursion P s.texts) symbols → AllByRecursion P (texts_in symbols m ip)
texts-all P symbols m ip all = by (nat_le m.start ip)
  where
    at : (o : Option Symbol) → symbol_at symbols m.name (ip - m.start) ≡ o
        → AllByRecursion P (unwrap_or (option_map (λ (s : Symbol). s.texts) o) [])
    at None is = tt
    at (Some s) is = find-all (λ (s : Symbol). AllByRecursion P s.texts) (holds m.name (ip - m.start)) symbols s all is

    by : (b : Bool)
        → AllByRecursion P
        (cond b (unwrap_or (option_map (λ (s : Symbol). s.texts) (symbol_at symbols m.name (ip - m.start))) []) [])
    by true = at (symbol_at symbols m.name (ip - m.start)) refl
    by false = tt

called-all : (P : List ℕ → Type 0) (symbols : List Symbol) (loaded : List LoadedModule) (ip : ℕ)
    → AllByRecursion (λ (s : Symbol). AllByRecursion P s.texts) symbols
    → AllByRecursion (λ (m : LoadedModule). P m.name) loaded
    → AllByRecursion P (names_called (resolved symbols loaded ip))
unfolding names_called resolved
called-all P symbols loaded ip texts names = by (module_of loaded ip) refl
  where
    by : (o : Option LoadedModule) → module_of loaded ip ≡ o
        → AllByRecursion P
        (option_to_list (resolved_in symbols o ip).module_name ++ flat_map frame_names
        (resolved_in symbols o ip).frames)
    by None is = tt
    by (Some m) is = (
      find-all (λ (m : LoadedModule). P m.name) (holds_address ip) (reverse loaded) m
          (reverse-all (λ (m : LoadedModule). P m.name) loaded names) is,
      frame-names P (texts_in symbols m ip) (texts-all P symbols m ip texts),
    )

-- so have the names that a node's line adds
pub fresh-all : (P : List ℕ → Type 0) (symbols : List Symbol) (tables : RawTables) (ip : ℕ)
    → AllByRecursion (λ (s : Symbol). AllByRecursion P s.texts) symbols
    → AllByRecursion (λ (m : LoadedModule). P m.name) tables.loaded
    → AllByRecursion P (new_in tables.names (names_with tables.names (new_call symbols tables ip)))
fresh-all P symbols tables ip texts names =
    let called = by (is_numbered tables.known ip) in
    let grows =
    all-more P bytes_eq tables.names (flat_map names_called (option_to_list (new_call symbols tables ip))) called in
    subst (λ (l : List (List ℕ)). AllByRecursion P l)
    (sym (new-grown P tables.names (names_with tables.names (new_call symbols tables ip)) grows)) grows.each
  where
    by : (b : Bool)
        → AllByRecursion P
        (flat_map names_called
        (option_to_list (cond {A = Option Resolved} b None (Some (resolved symbols tables.loaded ip)))))
    by true = tt
    by false =
        all-append P (names_called (resolved symbols tables.loaded ip)) []
        (called-all P symbols tables.loaded ip texts names) tt

-- what a node's line says

abbrev IsShort : List ℕ → Type 0
IsShort name = length name < 2 ^ 64

strings-writable : (v : ℕ) (names : List (List ℕ)) → AllByRecursion IsShort names
    → AllByRecursion (IsWritable Interpreted v) (map string_line names)
strings-writable v [] all = tt
strings-writable v (name ∷ names) all = ((all.0, refl), strings-writable v names all.1)

pub node-writable : (v : ℕ) (symbols : List Symbol) (tables : RawTables) (names : List (List ℕ)) (known : List KnownIp)
    (ip parent : ℕ)
    → AllByRecursion HasShortTexts symbols → AllByRecursion (λ (m : LoadedModule). IsShort m.name) tables.loaded
    → names ≡ names_with tables.names (new_call symbols tables ip) → length names ≤ most_entries
    → length known ≤ most_entries → AreWords (ip ∷ parent ∷ [])
    → AllByRecursion (IsWritable Interpreted v)
    (map string_line (new_in tables.names names)
    ++ (map (instruction_said names) (option_to_list (new_call symbols tables ip))
    ++ node_line (ip_number known ip) parent ∷ []))
node-writable v symbols tables names known ip parent texts modules names_are few_names few_known words =
    let fresh : AllByRecursion IsShort (new_in tables.names names) =
    subst (λ (l : List (List ℕ)). AllByRecursion IsShort (new_in tables.names l)) (sym names_are)
    (fresh-all IsShort symbols tables ip texts modules) in
    let last : AllByRecursion (IsWritable Interpreted v) (node_line (ip_number known ip) parent ∷ []) =
    ((number (ip == 0), words.1), tt) in
    all-append (IsWritable Interpreted v) (map string_line (new_in tables.names names))
    (map (instruction_said names) (option_to_list (new_call symbols tables ip))
    ++ node_line (ip_number known ip) parent ∷ [])
    (strings-writable v (new_in tables.names names) fresh)
    (all-append (IsWritable Interpreted v) (map (instruction_said names) (option_to_list (new_call symbols tables ip)))
    (node_line (ip_number known ip) parent ∷ []) (calls (is_numbered tables.known ip)) last)
  where
    calls : (b : Bool)
        → AllByRecursion (IsWritable Interpreted v)
        (map (instruction_said names)
        (option_to_list (cond {A = Option Resolved} b None (Some (resolved symbols tables.loaded ip)))))
    calls true = tt
    calls false = (call-writable v names symbols tables.loaded ip words.0 few_names, tt)

    number : (b : Bool) → cond b 0 (position_or_len (λ (k : KnownIp). ip == k.ip) known + 1) < 2 ^ 64
    number true = omega arith
    number false = let place = place-most (λ (k : KnownIp). ip == k.ip) known in omega (arith, place, few_known)

-- what an allocation says

infos-writable : (v : ℕ) (infos : List AllocationInfo)
    → AllByRecursion (λ (info : AllocationInfo). AreWords (info.size ∷ info.trace ∷ [])) infos
    → AllByRecursion (IsWritable Interpreted v) (map info_said infos)
infos-writable v [] all = tt
infos-writable v (info ∷ infos) all = ((all.0, refl), infos-writable v infos all.1)

info-few : (infos : List AllocationInfo) (info : AllocationInfo) → info_number infos info ≤ length infos
info-few infos info = place-most (same_info info) infos

pub allocation-writable : (v : ℕ) (old infos : List AllocationInfo) (size trace : ℕ)
    → infos ≡ with_all same_info old (record { size = size; trace = trace } ∷ []) → length infos ≤ most_entries
    → size < 2 ^ 64 → trace < 2 ^ 64
    → AllByRecursion (IsWritable Interpreted v)
    (map info_said (new_in old infos) ++ allocation_line (info_number infos (record { size = size; trace = trace }))
    ∷ [])
allocation-writable v old infos size trace is few fits held =
    let P = λ (info : AllocationInfo). AreWords (info.size ∷ info.trace ∷ []) in
    let grows = all-more P same_info old (record { size = size; trace = trace } ∷ []) ((fits, (held, tt)), tt) in
    let fresh : AllByRecursion P (new_in old infos) =
    subst (λ (l : List AllocationInfo). AllByRecursion P (new_in old l)) (sym is)
    (subst (λ (l : List AllocationInfo). AllByRecursion P l)
    (sym (new-grown P old (with_all same_info old (record { size = size; trace = trace } ∷ [])) grows))
    grows.each) in
    let number = info-few infos (record { size = size; trace = trace }) in
    all-append (IsWritable Interpreted v) (map info_said (new_in old infos))
    (allocation_line (info_number infos (record { size = size; trace = trace })) ∷ [])
    (infos-writable v (new_in old infos) fresh) ((omega (arith, number, few), refl), tt)

-- what a free says
pub free-writable : (v : ℕ) (infos : List AllocationInfo) (o : Option RawBlock) → length infos ≤ most_entries
    → AllByRecursion (IsWritable Interpreted v) (map free_line (option_to_list (freed_info infos o)))
free-writable v infos None few = tt
free-writable v infos (Some block) few =
    let number = info-few infos block.info in ((omega (arith, number, few), refl), tt)
