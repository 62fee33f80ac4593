-- Each line has the item or the fault that `reading` gives, and no other.
use Rattle.std.proofs.Common.{◌≡◌, ◌≢◌, ℕ, Bool, true, false, cond, eqb, ◌||◌, List, [], ◌∷◌, length, drop, Option}
use Rattle.std.proofs.Common.{Some, None, Result, Ok, Err, IsTrue, IfOk, IfErr, MatchResult, refl, sym, ap, ◌∙◌, subst}
use Rattle.std.proofs.Common.{inl, inr, arith, ◌⊎◌}
use Rattle.std.specs.Prelude.{codes}
use Rattle.std.specs.List.{AllByRecursion, list_any}
use Rattle.std.proofs.lemmas.Bool.{false≢true}
use borrow.Author.Tests.{eqb-true, eq-eqb, ne_eqb}
use Rattle.ht_lines.specs.declared.item.Malformed.{Malformed}
use Rattle.ht_lines.specs.declared.item.Malformed.TheVariants.{BadField, MissingField, ExtraField, NotInterpreted}
use Rattle.ht_lines.specs.declared.item.Malformed.TheVariants.{NotRaw, BadVersion}
use Rattle.ht_lines.specs.declared.item.Item.{Item}
use Rattle.ht_lines.specs.declared.item.Form.{Form}
use Rattle.ht_lines.specs.declared.item.Form.TheVariants.{Raw, Interpreted}
use Rattle.ht_lines.specs.ItemContent.{Gives, content}
use Rattle.ht_lines.specs.Content.{Content, version_line, executable_line, command_line, system_line, string_line}
use Rattle.ht_lines.specs.Content.{clear_line, module_line, instruction_line, node_line, info_line, allocation_line}
use Rattle.ht_lines.specs.Content.{free_line, raw_allocation_line, raw_free_line, clock_line, resident_line}
use Rattle.ht_lines.specs.Content.{attached_line, suppression_line, comment_line, other_line}
use Rattle.ht_lines.specs.Fields.{fields, field_ends}
use Rattle.ht_lines.specs.SizedText.{text_of}
use Rattle.ht_lines.specs.ModuleName.{module_name, IsModuleName}
use Rattle.ht_lines.specs.Kinds.{kinds, table_kinds, is_kind, is_foreign, IsForeign, IsOfKind, IsOther}
use Rattle.ht_lines.specs.Kinds.{HasWrongSecondByte, after_kind, plain_text, fields_of}
use Rattle.ht_lines.specs.Reads.{Reads}
use Rattle.ht_lines.specs.Refuses.{Refuses, in_kind, in_second_byte, in_version, in_system, in_module, in_instruction}
use Rattle.ht_lines.specs.Refuses.{in_node, in_info, in_allocation, in_free, in_clock, in_resident, RefusesModule}
use Rattle.ht_lines.specs.Refuses.{RefusesAllocation, RefusesNumbers}
use Rattle.ht_lines.specs.Reading.{one_number, two_numbers, say, version_of, instruction_of, info_number, three_numbers}
use Rattle.ht_lines.specs.Reading.{allocation_of, free_of, clock_from, module_of, named_module, reading_kind, reading}
use Rattle.ht_lines.proofs.CountedLines.{one_number-sound, one_number-item, one_number-fault, two_numbers-sound}
use Rattle.ht_lines.proofs.CountedLines.{two_numbers-item, two_numbers-fault, info_number-sound, info_number-item}
use Rattle.ht_lines.proofs.CountedLines.{info_number-fault, three_numbers-sound, three_numbers-item}
use Rattle.ht_lines.proofs.CountedLines.{three_numbers-fault}
use Rattle.ht_lines.proofs.VersionLines.{SaysVersions, version-sound, version-item, version-fault, SaysClock}
use Rattle.ht_lines.proofs.VersionLines.{clock-sound, clock-item, clock-fault}
use Rattle.ht_lines.proofs.InstructionLines.{SaysInstruction, instruction-sound, instruction-item, instruction-fault}
use Rattle.ht_lines.proofs.TextLemmas.{text_of-IsText, text_of-is}
use Rattle.ht_lines.proofs.NameLemmas.{module_name-some, module_name-is, module_name-none, module_name-nothing}
use Rattle.ht_lines.proofs.ModuleLines.{SaysModule, RefusesNamed, named-sound, named-clear, named-item, named-fault}

abbrev pub Sides : Form → ℕ → List ℕ → Result Content Malformed → Type 0
Sides form version line r =
    MatchResult r (λ said. Reads form version line said) (λ fault. Refuses form version line fault)

-- from the numbers of a line to the line

module _ {X : Type 0} (form : Form) (version : ℕ) (line : List ℕ) (P : X → Type 0) (Q : Malformed → Type 0) where
  pub say-sides : (f : X → Content) (r : Result X Malformed) → MatchResult r P Q
      → ((x : X) → P x → Reads form version line (f x))
      → ((fault : Malformed) → Q fault → Refuses form version line fault) → Sides form version line (say f r)
  say-sides f (Ok x) w item fault = item x w
  say-sides f (Err e) w item fault = fault e w

module _ (form : Form) (version : ℕ) (line : List ℕ) (P : Content → Type 0) (Q : Malformed → Type 0) where
  pub line-sides : (r : Result Content Malformed) → MatchResult r P Q
      → ((said : Content) → P said → Reads form version line said)
      → ((fault : Malformed) → Q fault → Refuses form version line fault) → Sides form version line r
  line-sides (Ok x) w item fault = item x w
  line-sides (Err e) w item fault = fault e w

pub of_kind : (kind : ℕ) (rest : List ℕ) → IsTrue (field_ends rest) → IsOfKind kind (kind ∷ rest)
of_kind kind [] e = refl
of_kind kind (b ∷ bs) e = (refl, eqb-true b 32 e)

no_fields : (fs : List (List ℕ)) → length fs ≡ 0 → fs ≡ []
no_fields [] e = refl
no_fields (f ∷ fs) e = absurd (omega arith)

-- each kind

-- a kind of interpreted traces alone that isn't foreign
own_kind : (form : Form) (kind : ℕ) → is_foreign Raw kind ≡ true → is_foreign form kind ≡ false → form ≡ Interpreted
own_kind Raw kind table native = absurd (false≢true (sym native ∙ table))
own_kind Interpreted kind table native = refl

module _ (version : ℕ) (rest : List ℕ) (ends : IsTrue (field_ends rest)) where
  allocation-sides : (form : Form) → Sides form version (43 ∷ rest) (allocation_of form (fields rest))
  allocation-sides Interpreted =
      say-sides Interpreted version (43 ∷ rest) _ _ allocation_line (info_number (fields rest))
      (info_number-sound (fields rest))
      (λ x a. (of_kind 43 rest ends, a, refl)) (λ fault r. in_allocation (of_kind 43 rest ends) r)
  allocation-sides Raw =
      say-sides Raw version (43 ∷ rest) _ _ (λ x. raw_allocation_line x.0 x.1 x.2) (three_numbers (fields rest))
      (three_numbers-sound (fields rest))
      (λ x a. (of_kind 43 rest ends, a, refl)) (λ fault r. in_allocation (of_kind 43 rest ends) r)

  free-sides : (form : Form) → Sides form version (45 ∷ rest) (free_of form (fields rest))
  free-sides Interpreted =
      say-sides Interpreted version (45 ∷ rest) _ _ free_line (one_number (fields rest))
      (one_number-sound (fields rest))
      (λ x a. (of_kind 45 rest ends, a, refl)) (λ fault r. in_free (of_kind 45 rest ends) r)
  free-sides Raw =
      say-sides Raw version (45 ∷ rest) _ _ raw_free_line (one_number (fields rest)) (one_number-sound (fields rest))
      (λ x a. (of_kind 45 rest ends, a, refl)) (λ fault r. in_free (of_kind 45 rest ends) r)

module _ (form : Form) (version : ℕ) (rest : List ℕ) (ends : IsTrue (field_ends rest)) where
  versions-said : (said : Content) → SaysVersions (fields rest) said → Reads form version (118 ∷ rest) said
  versions-said said w = subst (λ c. Reads form version (118 ∷ rest) c) (sym w.2) (of_kind 118 rest ends, w.3)

  clock-said : (said : Content) → SaysClock (fields rest) said → Reads form version (99 ∷ rest) said
  clock-said said w = subst (λ c. Reads form version (99 ∷ rest) c) (sym w.1) (of_kind 99 rest ends, w.2, w.3)

  instruction-said : form ≡ Interpreted → (said : Content) → SaysInstruction (fields rest) said
      → Reads form version (105 ∷ rest) said
  instruction-said own said w =
      subst (λ c. Reads form version (105 ∷ rest) c) (sym w.3) (of_kind 105 rest ends, w.4, w.5, own)

  module-said : (name tail : List ℕ) → IsModuleName version rest name tail → (said : Content)
      → SaysModule name (fields tail) said → Reads form version (109 ∷ rest) said
  module-said name tail n said (inl w) =
      let named : IsModuleName version rest (codes "-") tail = subst (λ k. IsModuleName version rest k tail) w.1 n in
      subst (λ c. Reads form version (109 ∷ rest) c) (sym w.0)
      (of_kind 109 rest ends, (tail, named, no_fields (fields tail) w.2))
  module-said name tail n said (inr w) =
      subst (λ c. Reads form version (109 ∷ rest) c) (sym w.2) (of_kind 109 rest ends, (tail, n, w.3, w.4, w.5))

  module-refused : (name tail : List ℕ) → IsModuleName version rest name tail → (fault : Malformed)
      → RefusesNamed name (fields tail) fault → RefusesModule version rest fault
  module-refused name tail n MissingField r = inr (name, tail, n, r.0, λ w. r.1 (w.0, ap length w.1))
  module-refused name tail n BadField r = (name, tail, n, r.0, r.1)
  module-refused name tail n ExtraField r = absurd r
  module-refused name tail n NotInterpreted r = absurd r
  module-refused name tail n NotRaw r = absurd r
  module-refused name tail n BadVersion r = absurd r

  module-by : (o : Option (List ℕ × List ℕ)) → module_name version rest ≡ o
      → Sides form version (109 ∷ rest) (module_of o)
  module-by None e = in_module (of_kind 109 rest ends) (inl (module_name-none version rest e))
  module-by (Some x) e =
      let n = module_name-some version rest x.0 x.1 e in
      line-sides form version (109 ∷ rest) (λ said. SaysModule x.0 (fields x.1) said)
      (λ fault. RefusesNamed x.0 (fields x.1) fault) (named_module x.0 x.1) (named-sound x.0 x.1)
      (module-said x.0 x.1 n) (λ fault r. in_module (of_kind 109 rest ends) (module-refused x.0 x.1 n fault r))

  abbrev KindSides : ℕ → Type 0
  KindSides kind = is_foreign form kind ≡ false → Sides form version (kind ∷ rest) (reading_kind form version kind rest)

  version_kind : KindSides 118
  unfolding reading_kind
  version_kind native =
      line-sides form version (118 ∷ rest) _ _ (version_of (fields rest)) (version-sound (fields rest)) versions-said
      (λ fault r. in_version (of_kind 118 rest ends) r)

  system_kind : KindSides 73
  unfolding reading_kind
  system_kind native =
      say-sides form version (73 ∷ rest) _ _ (λ x. system_line x.0 x.1) (two_numbers (fields rest))
      (two_numbers-sound (fields rest)) (λ x a. (of_kind 73 rest ends, a))
      (λ fault r. in_system (of_kind 73 rest ends) r)

  instruction_kind : KindSides 105
  unfolding reading_kind
  instruction_kind native =
      line-sides form version (105 ∷ rest) _ _ (instruction_of (fields rest)) (instruction-sound (fields rest))
      (instruction-said (own_kind form 105 refl native))
      (λ fault r. in_instruction (own_kind form 105 refl native) (of_kind 105 rest ends) r)

  node_kind : KindSides 116
  unfolding reading_kind
  node_kind native =
      say-sides form version (116 ∷ rest) _ _ (λ x. node_line x.0 x.1) (two_numbers (fields rest))
      (two_numbers-sound (fields rest)) (λ x a. (of_kind 116 rest ends, a))
      (λ fault r. in_node (of_kind 116 rest ends) r)

  info_kind : KindSides 97
  unfolding reading_kind
  info_kind native =
      say-sides form version (97 ∷ rest) _ _ (λ x. info_line x.0 x.1) (two_numbers (fields rest))
      (two_numbers-sound (fields rest)) (λ x a. (of_kind 97 rest ends, a, own_kind form 97 refl native))
      (λ fault r. in_info (own_kind form 97 refl native) (of_kind 97 rest ends) r)

  clock_kind : KindSides 99
  unfolding reading_kind
  clock_kind native =
      line-sides form version (99 ∷ rest) _ _ (clock_from (one_number (fields rest))) (clock-sound (fields rest))
      clock-said (λ fault r. in_clock (of_kind 99 rest ends) r)

  resident_kind : KindSides 82
  unfolding reading_kind
  resident_kind native =
      say-sides form version (82 ∷ rest) _ _ resident_line (one_number (fields rest)) (one_number-sound (fields rest))
      (λ x a. (of_kind 82 rest ends, a)) (λ fault r. in_resident (of_kind 82 rest ends) r)

  executable_kind : KindSides 120
  unfolding reading_kind
  executable_kind native = (of_kind 120 rest ends, text_of-IsText version (drop 1 rest))

  command_kind : KindSides 88
  unfolding reading_kind
  command_kind native = (of_kind 88 rest ends, text_of-IsText version (drop 1 rest))

  suppression_kind : KindSides 83
  unfolding reading_kind
  suppression_kind native = (of_kind 83 rest ends, text_of-IsText version (drop 1 rest))

  string_kind : KindSides 115
  unfolding reading_kind
  string_kind native = (of_kind 115 rest ends, text_of-IsText version (drop 1 rest), own_kind form 115 refl native)

  module_kind : KindSides 109
  unfolding reading_kind
  module_kind native = module-by (module_name version rest) refl

  allocation_kind : KindSides 43
  unfolding reading_kind
  allocation_kind native = allocation-sides version rest ends form

  free_kind : KindSides 45
  unfolding reading_kind
  free_kind native = free-sides version rest ends form

  attached_kind : KindSides 65
  unfolding reading_kind
  attached_kind native = of_kind 65 rest ends

  each_kind : AllByRecursion KindSides kinds
  each_kind = (
    version_kind,
    (
      executable_kind,
      (
        command_kind,
        (
          suppression_kind,
          (
            system_kind,
            (
              string_kind,
              (
                module_kind,
                (
                  instruction_kind,
                  (
                    node_kind,
                    (
                      info_kind,
                      (allocation_kind, (free_kind, (clock_kind, (resident_kind, (attached_kind, tt))))),
                    ),
                  ),
                ),
              ),
            ),
          ),
        ),
      ),
    ),
  )

-- one of the kinds

or-true : (a b : Bool) → (a || b) ≡ true → (a ≡ true) ⊎ (b ≡ true)
or-true true b e = inl refl
or-true false b e = inr e

any_kind : (P : ℕ → Type 0) (ks : List ℕ) (kind : ℕ) → list_any (λ k. eqb k kind) ks ≡ true → AllByRecursion P ks
    → P kind
any_kind P [] kind e h = absurd (cc)
any_kind P (k ∷ ks) kind e h =
    by (or-true (eqb k kind) (list_any (λ k. eqb k kind) ks) e) (λ f. any_kind P ks kind f h.1)
  where
    by : (eqb k kind ≡ true) ⊎ (list_any (λ k. eqb k kind) ks ≡ true) → (list_any (λ k. eqb k kind) ks ≡ true → P kind)
        → P kind
    by (inl f) more = subst P (eqb-true k kind f) h.0
    by (inr f) more = more f

wrong_second : (kind : ℕ) (rest : List ℕ) → is_kind kind ≡ true → field_ends rest ≡ false
    → HasWrongSecondByte (kind ∷ rest)
wrong_second kind [] k e = absurd (cc)
wrong_second kind (b ∷ bs) k e = (k, λ z. false≢true (sym e ∙ eq-eqb b 32 z))

module _ (form : Form) (version kind : ℕ) (rest : List ℕ) where
  ends_test : (t : Bool) → field_ends rest ≡ t → is_foreign form kind ≡ false → is_kind kind ≡ true
      → Sides form version (kind ∷ rest) (cond t (reading_kind form version kind rest) (Err BadField))
  ends_test true e native k =
      any_kind (λ b. is_foreign form b ≡ false → Sides form version (b ∷ rest) (reading_kind form version b rest)) kinds
      kind k (each_kind form version rest e) native
  ends_test false e native k = in_second_byte (wrong_second kind rest k e) (λ z. false≢true (sym native ∙ z)) refl

  abbrev known_or_other : Bool → Result Content Malformed
  known_or_other t =
      cond t (cond (field_ends rest) (reading_kind form version kind rest) (Err BadField))
      (Ok (other_line (kind ∷ rest)))

  kind_test : (t : Bool) → is_kind kind ≡ t → is_foreign form kind ≡ false → kind ≢ 35
      → Sides form version (kind ∷ rest) (known_or_other t)
  kind_test true e native other = ends_test (field_ends rest) refl native e
  kind_test false e native other = ((e, other), refl)

  foreign_test : (t : Bool) → is_foreign form kind ≡ t → kind ≢ 35
      → Sides form version (kind ∷ rest) (cond t (Err NotRaw) (known_or_other (is_kind kind)))
  foreign_test true e other = in_kind e refl
  foreign_test false e other = kind_test (is_kind kind) refl e other

  comment_test : (t : Bool) → eqb kind 35 ≡ t
      → Sides form version (kind ∷ rest)
      (cond t (Ok (comment_line rest)) (cond (is_foreign form kind) (Err NotRaw) (known_or_other (is_kind kind))))
  comment_test true e = ap (λ k. k ∷ rest) (eqb-true kind 35 e)
  comment_test false e = foreign_test (is_foreign form kind) refl (λ z. false≢true (sym e ∙ eq-eqb kind 35 z))

-- what is read is read so, and what is refused is refused so
pub reading-sides : (form : Form) (version : ℕ) (line : List ℕ) → Sides form version line (reading form version line)
unfolding reading
reading-sides form version [] = (tt, refl)
reading-sides form version (b ∷ rest) = comment_test form version b rest (eqb b 35) refl

-- the other way: what is read so is read, and what is refused so is refused

pub kind_first : (kind : ℕ) (line : List ℕ) → IsOfKind kind line → line ≡ kind ∷ after_kind line
kind_first kind [] k = absurd k
kind_first kind (b ∷ []) k = ap (λ x. x ∷ []) k
kind_first kind (b ∷ c ∷ rest) k = ap (λ x. x ∷ c ∷ rest) k.0

pub kind_ends : (kind : ℕ) (line : List ℕ) → IsOfKind kind line → IsTrue (field_ends (after_kind line))
kind_ends kind [] k = absurd k
kind_ends kind (b ∷ []) k = refl
kind_ends kind (b ∷ c ∷ rest) k = eq-eqb c 32 k.1

reading-known : (form : Form) (version kind : ℕ) (rest : List ℕ) → is_kind kind ≡ true → eqb kind 35 ≡ false
    → is_foreign form kind ≡ false → IsTrue (field_ends rest)
    → reading form version (kind ∷ rest) ≡ reading_kind form version kind rest
unfolding reading
reading-known form version kind rest k other native e = rw (other, native, k, e) refl

pub reading-of_kind : (form : Form) (version kind : ℕ) (line : List ℕ) → is_kind kind ≡ true → eqb kind 35 ≡ false
    → is_foreign form kind ≡ false → IsOfKind kind line
    → reading form version line ≡ reading_kind form version kind (after_kind line)
reading-of_kind form version kind line k other native w =
    ap (reading form version) (kind_first kind line w)
    ∙ reading-known form version kind (after_kind line) k other native (kind_ends kind line w)

-- a kind of both forms, and one of interpreted traces alone
both : (form : Form) (kind : ℕ) → is_foreign Raw kind ≡ false → is_foreign form kind ≡ false
both Raw kind e = e
both Interpreted kind e = refl

own : (form : Form) (kind : ℕ) → form ≡ Interpreted → is_foreign form kind ≡ false
own form kind e = ap (λ f. is_foreign f kind) e

drop-twice : (line : List ℕ) → drop 1 (drop 1 line) ≡ drop 2 line
drop-twice [] = refl
drop-twice (b ∷ bs) = refl

text-said : (version : ℕ) (line bytes : List ℕ) (f : List ℕ → Content) → text_of version (plain_text line) ≡ bytes
    → ◌≡◌ {A = Result Content Malformed} (Ok (f (text_of version (drop 1 (after_kind line))))) (Ok (f bytes))
text-said version line bytes f e = ap (λ l. Ok (f (text_of version l))) (drop-twice line) ∙ ap (λ t. Ok (f t)) e

table_known : (b : ℕ) (t : Bool) → is_foreign Raw b ≡ t → is_kind b ≡ false → t ≡ false
table_known b false e k = refl
table_known b true e k =
    absurd (false≢true (sym k ∙ any_kind (λ b. is_kind b ≡ true) table_kinds b e (refl, (refl, (refl, tt)))))

-- what is no known kind is none of the other form
not_foreign : (form : Form) (b : ℕ) → is_kind b ≡ false → is_foreign form b ≡ false
not_foreign Raw b k = table_known b (is_foreign Raw b) refl k
not_foreign Interpreted b k = refl

other-said : (form : Form) (version : ℕ) (line : List ℕ) → IsOther line
    → reading form version line ≡ Ok (other_line line)
unfolding reading
other-said form version [] o = refl
other-said form version (b ∷ rest) o = rw (ne_eqb b 35 o.1, not_foreign form b o.0, o.0) refl

pub reading-item : (form : Form) (version : ℕ) (line : List ℕ) (said : Content) → Reads form version line said
    → reading form version line ≡ Ok said
unfolding reading_kind
reading-item form version line (version_line h f) r =
    reading-of_kind form version 118 line refl refl (both form 118 refl) r.0 ∙ version-item (fields_of line) h f r.1
reading-item form version line (executable_line bytes) r =
    reading-of_kind form version 120 line refl refl (both form 120 refl) r.0
    ∙ text-said version line bytes executable_line (text_of-is version (plain_text line) bytes r.1)
reading-item form version line (command_line bytes) r =
    reading-of_kind form version 88 line refl refl (both form 88 refl) r.0
    ∙ text-said version line bytes command_line (text_of-is version (plain_text line) bytes r.1)
reading-item form version line (suppression_line bytes) r =
    reading-of_kind form version 83 line refl refl (both form 83 refl) r.0
    ∙ text-said version line bytes suppression_line (text_of-is version (plain_text line) bytes r.1)
reading-item form version line (string_line bytes) r =
    reading-of_kind form version 115 line refl refl (own form 115 r.2) r.0
    ∙ text-said version line bytes string_line (text_of-is version (plain_text line) bytes r.1)
reading-item form version line (system_line page pages) r =
    reading-of_kind form version 73 line refl refl (both form 73 refl) r.0
    ∙ ap (λ x. say (λ x. system_line x.0 x.1) x) (two_numbers-item (fields_of line) page pages r.1)
reading-item form version line (node_line ip parent) r =
    reading-of_kind form version 116 line refl refl (both form 116 refl) r.0
    ∙ ap (λ x. say (λ x. node_line x.0 x.1) x) (two_numbers-item (fields_of line) ip parent r.1)
reading-item form version line (info_line size trace) r =
    reading-of_kind form version 97 line refl refl (own form 97 r.2) r.0
    ∙ ap (λ x. say (λ x. info_line x.0 x.1) x) (two_numbers-item (fields_of line) size trace r.1)
reading-item form version line (allocation_line info) r =
    reading-of_kind form version 43 line refl refl (both form 43 refl) r.0
    ∙ ap (λ f. allocation_of f (fields_of line)) r.2
    ∙ ap (λ x. say allocation_line x) (info_number-item (fields_of line) info r.1)
reading-item form version line (free_line info) r =
    reading-of_kind form version 45 line refl refl (both form 45 refl) r.0 ∙ ap (λ f. free_of f (fields_of line)) r.2
    ∙ ap (λ x. say free_line x) (one_number-item (fields_of line) info r.1)
reading-item form version line (resident_line pages) r =
    reading-of_kind form version 82 line refl refl (both form 82 refl) r.0
    ∙ ap (λ x. say resident_line x) (one_number-item (fields_of line) pages r.1)
reading-item form version line (clock_line ms) r =
    reading-of_kind form version 99 line refl refl (both form 99 refl) r.0 ∙ clock-item (fields_of line) ms r.1 r.2
reading-item form version line (instruction_line ip m frames) r =
    reading-of_kind form version 105 line refl refl (own form 105 r.3) r.0
    ∙ instruction-item (fields_of line) ip m frames r.1 r.2
reading-item form version line clear_line r =
    reading-of_kind form version 109 line refl refl (both form 109 refl) r.0
    ∙ ap module_of (module_name-is version (after_kind line) (codes "-") r.1.0 r.1.1)
    ∙ named-clear (codes "-") r.1.0 refl r.1.2
reading-item form version line (module_line name start ranges) r =
    reading-of_kind form version 109 line refl refl (both form 109 refl) r.0
    ∙ ap module_of (module_name-is version (after_kind line) name r.1.0 r.1.1)
    ∙ named-item name r.1.0 start ranges r.1.2 r.1.3 r.1.4
reading-item form version line attached_line r = reading-of_kind form version 65 line refl refl (both form 65 refl) r
reading-item form version line (comment_line bytes) r = ap (reading form version) r ∙ unfold reading in refl
reading-item form version line (other_line bytes) r =
    other-said form version line r.0 ∙ ap (λ l. Ok (other_line l)) (sym r.1)
reading-item form version line (raw_allocation_line size trace ptr) r =
    reading-of_kind form version 43 line refl refl (both form 43 refl) r.0
    ∙ ap (λ f. allocation_of f (fields_of line)) r.2
    ∙ ap (λ x. say (λ x. raw_allocation_line x.0 x.1 x.2) x) (three_numbers-item (fields_of line) size trace ptr r.1)
reading-item form version line (raw_free_line ptr) r =
    reading-of_kind form version 45 line refl refl (both form 45 refl) r.0
    ∙ ap (λ f. free_of f (fields_of line)) r.2
    ∙ ap (λ x. say raw_free_line x) (one_number-item (fields_of line) ptr r.1)

not_comment : (form : Form) (b : ℕ) → is_foreign form b ≡ true → eqb b 35 ≡ false
not_comment Raw b e = any_kind (λ b. eqb b 35 ≡ false) table_kinds b e (refl, (refl, (refl, tt)))
not_comment Interpreted b e = absurd (false≢true e)

not_true : (t : Bool) → ¬ IsTrue t → t ≡ false
not_true true never = absurd (never refl)
not_true false never = refl

kind-fault : (form : Form) (version : ℕ) (line : List ℕ) → IsForeign form line → reading form version line ≡ Err NotRaw
unfolding reading
kind-fault form version [] w = absurd w
kind-fault form version (b ∷ rest) w = rw (not_comment form b w, w) refl

second-fault : (form : Form) (version : ℕ) (line : List ℕ) → HasWrongSecondByte line → ¬ IsForeign form line
    → reading form version line ≡ Err BadField
unfolding reading
second-fault form version [] w native = absurd w
second-fault form version (b ∷ []) w native = absurd w
second-fault form version (b ∷ c ∷ rest) w native =
    let known : is_kind 35 ≡ false = refl in
    let other : eqb b 35 ≡ false = ne_eqb b 35 (λ z. false≢true (sym known ∙ ap is_kind (sym z) ∙ w.0)) in
    rw (other, not_true (is_foreign form b) native, w.0, ne_eqb c 32 w.1) refl

module-fault : (version : ℕ) (rest : List ℕ) (fault : Malformed) → RefusesModule version rest fault
    → module_of (module_name version rest) ≡ Err fault
module-fault version rest MissingField (inl e) = ap module_of (module_name-nothing version rest e)
module-fault version rest MissingField (inr w) =
    ap module_of (module_name-is version rest w.0 w.1 w.2)
    ∙ named-fault w.0 w.1 MissingField (w.3, λ v. w.4 (v.0, no_fields (fields w.1) v.1))
module-fault version rest BadField w =
    ap module_of (module_name-is version rest w.0 w.1 w.2) ∙ named-fault w.0 w.1 BadField (w.3, w.4)
module-fault version rest ExtraField w = absurd w
module-fault version rest NotInterpreted w = absurd w
module-fault version rest NotRaw w = absurd w
module-fault version rest BadVersion w = absurd w

allocation-fault : (form : Form) (fs : List (List ℕ)) (fault : Malformed) → RefusesAllocation form fs fault
    → allocation_of form fs ≡ Err fault
allocation-fault Interpreted fs fault r = ap (λ x. say allocation_line x) (info_number-fault fs fault r)
allocation-fault Raw fs fault r =
    ap (λ x. say (λ x. raw_allocation_line x.0 x.1 x.2) x) (three_numbers-fault fs fault r)

free-fault : (form : Form) (fs : List (List ℕ)) (fault : Malformed) → RefusesNumbers 1 fs fault
    → free_of form fs ≡ Err fault
free-fault Interpreted fs fault r = ap (λ x. say free_line x) (one_number-fault fs fault r)
free-fault Raw fs fault r = ap (λ x. say raw_free_line x) (one_number-fault fs fault r)

pub reading-fault : (form : Form) (version : ℕ) (line : List ℕ) (fault : Malformed) → Refuses form version line fault
    → reading form version line ≡ Err fault
unfolding reading_kind
reading-fault form version line fault (in_second_byte w native e) =
    second-fault form version line w native ∙ ap Err (sym e)
reading-fault form version line fault (in_kind w e) = kind-fault form version line w ∙ ap Err (sym e)
reading-fault form version line fault (in_version k r) =
    reading-of_kind form version 118 line refl refl (both form 118 refl) k ∙ version-fault (fields_of line) fault r
reading-fault form version line fault (in_system k r) =
    reading-of_kind form version 73 line refl refl (both form 73 refl) k
    ∙ ap (λ x. say (λ x. system_line x.0 x.1) x) (two_numbers-fault (fields_of line) fault r)
reading-fault form version line fault (in_module k r) =
    reading-of_kind form version 109 line refl refl (both form 109 refl) k
    ∙ module-fault version (after_kind line) fault r
reading-fault form version line fault (in_instruction f k r) =
    reading-of_kind form version 105 line refl refl (own form 105 f) k ∙ instruction-fault (fields_of line) fault r
reading-fault form version line fault (in_node k r) =
    reading-of_kind form version 116 line refl refl (both form 116 refl) k
    ∙ ap (λ x. say (λ x. node_line x.0 x.1) x) (two_numbers-fault (fields_of line) fault r)
reading-fault form version line fault (in_info f k r) =
    reading-of_kind form version 97 line refl refl (own form 97 f) k
    ∙ ap (λ x. say (λ x. info_line x.0 x.1) x) (two_numbers-fault (fields_of line) fault r)
reading-fault form version line fault (in_allocation k r) =
    reading-of_kind form version 43 line refl refl (both form 43 refl) k
    ∙ allocation-fault form (fields_of line) fault r
reading-fault form version line fault (in_free k r) =
    reading-of_kind form version 45 line refl refl (both form 45 refl) k ∙ free-fault form (fields_of line) fault r
reading-fault form version line fault (in_clock k r) =
    reading-of_kind form version 99 line refl refl (both form 99 refl) k ∙ clock-fault (fields_of line) fault r
reading-fault form version line fault (in_resident k r) =
    reading-of_kind form version 82 line refl refl (both form 82 refl) k
    ∙ ap (λ x. say resident_line x) (one_number-fault (fields_of line) fault r)

-- a result that is what is read, by the relations

pub Gives-item : (form : Form) (version : ℕ) (line : List ℕ) (r : Result Item Malformed)
    → Gives r (reading form version line) → IfOk r (λ item. Reads form version line (content item))
Gives-item form version line (Ok item) g = subst (λ r. Sides form version line r) g (reading-sides form version line)
Gives-item form version line (Err fault) g = tt

pub Gives-fault : (form : Form) (version : ℕ) (line : List ℕ) (r : Result Item Malformed)
    → Gives r (reading form version line) → IfErr r (λ fault. Refuses form version line fault)
Gives-fault form version line (Ok item) g = tt
Gives-fault form version line (Err fault) g = subst (λ r. Sides form version line r) g (reading-sides form version line)
