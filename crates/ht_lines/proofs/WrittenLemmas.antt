-- The written form of what some line says is read as the same again.
use Rattle.std.proofs.Common.{◌≡◌, ◌≢◌, ℕ, suc, ◌%◌, ◌^◌, ◌<◌, ◌≤◌, Bool, true, false, cond, eqb, List, [], ◌∷◌, ◌++◌}
use Rattle.std.proofs.Common.{length, map, Some, None, Result, Ok, Err, IsTrue, refl, sym, ap, ◌∙◌, subst, inl, inr}
use Rattle.std.proofs.Common.{arith, ◌⊎◌, append_assoc, length-append, length-drop, IfOk}
use Rattle.std.specs.List.{AllByRecursion}
use Rattle.std.proofs.lemmas.Bool.{false≢true}
use borrow.Author.Tests.{eqb-true, eq-eqb}
use Rattle.hp_num.specs.Hexadecimal.{hexadecimal}
use Rattle.hp_num.specs.ParsedHex.{parsed_hex}
use Rattle.ht_lines.specs.declared.item.Malformed.{Malformed}
use Rattle.ht_lines.specs.declared.item.Form.{Form}
use Rattle.ht_lines.specs.Content.{Content, version_line, executable_line, command_line, system_line, string_line}
use Rattle.ht_lines.specs.Content.{clear_line, module_line, instruction_line, node_line, info_line, allocation_line}
use Rattle.ht_lines.specs.Content.{free_line, raw_allocation_line, raw_free_line, clock_line, resident_line}
use Rattle.ht_lines.specs.Content.{attached_line, suppression_line, comment_line, other_line}
use Rattle.ht_lines.specs.Fields.{fields, field_ends, AreNumbers}
use Rattle.ht_lines.specs.SizedText.{IsText}
use Rattle.ht_lines.specs.ModuleName.{IsModuleName, IsSizedName, sized_name}
use Rattle.ht_lines.specs.Kinds.{IsOther, after_kind, plain_text, fields_of}
use Rattle.ht_lines.specs.Reads.{Reads}
use Rattle.ht_lines.specs.Reading.{reading}
use Rattle.ht_lines.specs.Written.{spelled, spelled_text, written, AreWords, IsWritable}
use Rattle.ht_lines.proofs.NumberLemmas.{AreNumbers-length}
use Rattle.ht_lines.proofs.TextLemmas.{fields-number}
use Rattle.ht_lines.proofs.NameLemmas.{sized_name-is}
use Rattle.ht_lines.proofs.InstructionLines.{IsInstructionCount}
use Rattle.ht_lines.proofs.LineSides.{reading-item}
use Rattle.ht_lines.proofs.WordLemmas.{AreNumbers-AreWords}
use Rattle.ht_lines.specs.declared.item.Item.{Item}
use Rattle.ht_lines.specs.ItemContent.{content}

spelled-ends : (ns : List ℕ) → IsTrue (field_ends (spelled ns))
spelled-ends [] = refl
spelled-ends (n ∷ ns) = refl

fields-nil : fields [] ≡ []
unfolding fields
fields-nil = refl

module _ (reads : (n : ℕ) → n < 2 ^ 64 → parsed_hex (hexadecimal n) ≡ Some n) where
  -- what is spelled is fields again
  fields-spelled : (n : ℕ) (ns : List ℕ) → n < 2 ^ 64 → fields (spelled (n ∷ ns)) ≡ hexadecimal n ∷ fields (spelled ns)
  fields-spelled n ns h = fields-number (hexadecimal n) (spelled ns) n (reads n h) (spelled-ends ns)

  pub spelled-AreNumbers : (ns : List ℕ) → AreWords ns → AreNumbers (fields (spelled ns)) ns
  spelled-AreNumbers [] h = ap (map parsed_hex) fields-nil
  spelled-AreNumbers (n ∷ ns) h =
      ap (map parsed_hex) (fields-spelled n ns h.0) ∙ (λ i. reads n h.0 i ∷ spelled-AreNumbers ns h.1 i)

  text_by : (version : ℕ) (bytes : List ℕ) (t : Bool) → eqb version 3 ≡ t → length bytes < 2 ^ 64
      → IsText version (cond t (hexadecimal (length bytes) ++ (32 ∷ bytes)) bytes) bytes
  text_by version bytes true e h =
      inl (eqb-true version 3 e, (hexadecimal (length bytes), reads (length bytes) h, refl))
  text_by version bytes false e h = inr ((λ z. absurd (false≢true (sym e ∙ eq-eqb version 3 z))), refl)

  spelled-IsText : (version : ℕ) (bytes : List ℕ) → length bytes < 2 ^ 64
      → IsText version (spelled_text version bytes) bytes
  spelled-IsText version bytes h = text_by version bytes (eqb version 3) refl h

  name_by : (version : ℕ) (name tail : List ℕ) (t : Bool) → eqb version 3 ≡ t → IsTrue (field_ends tail)
      → length name < 2 ^ 64 → (version ≢ 3 → (0 < length name) × AllByRecursion (λ b. b ≢ 32) name)
      → IsModuleName version (32 ∷ (cond t (hexadecimal (length name) ++ (32 ∷ name)) name ++ tail)) name tail
  name_by version name tail true e ends h plain = inl (
    eqb-true version 3 e,
    record {
      blanks = 32 ∷ [];
      digits = hexadecimal (length name);
      all_blank = (refl, tt);
      size = reads (length name) h;
      bytes = ap (λ l. 32 ∷ l) (append_assoc (hexadecimal (length name)) (32 ∷ name) tail);
      ends = ends;
    },
  )
  name_by version name tail false e ends h plain =
      let other : version ≢ 3 = λ z. false≢true (sym e ∙ eq-eqb version 3 z) in
      inr (
        (λ z. absurd (other z)),
        record {
          blanks = 32 ∷ [];
          all_blank = (refl, tt);
          not_empty = (plain other).0;
          no_blank = (plain other).1;
          bytes = refl;
          ends = ends;
        },
      )

  spelled-name : (version : ℕ) (name tail : List ℕ) → IsTrue (field_ends tail) → length name < 2 ^ 64
      → (version ≢ 3 → (0 < length name) × AllByRecursion (λ b. b ≢ 32) name)
      → IsModuleName version (32 ∷ (spelled_text version name ++ tail)) name tail
  spelled-name version name tail ends h plain = name_by version name tail (eqb version 3) refl ends h plain

  no_dash : parsed_hex (45 ∷ []) ≡ None
  unfolding parsed_hex
  no_dash = refl

  clear-not_sized : (name tail : List ℕ) → ¬ IsSizedName (32 ∷ 45 ∷ []) name tail
  unfolding sized_name
  clear-not_sized name tail w = let e = sized_name-is (32 ∷ 45 ∷ []) name tail w in
      let f = rw no_dash at e in
      absurd (cc)

  instruction-count : (n : ℕ) → (n % 3 ≡ 1) ⊎ (n % 3 ≡ 0) → IsInstructionCount (suc (suc n))
  instruction-count n (inl e) = inl (omega arith)
  instruction-count n (inr e) = inr (omega arith)

  count_again : (ip m : ℕ) (frames : List ℕ) → AreWords (ip ∷ m ∷ frames)
      → (length frames % 3 ≡ 1) ⊎ (length frames % 3 ≡ 0)
      → IsInstructionCount (length (fields (spelled (ip ∷ m ∷ frames))))
  count_again ip m frames h c =
      subst IsInstructionCount
      (sym (AreNumbers-length (fields (spelled (ip ∷ m ∷ frames))) (ip ∷ m ∷ frames)
      (spelled-AreNumbers (ip ∷ m ∷ frames) h)))
      (instruction-count (length frames) c)

  pub written-Reads : (form : Form) (version : ℕ) (said : Content) → IsWritable form version said
      → Reads form version (written version said) said
  written-Reads form version (version_line h f) w =
      ((refl, refl), inr (spelled-AreNumbers (h ∷ f ∷ []) (w.0, (omega (arith, w.2), tt)), w.1, w.2))
  written-Reads form version (executable_line bytes) w = ((refl, refl), spelled-IsText version bytes w)
  written-Reads form version (command_line bytes) w = ((refl, refl), spelled-IsText version bytes w)
  written-Reads form version (suppression_line bytes) w = ((refl, refl), spelled-IsText version bytes w)
  written-Reads form version (system_line page pages) w = ((refl, refl), spelled-AreNumbers (page ∷ pages ∷ []) w)
  written-Reads form version (string_line bytes) w = ((refl, refl), spelled-IsText version bytes w.0, w.1)
  written-Reads form version clear_line w = (
    (refl, refl),
    (
      [],
      inr (
        (λ z n t s. clear-not_sized n t s),
        record {
          blanks = 32 ∷ [];
          all_blank = (refl, tt);
          not_empty = omega arith;
          no_blank = ((λ z. omega arith), tt);
          bytes = refl;
          ends = refl;
        },
      ),
      fields-nil,
    ),
  )
  written-Reads form version (module_line name start ranges) w = (
    (refl, refl),
    (
      spelled (start ∷ ranges),
      spelled-name version name (spelled (start ∷ ranges)) refl w.0 w.1,
      spelled-AreNumbers (start ∷ ranges) w.2,
      w.3,
      w.4,
    ),
  )
  written-Reads form version (instruction_line ip m frames) w =
      ((refl, refl), spelled-AreNumbers (ip ∷ m ∷ frames) w.0, count_again ip m frames w.0 w.1, w.2)
  written-Reads form version (node_line ip parent) w = ((refl, refl), spelled-AreNumbers (ip ∷ parent ∷ []) w)
  written-Reads form version (info_line size trace) w = ((refl, refl), spelled-AreNumbers (size ∷ trace ∷ []) w.0, w.1)
  written-Reads form version (allocation_line info) w = ((refl, refl), spelled-AreNumbers (info ∷ []) (w.0, tt), w.1)
  written-Reads form version (free_line info) w = ((refl, refl), spelled-AreNumbers (info ∷ []) (w.0, tt), w.1)
  written-Reads form version (raw_allocation_line size trace ptr) w =
      ((refl, refl), spelled-AreNumbers (size ∷ trace ∷ ptr ∷ []) w.0, w.1)
  written-Reads form version (raw_free_line ptr) w = ((refl, refl), spelled-AreNumbers (ptr ∷ []) (w.0, tt), w.1)
  written-Reads form version (clock_line ms) w = ((refl, refl), spelled-AreNumbers (ms ∷ []) (omega arith, tt), w)
  written-Reads form version (resident_line pages) w = ((refl, refl), spelled-AreNumbers (pages ∷ []) (w, tt))
  written-Reads form version attached_line w = refl
  written-Reads form version (comment_line bytes) w = refl
  written-Reads form version (other_line bytes) w = (w, refl)

  pub reading-written : (form : Form) (version : ℕ) (said : Content) → IsWritable form version said
      → reading form version (written version said) ≡ Ok said
  reading-written form version said w =
      reading-item form version (written version said) said (written-Reads form version said w)

-- what is read of a line is writable

text_length : (version : ℕ) (plain bytes : List ℕ) → IsText version plain bytes → length bytes ≤ length plain
text_length version plain bytes (inl w) = omega (arith, ap length w.1.2, length-append w.1.0 (32 ∷ bytes))
text_length version plain bytes (inr w) = omega (arith, ap length w.1)

text-writable : (version : ℕ) (line bytes : List ℕ) → length line < 2 ^ 32 → IsText version (plain_text line) bytes
    → length bytes < 2 ^ 64
text-writable version line bytes h t = omega (arith, text_length version (plain_text line) bytes t, length-drop 2 line)

name_length : (version : ℕ) (rest name tail : List ℕ) → IsModuleName version rest name tail → length name ≤ length rest
name_length version rest name tail (inl w) =
    omega (
      arith,
      ap length w.1.bytes,
      length-append w.1.blanks (w.1.digits ++ (32 ∷ (name ++ tail))),
      length-append w.1.digits (32 ∷ (name ++ tail)),
      length-append name tail,
    )
name_length version rest name tail (inr w) =
    omega (arith, ap length w.1.bytes, length-append w.1.blanks (name ++ tail), length-append name tail)

name-writable : (version : ℕ) (rest name tail : List ℕ) → IsModuleName version rest name tail → version ≢ 3
    → (0 < length name) × AllByRecursion (λ b. b ≢ 32) name
name-writable version rest name tail (inl w) other = absurd (other w.0)
name-writable version rest name tail (inr w) other = (w.1.not_empty, w.1.no_blank)

frames_count : (n : ℕ) → IsInstructionCount (suc (suc n)) → (n % 3 ≡ 1) ⊎ (n % 3 ≡ 0)
frames_count n (inl e) = inl (omega arith)
frames_count n (inr e) = inr (omega arith)

pub Reads-IsWritable : (form : Form) (version : ℕ) (line : List ℕ) (said : Content) → length line < 2 ^ 32
    → Reads form version line said → IsWritable form version said
Reads-IsWritable form version line (version_line heaptrack file) h (k, inl r) =
    ((AreNumbers-AreWords (fields_of line) (heaptrack ∷ []) r.0).0, omega (arith, r.1), omega (arith, r.1))
Reads-IsWritable form version line (version_line heaptrack file) h (k, inr r) =
    ((AreNumbers-AreWords (fields_of line) (heaptrack ∷ file ∷ []) r.0).0, r.1, r.2)
Reads-IsWritable form version line (executable_line bytes) h r = text-writable version line bytes h r.1
Reads-IsWritable form version line (command_line bytes) h r = text-writable version line bytes h r.1
Reads-IsWritable form version line (suppression_line bytes) h r = text-writable version line bytes h r.1
Reads-IsWritable form version line (string_line bytes) h r = (text-writable version line bytes h r.1, r.2)
Reads-IsWritable form version line (system_line page pages) h r =
    AreNumbers-AreWords (fields_of line) (page ∷ pages ∷ []) r.1
Reads-IsWritable form version line clear_line h r = tt
Reads-IsWritable form version line (module_line name start ranges) h r = (
  omega (arith, name_length version (after_kind line) name r.1.0 r.1.1, length-drop 1 line),
  name-writable version (after_kind line) name r.1.0 r.1.1,
  AreNumbers-AreWords (fields r.1.0) (start ∷ ranges) r.1.2,
  r.1.3,
  r.1.4,
)
Reads-IsWritable form version line (instruction_line ip m frames) h r = (
  AreNumbers-AreWords (fields_of line) (ip ∷ m ∷ frames) r.1,
  frames_count (length frames)
      (subst IsInstructionCount (AreNumbers-length (fields_of line) (ip ∷ m ∷ frames) r.1) r.2),
  r.3,
)
Reads-IsWritable form version line (node_line ip parent) h r =
    AreNumbers-AreWords (fields_of line) (ip ∷ parent ∷ []) r.1
Reads-IsWritable form version line (info_line size trace) h r =
    (AreNumbers-AreWords (fields_of line) (size ∷ trace ∷ []) r.1, r.2)
Reads-IsWritable form version line (allocation_line info) h r =
    ((AreNumbers-AreWords (fields_of line) (info ∷ []) r.1).0, r.2)
Reads-IsWritable form version line (free_line info) h r =
    ((AreNumbers-AreWords (fields_of line) (info ∷ []) r.1).0, r.2)
Reads-IsWritable form version line (raw_allocation_line size trace ptr) h r =
    (AreNumbers-AreWords (fields_of line) (size ∷ trace ∷ ptr ∷ []) r.1, r.2)
Reads-IsWritable form version line (raw_free_line ptr) h r =
    ((AreNumbers-AreWords (fields_of line) (ptr ∷ []) r.1).0, r.2)
Reads-IsWritable form version line (clock_line ms) h r = r.2
Reads-IsWritable form version line (resident_line pages) h r = (AreNumbers-AreWords (fields_of line) (pages ∷ []) r.1).0
Reads-IsWritable form version line attached_line h r = tt
Reads-IsWritable form version line (comment_line bytes) h r = tt
Reads-IsWritable form version line (other_line bytes) h r = subst IsOther (sym r.1) r.0

pub IfOk-IsWritable : (form : Form) (version : ℕ) (line : List ℕ) (r : Result Item Malformed) → length line < 2 ^ 32
    → IfOk r (λ item. Reads form version line (content item)) → IfOk r (λ item. IsWritable form version (content item))
IfOk-IsWritable form version line (Ok item) h r = Reads-IsWritable form version line (content item) h r
IfOk-IsWritable form version line (Err fault) h r = tt
