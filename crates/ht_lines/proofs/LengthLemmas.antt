-- A line has a byte for its kind, and two for each field at least.
use Rattle.std.proofs.Common.{◌≡◌, ◌≢◌, ℕ, Bool, true, false, eqb, zero, suc, ◌+◌, ◌<◌, ◌≤◌, List, [], ◌∷◌, length}
use Rattle.std.proofs.Common.{IsTrue, IfOk, Result, Ok, Err, refl, ap, inl, inr, arith, ◌⊎◌}
use Rattle.std.proofs.lemmas.Bool.Decides.{eqb_tells}
use borrow.Author.Tests.{eq-eqb}
use Rattle.ht_lines.specs.declared.item.Item.{Item}
use Rattle.ht_lines.specs.declared.item.Malformed.{Malformed}
use Rattle.ht_lines.specs.declared.item.Form.{Form}
use Rattle.ht_lines.specs.Content.{Content, version_line, executable_line, command_line, system_line, string_line}
use Rattle.ht_lines.specs.Content.{clear_line, module_line, instruction_line, node_line, info_line, allocation_line}
use Rattle.ht_lines.specs.Content.{free_line, raw_allocation_line, raw_free_line, clock_line, resident_line}
use Rattle.ht_lines.specs.Content.{attached_line, suppression_line, comment_line, other_line}
use Rattle.ht_lines.specs.Fields.{is_blank, fields, field_ends, after_blanks, after_field, AreNumbers}
use Rattle.ht_lines.specs.ItemContent.{content}
use Rattle.ht_lines.specs.Kinds.{IsOfKind, after_kind, fields_of}
use Rattle.ht_lines.specs.LeastLength.{least_length}
use Rattle.ht_lines.specs.Reads.{Reads}
use Rattle.ht_lines.proofs.FieldLemmas.{fields-some, fields-none, length-after_field, from_blank-ends, no_bytes}
use Rattle.ht_lines.proofs.NumberLemmas.{AreNumbers-length}
use Rattle.ht_lines.proofs.LineSides.{kind_first, kind_ends}

blanks_step : (b : ℕ) (bs : List ℕ) (t : Bool) → is_blank b ≡ t → length (after_blanks bs) ≤ length bs
    → length (after_blanks (b ∷ bs)) ≤ length (b ∷ bs)
blanks_step b bs true e h = rw e (omega arith)
blanks_step b bs false e h = rw e (omega arith)

after_blanks-length : (text : List ℕ) → length (after_blanks text) ≤ length text
after_blanks-length [] = omega arith
after_blanks-length (b ∷ bs) = blanks_step b bs (is_blank b) refl (after_blanks-length bs)

-- a blank at the front goes
shorter : (text : List ℕ) → 0 < length (after_blanks text) → IsTrue (field_ends text)
    → length (after_blanks text) < length text
shorter [] some e = absurd (omega arith)
shorter (b ∷ bs) some e = rw e (omega (arith, after_blanks-length bs))

abbrev TwoBytes : List ℕ → Type 0
TwoBytes text = length (fields text) + length (fields text) ≤ length text

by_first : (k : ℕ) (text : List ℕ) → length text ≤ suc k → IsTrue (field_ends text)
    → ((rest : List ℕ) → length rest ≤ k → IsTrue (field_ends rest) → TwoBytes rest)
    → ((eqb (length (after_blanks text)) 0 ≡ true) × (length (after_blanks text) ≡ 0))
    ⊎ ((eqb (length (after_blanks text)) 0 ≡ false) × (length (after_blanks text) ≢ 0))
    → TwoBytes text
by_first k text h e more (inl w) =
    let none = fields-none text (no_bytes (after_blanks text) (eq-eqb _ 0 w.1)) in rw none (omega arith)
by_first k text h e more (inr w) =
    let some : 0 < length (after_blanks text) = omega (arith, w.1) in
    let less = shorter text some e in
    let after = length-after_field text some in
    let rest = more (after_field text) (omega arith) (from_blank-ends (after_blanks text)) in
    rw (fields-some text some) (omega arith)

-- a text that begins with a blank, or is empty, has two bytes for each field
two_bytes : (k : ℕ) (text : List ℕ) → length text ≤ k → IsTrue (field_ends text) → TwoBytes text
two_bytes zero [] h e = rw (fields-none [] refl) (omega arith)
two_bytes zero (b ∷ bs) h e = absurd (omega arith)
two_bytes (suc k) text h e = by_first k text h e (λ rest. two_bytes k rest) (eqb_tells (length (after_blanks text)) 0)

fields_fit : (text : List ℕ) → IsTrue (field_ends text) → TwoBytes text
fields_fit text e = two_bytes (length text) text (omega arith) e

counted : (kind : ℕ) (line : List ℕ) (ns : List ℕ) → IsOfKind kind line → AreNumbers (fields_of line) ns
    → 1 + length ns + length ns ≤ length line
counted kind line ns k a =
    omega (
      arith,
      ap length (kind_first kind line k),
      fields_fit (after_kind line) (kind_ends kind line k),
      AreNumbers-length (fields_of line) ns a,
    )

kind_byte : (kind : ℕ) (line : List ℕ) → IsOfKind kind line → 1 ≤ length line
kind_byte kind line k = omega (arith, ap length (kind_first kind line k))

pub Reads-length : (form : Form) (version : ℕ) (line : List ℕ) (said : Content) → Reads form version line said
    → least_length said ≤ length line
Reads-length form version line (version_line h f) (k, inl r) = counted 118 line (h ∷ []) k r.0
Reads-length form version line (version_line h f) (k, inr r) = omega (arith, counted 118 line (h ∷ f ∷ []) k r.0)
Reads-length form version line (executable_line bytes) r = kind_byte 120 line r.0
Reads-length form version line (command_line bytes) r = kind_byte 88 line r.0
Reads-length form version line (suppression_line bytes) r = kind_byte 83 line r.0
Reads-length form version line (string_line bytes) r = kind_byte 115 line r.0
Reads-length form version line (system_line p q) r = counted 73 line (p ∷ q ∷ []) r.0 r.1
Reads-length form version line clear_line r = kind_byte 109 line r.0
Reads-length form version line (module_line name start ranges) r = kind_byte 109 line r.0
Reads-length form version line (instruction_line ip m frames) r =
    omega (arith, counted 105 line (ip ∷ m ∷ frames) r.0 r.1)
Reads-length form version line (node_line ip parent) r = counted 116 line (ip ∷ parent ∷ []) r.0 r.1
Reads-length form version line (info_line size trace) r = counted 97 line (size ∷ trace ∷ []) r.0 r.1
Reads-length form version line (allocation_line info) r = counted 43 line (info ∷ []) r.0 r.1
Reads-length form version line (free_line info) r = counted 45 line (info ∷ []) r.0 r.1
Reads-length form version line (raw_allocation_line size trace ptr) r =
    counted 43 line (size ∷ trace ∷ ptr ∷ []) r.0 r.1
Reads-length form version line (raw_free_line ptr) r = counted 45 line (ptr ∷ []) r.0 r.1
Reads-length form version line (clock_line ms) r = counted 99 line (ms ∷ []) r.0 r.1
Reads-length form version line (resident_line pages) r = counted 82 line (pages ∷ []) r.0 r.1
Reads-length form version line attached_line r = kind_byte 65 line r
Reads-length form version line (comment_line bytes) r = omega (arith, ap length r)
Reads-length form version line (other_line bytes) r = omega arith

pub IfOk-length : (form : Form) (version : ℕ) (line : List ℕ) (r : Result Item Malformed)
    → IfOk r (λ item. Reads form version line (content item))
    → IfOk r (λ item. least_length (content item) ≤ length line)
IfOk-length form version line (Ok item) r = Reads-length form version line (content item) r
IfOk-length form version line (Err fault) r = tt
