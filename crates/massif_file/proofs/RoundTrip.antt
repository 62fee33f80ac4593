-- The lines of a profile that may be written are read as that profile.
use Rattle.std.proofs.Common.{◌≡◌, ◌≢◌, ℕ, zero, suc, ◌+◌, ◌-◌, ◌<◌, ◌≤◌, ◌^◌, Bool, true, false, cond, eqb, List, []}
use Rattle.std.proofs.Common.{◌∷◌, ◌++◌, length, map, Option, Some, None, Ok, refl, sym, ap, subst, ◌∙◌, arith, decimal}
use Rattle.std.proofs.Common.{get_or, All, le-leb, eq-eqb, inl, inr}
use Rattle.std.specs.Prelude.{codes, not, slice_get, ◌⊎◌}
use Rattle.std.specs.List.{list_all}
use Rattle.std.specs.Option.{option_map, option_and_then}
use Rattle.std.proofs.lemmas.Bool.{ne_eqb}
use Rattle.std.proofs.lemmas.List.Elements.{All-head, All-tail, All-cons, All-nil, All-append, filter-append}
use Rattle.std.proofs.lemmas.List.Sums.{AllPass-from_list_all}
use Rattle.hp_num.specs.Digits.{IsDecimalDigit}
use Rattle.hp_num.specs.ParsedDec.{parsed_dec}
use Rattle.massif_file.specs.declared.fault.ProfileFault.TheVariants.{BadNumber}
use Rattle.massif_file.specs.declared.profile.TimeUnit.{TimeUnit}
use Rattle.massif_file.specs.declared.profile.TimeUnit.TheVariants.{Instructions, Milliseconds, Bytes, Events}
use Rattle.massif_file.specs.declared.profile.HeapTree.{HeapTree}
use Rattle.massif_file.specs.declared.profile.HeapTree.TheVariants.{Empty, Detailed, Peak}
use Rattle.massif_file.specs.TreeLine.{TreeLine}
use Rattle.massif_file.specs.declared.profile.Snap.{Snap}
use Rattle.massif_file.specs.declared.profile.Profile.{Profile}
use Rattle.massif_file.specs.Blanks.{is_blank, without_blanks, before_byte, from_byte, is_skipped, blanks}
use Rattle.massif_file.specs.Fields.{value_after, header_value, at_most, number_of, max_number, or_fault, number_in}
use Rattle.massif_file.specs.Fields.{key_number, unit_of, unit_name, mark_of, mark_name, unit_in, mark_in}
use Rattle.massif_file.specs.IsProfile.{is_profile, saying}
use Rattle.massif_file.specs.Items.{Item, node_item, Say, snap_items, snaps_items}
use Rattle.massif_file.specs.Levels.{after_line}
use Rattle.massif_file.specs.TreeLineOf.{sized_line, counted_line, tree_line_of}
use Rattle.massif_file.specs.Descriptions.{joined}
use Rattle.massif_file.specs.IsWritable.{IsLine, IsText, IsWritableLine, IsWritableSnap, IsWritable}
use Rattle.massif_file.specs.MassifText.{node_text, tree_lines, separator, head_lines, size_lines, mark_lines}
use Rattle.massif_file.specs.MassifText.{snap_lines, snaps_lines, massif_lines}

-- what is known of decimal texts
pub record Decimals : Type 0 where
  pub digits : (n : ℕ) → n < 2 ^ 64 → All IsDecimalDigit (decimal n)
  pub reads_back : (n : ℕ) → n < 2 ^ 64 → parsed_dec (decimal n) ≡ Some n

-- ---- a text before a byte that it lacks

-- the text comes before
before_byte_at : (byte : ℕ) (text rest : List ℕ) → All (λ b. b ≢ byte) text
    → before_byte byte (text ++ byte ∷ rest) ≡ text
before_byte_at byte [] rest h = ap (λ (t : Bool). cond t [] (byte ∷ before_byte byte rest)) (eq-eqb byte byte refl)
before_byte_at byte (b ∷ bs) rest h =
    ap (λ (t : Bool). cond t [] (b ∷ before_byte byte (bs ++ byte ∷ rest)))
    (ne_eqb b byte (All-head (λ x. x ≢ byte) b bs h))
    ∙ ap (λ (l : List ℕ). b ∷ l) (before_byte_at byte bs rest (All-tail (λ x. x ≢ byte) b bs h))

-- and the byte after it
from_byte_at : (byte : ℕ) (text rest : List ℕ) → All (λ b. b ≢ byte) text
    → from_byte byte (text ++ byte ∷ rest) ≡ byte ∷ rest
from_byte_at byte [] rest h = ap (λ (t : Bool). cond t (byte ∷ rest) (from_byte byte rest)) (eq-eqb byte byte refl)
from_byte_at byte (b ∷ bs) rest h =
    ap (λ (t : Bool). cond t (b ∷ bs ++ byte ∷ rest) (from_byte byte (bs ++ byte ∷ rest)))
    (ne_eqb b byte (All-head (λ x. x ≢ byte) b bs h))
    ∙ from_byte_at byte bs rest (All-tail (λ x. x ≢ byte) b bs h)

-- a text that does not begin with a blank has none to lose
pub no_leading : (text : List ℕ) → (slice_get text 0 ≡ Some 32 → ⊥) → without_blanks text ≡ text
no_leading [] h = refl
no_leading (b ∷ bs) h = ap (λ (t : Bool). cond t (without_blanks bs) (b ∷ bs)) (ne_eqb b 32 (λ e. h (ap Some e)))

-- an indented line without its blanks
after_indent : (n : ℕ) (rest : List ℕ) → without_blanks (blanks n ++ 110 ∷ rest) ≡ 110 ∷ rest
after_indent zero rest = refl
after_indent (suc n) rest = after_indent n rest

-- an indented line is not skipped
not_blank : (n : ℕ) (rest : List ℕ) → list_all is_blank (blanks n ++ 110 ∷ rest) ≡ false
not_blank zero rest = refl
not_blank (suc n) rest = not_blank n rest

-- so it counts
indent_kept : (n : ℕ) (rest : List ℕ) → is_skipped (blanks n ++ 110 ∷ rest) ≡ false
indent_kept zero rest = refl
indent_kept (suc n) rest = not_blank n rest

-- ---- single lines

module _ (d : Decimals) where
  -- the digits of a number lack each byte that is no digit
  lacks : (n byte : ℕ) → n < 2 ^ 64 → (byte < 48) ⊎ (57 < byte) → All (λ b. b ≢ byte) (decimal n)
  lacks n byte small (inl below) = λ i x within e. let digit = d.digits n small i x within in omega (arith, digit, e)
  lacks n byte small (inr above) = λ i x within e. let digit = d.digits n small i x within in omega (arith, digit, e)

  -- a number is read again
  number_again : (n most : ℕ) → n ≤ most → n < 2 ^ 64 → number_of most (decimal n) ≡ Some n
  unfolding number_of
  number_again n most le small =
      ap (at_most most) (d.reads_back n small) ∙ ap (λ (t : Bool). cond t (Some n) None) (le-leb n most le)

  -- so is a number after a key
  key_again : (n : ℕ) → n ≤ 2 ^ 62 → number_in (Some (decimal n)) ≡ Ok n
  key_again n le = ap (or_fault BadNumber) (number_again n max_number (omega arith) (omega arith))

  -- and `B LABEL`
  sized_again : (children bytes : ℕ) (label : List ℕ) → bytes ≤ 2 ^ 62 → IsText label
      → sized_line children (decimal bytes ++ 32 ∷ label)
      ≡ Some (record { children = children; bytes = bytes; label = label })
  sized_again children bytes label le text =
      let small : bytes < 2 ^ 64 = omega arith in
      let front = before_byte_at 32 (decimal bytes) label (lacks bytes 32 small (inl (omega arith))) in
      let back = from_byte_at 32 (decimal bytes) label (lacks bytes 32 small (inl (omega arith))) in
      ap (λ (t : List ℕ). option_map
      (λ n. record {
        children = children;
        bytes = n;
        label = without_blanks (from_byte 32 (decimal bytes ++ 32 ∷ label));
      })
      (number_of max_number t)) front
      ∙ ap (option_map
      (λ n. record {
        children = children;
        bytes = n;
        label = without_blanks (from_byte 32 (decimal bytes ++ 32 ∷ label));
      }))
      (number_again
      bytes max_number (omega arith) small)
      ∙ ap (λ (t : List ℕ). Some (record { children = children; bytes = bytes; label = without_blanks t })) back
      ∙ ap (λ (t : List ℕ). Some (record { children = children; bytes = bytes; label = t }))
      (no_leading label text.begin)

  -- and `C: B LABEL`
  counted_again : (line : TreeLine) → IsWritableLine line
      → counted_line (decimal line.children ++ (58 ∷ 32 ∷ (decimal line.bytes ++ (32 ∷ line.label)))) ≡ Some line
  counted_again line h =
      let small : line.children < 2 ^ 64 = omega (arith, h.children) in
      let rest : List ℕ = 32 ∷ (decimal line.bytes ++ (32 ∷ line.label)) in
      let whole : List ℕ = decimal line.children ++ (58 ∷ rest) in
      let front = before_byte_at 58 (decimal line.children) rest (lacks line.children 58 small (inr (omega arith))) in
      let back = from_byte_at 58 (decimal line.children) rest (lacks line.children 58 small (inr (omega arith))) in
      let from : List ℕ → Option TreeLine =
      λ (t : List ℕ). option_and_then
      (λ children. option_and_then (sized_line children) (value_after (codes ": ") (from_byte 58 whole)))
      (number_of 4294967295 t) in
      ap from front
      ∙ ap (option_and_then
      (λ children. option_and_then (sized_line children) (value_after (codes ": ") (from_byte 58 whole)))) (number_again
      line.children 4294967295 (omega (arith, h.children)) small)
      ∙ ap (λ (t : List ℕ). option_and_then (sized_line line.children) (value_after (codes ": ") t)) back
      ∙ sized_again line.children line.bytes line.label h.bytes h.label

  -- and a line of a tree
  node_again : (n : ℕ) (line : TreeLine) → IsWritableLine line → tree_line_of (blanks n ++ node_text line) ≡ Some line
  unfolding tree_line_of
  node_again n line h =
      ap (λ (t : List ℕ). option_and_then counted_line (value_after (codes "n") t))
      (after_indent n (decimal line.children ++ (58 ∷ 32 ∷ (decimal line.bytes ++ (32 ∷ line.label)))))
      ∙ counted_again line h

  -- ---- the lines of a tree

  -- which counts
  kept_node : (n : ℕ) (line : TreeLine) (lines : List (List ℕ))
      → saying ((blanks n ++ node_text line) ∷ lines) ≡ (blanks n ++ node_text line) ∷ saying lines
  kept_node n line lines =
      ap (λ (t : Bool). cond (not t) ((blanks n ++ node_text line) ∷ saying lines) (saying lines))
      (indent_kept n (decimal line.children ++ (58 ∷ 32 ∷ (decimal line.bytes ++ (32 ∷ line.label)))))

  -- and all lines of a tree
  tree_again : (to_come : List ℕ) (nodes : List TreeLine) → All IsWritableLine nodes
      → Say (saying (tree_lines to_come nodes)) (map node_item nodes)
  tree_again to_come [] h = tt
  tree_again to_come (node ∷ nodes) h =
      subst (λ (ls : List (List ℕ)). Say ls (map node_item (node ∷ nodes)))
      (sym (kept_node (length to_come - 1) node (tree_lines (after_line node.children to_come) nodes))) (
        node_again (length to_come - 1) node (All-head IsWritableLine node nodes h),
        tree_again (after_line node.children to_come) nodes (All-tail IsWritableLine node nodes h),
      )

  -- ---- the lines of the snapshots

  -- a mark is read again
  mark_again : (mark : HeapTree)
      → mark_in (value_after (codes "heap_tree=") (codes "heap_tree=" ++ mark_name mark)) ≡ Some mark
  unfolding mark_of
  mark_again Empty = refl
  mark_again _ = refl

  -- and the lines of a snapshot
  snap_again : (n : ℕ) (snap : Snap) → n ≤ 2 ^ 62 → IsWritableSnap snap
      → Say (saying (snap_lines n snap)) (snap_items n snap)
  unfolding key_number
  snap_again n snap le h = (
    key_again n le,
    (
      key_again snap.time h.time,
      (
        key_again snap.heap h.heap,
        (
          key_again snap.extra h.extra,
          (key_again snap.stacks h.stacks, (mark_again snap.mark, tree_again (1 ∷ []) snap.tree h.tree)),
        ),
      ),
    ),
  )

  -- lines that say items, and then others
  Say-append : (xs ys : List (List ℕ)) (front back : List Item) → Say xs front → Say ys back
      → Say (xs ++ ys) (front ++ back)
  Say-append [] ys [] back a b = b
  Say-append [] ys (i ∷ is) back a b = absurd a
  Say-append (x ∷ xs) ys [] back a b = absurd a
  Say-append (x ∷ xs) ys (i ∷ is) back a b = (a.0, Say-append xs ys is back a.1 b)

  -- and the lines of all snapshots
  snaps_again : (n : ℕ) (snaps : List Snap) → n + length snaps ≤ 2 ^ 62 + 1 → All IsWritableSnap snaps
      → Say (saying (snaps_lines n snaps)) (snaps_items n snaps)
  snaps_again n [] le h = tt
  snaps_again n (snap ∷ snaps) le h =
      subst (λ (ls : List (List ℕ)). Say ls (snap_items n snap ++ snaps_items (suc n) snaps))
      (sym (filter-append (λ line. not (is_skipped line)) (snap_lines n snap) (snaps_lines (suc n) snaps)))
      (Say-append (saying (snap_lines n snap)) (saying (snaps_lines (suc n) snaps)) (snap_items n snap)
      (snaps_items (suc n) snaps)
      (snap_again n snap (omega arith) (All-head IsWritableSnap snap snaps h))
      (snaps_again (suc n) snaps (omega arith) (All-tail IsWritableSnap snap snaps h)))

  -- ---- the header, and all

  -- the first description
  joined_nothing : (text : List ℕ) → joined [] text ≡ text
  joined_nothing [] = refl
  joined_nothing (b ∷ bs) = refl

  -- a unit is read again
  unit_again : (unit : TimeUnit)
      → unit_in (header_value (codes "time_unit:") (codes "time_unit: " ++ unit_name unit)) ≡ Some unit
  unfolding unit_of
  unit_again Instructions = refl
  unit_again _ = refl

  -- and all lines of a profile
  pub reads_again : (profile : Profile) → IsWritable profile → is_profile (massif_lines profile) profile
  reads_again profile h = record {
    descriptions = (codes "desc: " ++ profile.desc) ∷ [];
    others =
        (codes "cmd: " ++ profile.cmd) ∷ (codes "time_unit: " ++ unit_name profile.unit)
        ∷ saying (snaps_lines 0 profile.snaps);
    parts = refl;
    described = (
      without_blanks profile.desc,
      refl,
      joined_nothing (without_blanks profile.desc) ∙ no_leading profile.desc h.desc.begin,
    );
    said = (
      ap Some (no_leading profile.cmd h.cmd.begin),
      (unit_again profile.unit, snaps_again 0 profile.snaps (omega (arith, h.numbers)) h.snaps),
    );
    right = h.right;
  }

  -- ---- the lines have no line feed

  -- no byte is a line feed
  feedless : List ℕ → Bool
  feedless text = list_all (λ b. not (eqb b 10)) text

  -- a text that passes the test
  literal : (text : List ℕ) → feedless text ≡ true → IsLine text
  unfolding feedless
  literal text h = λ i x within e.
      let pass : not (eqb (get_or text i x) 10) ≡ true =
      AllPass-from_list_all (λ b. not (eqb b 10)) text h i x within in
      absurd (let t : eqb (get_or text i x) 10 ≡ true = eq-eqb (get_or text i x) 10 e in let f : not true
      ≡ true = ap not (sym t) ∙ pass in cc)

  -- a key and a number
  key_line : (key : List ℕ) (n : ℕ) → feedless key ≡ true → n < 2 ^ 64 → IsLine (key ++ decimal n)
  key_line key n h small =
      All-append (λ b. b ≢ 10) key (decimal n) (literal key h) (lacks n 10 small (inl (omega arith)))

  -- a key and a text
  text_line : (key text : List ℕ) → feedless key ≡ true → IsText text → IsLine (key ++ text)
  text_line key text h t = All-append (λ b. b ≢ 10) key text (literal key h) t.line

  -- blanks
  blanks_line : (n : ℕ) → IsLine (blanks n)
  blanks_line zero = All-nil (λ b. b ≢ 10)
  blanks_line (suc n) = All-cons (λ b. b ≢ 10) 32 (blanks n) (λ e. omega (arith, e)) (blanks_line n)

  -- a line of a tree
  node_line : (n : ℕ) (line : TreeLine) → IsWritableLine line → IsLine (blanks n ++ node_text line)
  unfolding feedless
  node_line n line h =
      All-append (λ b. b ≢ 10) (blanks n) (node_text line) (blanks_line n)
      (All-append (λ b. b ≢ 10) (codes "n")
      (decimal line.children ++ (58 ∷ 32 ∷ (decimal line.bytes ++ (32 ∷ line.label)))) (literal (codes "n") refl)
      (All-append (λ b. b ≢ 10) (decimal line.children) (58 ∷ 32 ∷ (decimal line.bytes ++ (32 ∷ line.label)))
      (lacks line.children 10 (omega (arith, h.children)) (inl (omega arith)))
      (All-append (λ b. b ≢ 10) (codes ": ") (decimal line.bytes ++ (32 ∷ line.label)) (literal (codes ": ") refl)
      (All-append (λ b. b ≢ 10) (decimal line.bytes) (32 ∷ line.label)
      (lacks line.bytes 10 (omega (arith, h.bytes)) (inl (omega arith)))
      (text_line (codes " ") line.label refl h.label)))))

  -- all lines of a tree
  tree_are_lines : (to_come : List ℕ) (nodes : List TreeLine) → All IsWritableLine nodes
      → All IsLine (tree_lines to_come nodes)
  tree_are_lines to_come [] h = All-nil IsLine
  tree_are_lines to_come (node ∷ nodes) h =
      All-cons IsLine (blanks (length to_come - 1) ++ node_text node)
      (tree_lines (after_line node.children to_come) nodes)
      (node_line (length to_come - 1) node (All-head IsWritableLine node nodes h))
      (tree_are_lines (after_line node.children to_come) nodes (All-tail IsWritableLine node nodes h))

  -- the line of a mark
  mark_line : (mark : HeapTree) → IsLine (codes "heap_tree=" ++ mark_name mark)
  unfolding feedless
  mark_line Empty = literal (codes "heap_tree=empty") refl
  mark_line Detailed = literal (codes "heap_tree=detailed") refl
  mark_line Peak = literal (codes "heap_tree=peak") refl

  -- the first lines of a snapshot
  head_are_lines : (n time : ℕ) → n < 2 ^ 64 → time < 2 ^ 64 → All IsLine (head_lines n time)
  unfolding feedless
  head_are_lines n time a b =
      All-cons IsLine separator ((codes "snapshot=" ++ decimal n) ∷ separator ∷ (codes "time=" ++ decimal time) ∷ [])
      (literal separator refl)
      (All-cons IsLine (codes "snapshot=" ++ decimal n) (separator ∷ (codes "time=" ++ decimal time) ∷ [])
      (key_line (codes "snapshot=") n refl a)
      (All-cons IsLine separator ((codes "time=" ++ decimal time) ∷ []) (literal separator refl)
      (All-cons IsLine (codes "time=" ++ decimal time) [] (key_line (codes "time=") time refl b) (All-nil IsLine))))

  -- the lines of its sizes
  size_are_lines : (snap : Snap) → IsWritableSnap snap → All IsLine (size_lines snap)
  unfolding feedless
  size_are_lines snap h =
      All-cons IsLine (codes "mem_heap_B=" ++ decimal snap.heap)
      ((codes "mem_heap_extra_B=" ++ decimal snap.extra) ∷ (codes "mem_stacks_B=" ++ decimal snap.stacks) ∷ [])
      (key_line (codes "mem_heap_B=") snap.heap refl (omega (arith, h.heap)))
      (All-cons IsLine (codes "mem_heap_extra_B=" ++ decimal snap.extra)
      ((codes "mem_stacks_B=" ++ decimal snap.stacks) ∷ [])
      (key_line (codes "mem_heap_extra_B=") snap.extra refl (omega (arith, h.extra)))
      (All-cons IsLine (codes "mem_stacks_B=" ++ decimal snap.stacks) []
      (key_line (codes "mem_stacks_B=") snap.stacks refl (omega (arith, h.stacks))) (All-nil IsLine)))

  -- all lines of a snapshot
  snap_are_lines : (n : ℕ) (snap : Snap) → n < 2 ^ 64 → IsWritableSnap snap → All IsLine (snap_lines n snap)
  snap_are_lines n snap small h =
      All-append IsLine (head_lines n snap.time) (size_lines snap ++ mark_lines snap)
      (head_are_lines n snap.time small (omega (arith, h.time)))
      (All-append IsLine (size_lines snap) (mark_lines snap) (size_are_lines snap h)
      (All-cons IsLine (codes "heap_tree=" ++ mark_name snap.mark) (tree_lines (1 ∷ []) snap.tree) (mark_line snap.mark)
      (tree_are_lines (1 ∷ []) snap.tree h.tree)))

  -- the lines of all snapshots
  snaps_are_lines : (n : ℕ) (snaps : List Snap) → n + length snaps ≤ 2 ^ 62 + 1 → All IsWritableSnap snaps
      → All IsLine (snaps_lines n snaps)
  snaps_are_lines n [] le h = All-nil IsLine
  snaps_are_lines n (snap ∷ snaps) le h =
      All-append IsLine (snap_lines n snap) (snaps_lines (suc n) snaps)
      (snap_are_lines n snap (omega arith) (All-head IsWritableSnap snap snaps h))
      (snaps_are_lines (suc n) snaps (omega arith) (All-tail IsWritableSnap snap snaps h))

  -- the line of the unit
  unit_line : (unit : TimeUnit) → IsLine (codes "time_unit: " ++ unit_name unit)
  unfolding feedless
  unit_line Instructions = literal (codes "time_unit: i") refl
  unit_line Milliseconds = literal (codes "time_unit: ms") refl
  unit_line Bytes = literal (codes "time_unit: B") refl
  unit_line Events = literal (codes "time_unit: e") refl

  -- all lines of a profile
  pub are_lines : (profile : Profile) → IsWritable profile → All IsLine (massif_lines profile)
  unfolding feedless
  are_lines profile h =
      All-cons IsLine (codes "desc: " ++ profile.desc)
      ((codes "cmd: " ++ profile.cmd) ∷ (codes "time_unit: " ++ unit_name profile.unit) ∷ snaps_lines 0 profile.snaps)
      (text_line (codes "desc: ") profile.desc refl h.desc)
      (All-cons IsLine (codes "cmd: " ++ profile.cmd)
      ((codes "time_unit: " ++ unit_name profile.unit) ∷ snaps_lines 0 profile.snaps)
      (text_line (codes "cmd: ") profile.cmd refl h.cmd)
      (All-cons IsLine (codes "time_unit: " ++ unit_name profile.unit) (snaps_lines 0 profile.snaps)
      (unit_line profile.unit) (snaps_are_lines 0 profile.snaps (omega (arith, h.numbers)) h.snaps)))
