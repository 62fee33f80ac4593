-- What is read may be written: its numbers are at most 2 ^ 62, and its texts are of one line and begin with no blank.
use Rattle.std.proofs.Common.{◌≡◌, ◌≢◌, ℕ, suc, ◌+◌, ◌<◌, ◌≤◌, ◌^◌, Bool, true, false, cond, eqb, leb, List, [], ◌∷◌}
use Rattle.std.proofs.Common.{◌++◌, length, map, Option, Some, None, Ok, refl, subst, arith, All, leb-true}
use Rattle.std.specs.Prelude.{codes, not, slice_get}
use Rattle.std.specs.Option.{option_map, option_and_then}
use Rattle.std.proofs.lemmas.Bool.{eqb-false}
use Rattle.std.proofs.lemmas.Option.{cond_some}
use Rattle.std.proofs.lemmas.List.Elements.{All-head, All-tail, All-cons, All-nil, All-append, All-filter}
use Rattle.hp_num.specs.ParsedDec.{parsed_dec}
use Rattle.massif_file.specs.declared.fault.ProfileFault.TheVariants.{BadNumber}
use Rattle.massif_file.specs.TreeLine.{TreeLine}
use Rattle.massif_file.specs.declared.profile.Snap.{Snap}
use Rattle.massif_file.specs.declared.profile.Profile.{Profile}
use Rattle.massif_file.specs.Blanks.{without_blanks, before_byte, from_byte, is_skipped}
use Rattle.massif_file.specs.Fields.{value_after, header_value, at_most, number_of, max_number, or_fault, number_in}
use Rattle.massif_file.specs.Fields.{key_number}
use Rattle.massif_file.specs.IsProfile.{is_profile}
use Rattle.massif_file.specs.Items.{node_item, Say, snap_items, snaps_items, items_of}
use Rattle.massif_file.specs.TreeLineOf.{sized_line, counted_line, tree_line_of}
use Rattle.massif_file.specs.Descriptions.{joined, Describe}
use Rattle.massif_file.specs.IsWritable.{IsLine, IsText, IsWritableLine, IsWritableSnap, IsWritable}
use Rattle.massif_file.proofs.Complete.{Say-split}

-- ---- parts of options and lists

-- a chain that answers
bind_some : {A B : Type 0} (o : Option A) (f : A → Option B) (y : B) → option_and_then f o ≡ Some y
    → (x : A) × (o ≡ Some x) × (f x ≡ Some y)
bind_some (Some x) f y e = (x, refl, e)
bind_some None f y e = absurd cc

-- a value that was changed
map_some : {A B : Type 0} (o : Option A) (f : A → B) (y : B) → option_map f o ≡ Some y
    → (x : A) × (o ≡ Some x) × (f x ≡ y)
map_some (Some x) f y e = (x, refl, cc)
map_some None f y e = absurd cc

-- what holds of each holds of the front
all_front : {X : Type 0} (P : X → Type 0) (xs ys : List X) → All P (xs ++ ys) → All P xs
all_front P [] ys h = All-nil P
all_front P (x ∷ xs) ys h = All-cons P x xs (All-head P x (xs ++ ys) h) (all_front P xs ys (All-tail P x (xs ++ ys) h))

-- and of the back
all_back : {X : Type 0} (P : X → Type 0) (xs ys : List X) → All P (xs ++ ys) → All P ys
all_back P [] ys h = h
all_back P (x ∷ xs) ys h = all_back P xs ys (All-tail P x (xs ++ ys) h)

-- ---- parts of a line

-- a byte of a line
abbrev NoFeed : ℕ → Type 0
NoFeed b = b ≢ 10

-- what follows a key is of one line
value_line : (key line value : List ℕ) → IsLine line → value_after key line ≡ Some value → IsLine value
value_line [] line value h e = let same : line ≡ value = cc in subst IsLine same h
value_line (k ∷ key) [] value h e = absurd cc
value_line (k ∷ key) (b ∷ bs) value h e = by (eqb b k) e (value_line key bs value (All-tail NoFeed b bs h))
  where
    by : (t : Bool) → cond t (value_after key bs) None ≡ Some value → (value_after key bs ≡ Some value → IsLine value)
        → IsLine value
    by true q rest = rest q
    by false q rest = absurd cc

-- so is a text without its leading blanks
without_line : (text : List ℕ) → IsLine text → IsLine (without_blanks text)
without_line [] h = h
without_line (b ∷ bs) h = by (eqb b 32) (without_line bs (All-tail NoFeed b bs h))
  where
    by : (t : Bool) → IsLine (without_blanks bs) → IsLine (cond t (without_blanks bs) (b ∷ bs))
    by true rest = rest
    by false rest = h

-- which begins with no blank
without_begin : (text : List ℕ) → slice_get (without_blanks text) 0 ≡ Some 32 → ⊥
without_begin [] e = absurd cc
without_begin (b ∷ bs) e = by (eqb b 32) refl e (without_begin bs)
  where
    by : (t : Bool) → eqb b 32 ≡ t → slice_get (cond t (without_blanks bs) (b ∷ bs)) 0 ≡ Some 32
        → (slice_get (without_blanks bs) 0 ≡ Some 32 → ⊥) → ⊥
    by true q h rest = rest h
    by false q h rest = eqb-false b 32 q (let same : b ≡ 32 = cc in same)

-- so it is a text
without_text : (text : List ℕ) → IsLine text → IsText (without_blanks text)
without_text text h = record { line = without_line text h; begin = without_begin text }

-- what follows a byte is of one line
from_line : (byte : ℕ) (text : List ℕ) → IsLine text → IsLine (from_byte byte text)
from_line byte [] h = h
from_line byte (b ∷ bs) h = by (eqb b byte) (from_line byte bs (All-tail NoFeed b bs h))
  where
    by : (t : Bool) → IsLine (from_byte byte bs) → IsLine (cond t (b ∷ bs) (from_byte byte bs))
    by true rest = h
    by false rest = rest

-- ---- numbers

-- a number is within its bound
number_most : (most : ℕ) (text : List ℕ) (n : ℕ) → number_of most text ≡ Some n → n ≤ most
unfolding number_of
number_most most text n e = by (parsed_dec text) e
  where
    by : (o : Option ℕ) → at_most most o ≡ Some n → n ≤ most
    by None q = absurd cc
    by (Some m) q = let r = cond_some (leb m most) m n q in subst (λ (k : ℕ). k ≤ most) r.1 (leb-true m most r.0)

-- a number after a key is at most 2 ^ 62
key_most : (key line : List ℕ) (n : ℕ) → key_number key line ≡ Ok n → n ≤ 2 ^ 62
unfolding key_number
key_most key line n e = by (value_after key line) e
  where
    number : (text : List ℕ) (o : Option ℕ) → number_of max_number text ≡ o → or_fault BadNumber o ≡ Ok n → n ≤ 2 ^ 62
    number text None p q = absurd cc
    number text (Some m) p q = let same : m ≡ n = cc in omega (arith, number_most max_number text m p, same)

    by : (o : Option (List ℕ)) → number_in o ≡ Ok n → n ≤ 2 ^ 62
    by None q = absurd cc
    by (Some text) q = number text (number_of max_number text) refl q

-- ---- a line of a tree

-- `B LABEL` may be written
sized_writable : (children : ℕ) (text : List ℕ) (node : TreeLine) → children < 2 ^ 32 → IsLine text
    → sized_line children text ≡ Some node → IsWritableLine node
sized_writable children text node few h e =
    let make : ℕ → TreeLine =
    λ (n : ℕ). record { children = children; bytes = n; label = without_blanks (from_byte 32 text) } in
    let r = map_some (number_of max_number (before_byte 32 text)) make node e in
    subst IsWritableLine r.2
    (record {
      children = few;
      bytes = omega (arith, number_most max_number (before_byte 32 text) r.0 r.1);
      label = without_text (from_byte 32 text) (from_line 32 text h);
    })

-- `C: B LABEL` may be written
counted_writable : (text : List ℕ) (node : TreeLine) → IsLine text → counted_line text ≡ Some node → IsWritableLine node
counted_writable text node h e =
    let a =
    bind_some (number_of 4294967295 (before_byte 58 text))
    (λ children. option_and_then (sized_line children) (value_after (codes ": ") (from_byte 58 text))) node e in
    let b = bind_some (value_after (codes ": ") (from_byte 58 text)) (sized_line a.0) node a.2 in
    sized_writable a.0 b.0 node (omega (arith, number_most 4294967295 (before_byte 58 text) a.0 a.1))
    (value_line (codes ": ") (from_byte 58 text) b.0 (from_line 58 text h) b.1) b.2

-- so may a line of a tree
node_writable : (line : List ℕ) (node : TreeLine) → IsLine line → tree_line_of line ≡ Some node → IsWritableLine node
unfolding tree_line_of
node_writable line node h e =
    let a = bind_some (value_after (codes "n") (without_blanks line)) counted_line node e in
    counted_writable a.0 node (value_line (codes "n") (without_blanks line) a.0 (without_line line h) a.1) a.2

-- and all lines of a tree
nodes_writable : (lines : List (List ℕ)) (nodes : List TreeLine) → All IsLine lines → Say lines (map node_item nodes)
    → All IsWritableLine nodes
nodes_writable lines [] h s = All-nil IsWritableLine
nodes_writable [] (node ∷ nodes) h s = absurd s
nodes_writable (line ∷ lines) (node ∷ nodes) h s =
    All-cons IsWritableLine node nodes (node_writable line node (All-head IsLine line lines h) s.0)
    (nodes_writable lines nodes (All-tail IsLine line lines h) s.1)

-- ---- the snapshots

-- and a snapshot
snap_writable : (n : ℕ) (snap : Snap) (lines : List (List ℕ)) → All IsLine lines → Say lines (snap_items n snap)
    → IsWritableSnap snap
snap_writable n snap [] h s = absurd s
snap_writable n snap (a ∷ []) h s = absurd s.1
snap_writable n snap (a ∷ b ∷ []) h s = absurd s.1.1
snap_writable n snap (a ∷ b ∷ c ∷ []) h s = absurd s.1.1.1
snap_writable n snap (a ∷ b ∷ c ∷ d ∷ []) h s = absurd s.1.1.1.1
snap_writable n snap (a ∷ b ∷ c ∷ d ∷ e ∷ []) h s = absurd s.1.1.1.1.1
snap_writable n snap (a ∷ b ∷ c ∷ d ∷ e ∷ f ∷ lines) h s =
    record {
      time = key_most (codes "time=") b snap.time s.1.0;
      heap = key_most (codes "mem_heap_B=") c snap.heap s.1.1.0;
      extra = key_most (codes "mem_heap_extra_B=") d snap.extra s.1.1.1.0;
      stacks = key_most (codes "mem_stacks_B=") e snap.stacks s.1.1.1.1.0;
      tree = nodes_writable lines snap.tree (all_back IsLine (a ∷ b ∷ c ∷ d ∷ e ∷ f ∷ []) lines h) s.1.1.1.1.1.1;
    }

-- and all snapshots
snaps_writable : (n : ℕ) (snaps : List Snap) (lines : List (List ℕ)) → All IsLine lines
    → Say lines (snaps_items n snaps) → All IsWritableSnap snaps
snaps_writable n [] lines h s = All-nil IsWritableSnap
snaps_writable n (snap ∷ snaps) lines h s =
    let parts = Say-split lines (snap_items n snap) (snaps_items (suc n) snaps) s in
    let both = subst (All IsLine) parts.2 h in
    All-cons IsWritableSnap snap snaps
    (snap_writable n snap parts.0 (all_front IsLine parts.0 parts.1 both) parts.3)
    (snaps_writable (suc n) snaps parts.1 (all_back IsLine parts.0 parts.1 both) parts.4)

-- a snapshot's number is at most 2 ^ 62
first_number : (n : ℕ) (snap : Snap) (lines : List (List ℕ)) → Say lines (snap_items n snap) → n ≤ 2 ^ 62
first_number n snap [] s = absurd s
first_number n snap (a ∷ lines) s = key_most (codes "snapshot=") a n s.0

-- the last snapshot's number is at most 2 ^ 62
snaps_count : (n : ℕ) (snaps : List Snap) (lines : List (List ℕ)) → 0 < length snaps → Say lines (snaps_items n snaps)
    → n + length snaps ≤ 2 ^ 62 + 1
snaps_count n [] lines some s = absurd (omega arith)
snaps_count n (snap ∷ []) lines some s =
    let parts = Say-split lines (snap_items n snap) [] s in
    omega (arith, first_number n snap parts.0 parts.3)
snaps_count n (snap ∷ next ∷ snaps) lines some s =
    let parts = Say-split lines (snap_items n snap) (snaps_items (suc n) (next ∷ snaps)) s in
    omega (arith, snaps_count (suc n) (next ∷ snaps) parts.1 (omega arith) parts.4)

-- ---- the header

-- a blank is a byte of a line
blank_is_no_feed : NoFeed 32
blank_is_no_feed e = omega (arith, e)

-- texts that are joined are a text
joined_text : (desc value : List ℕ) → IsText desc → IsText value → IsText (joined desc value)
joined_text desc [] a b = a
joined_text [] (v ∷ vs) a b = b
joined_text (d ∷ ds) (v ∷ vs) a b = record {
  line = All-append NoFeed (d ∷ ds) (32 ∷ v ∷ vs) a.line (All-cons NoFeed 32 (v ∷ vs) blank_is_no_feed b.line);
  begin = a.begin;
}

-- a value of the header is a text
header_text : (key line value : List ℕ) → IsLine line → header_value key line ≡ Some value → IsText value
header_text key line value h e =
    let r = map_some (value_after key line) without_blanks value e in
    subst IsText r.2 (without_text r.0 (value_line key line r.0 h r.1))

-- so is the description
described_text : (before : List ℕ) (lines : List (List ℕ)) (desc : List ℕ) → IsText before → All IsLine lines
    → Describe before lines desc → IsText desc
described_text before [] desc t h d = subst IsText d t
described_text before (line ∷ lines) desc t h d =
    described_text (joined before d.0) lines desc
    (joined_text before d.0 t (header_text (codes "desc:") line d.0 (All-head IsLine line lines h) d.1))
    (All-tail IsLine line lines h) d.2

-- and the empty text
no_text : IsText []
no_text = without_text [] (All-nil NoFeed)

-- ---- all

-- a profile that is read may be written
pub is_writable : (lines : List (List ℕ)) (profile : Profile) → All IsLine lines → is_profile lines profile
    → IsWritable profile
is_writable lines profile h is =
    let both = subst (All IsLine) is.parts (All-filter (λ line. not (is_skipped line)) IsLine lines h) in
    by is.others (all_back IsLine is.descriptions is.others both) is.said
  where
    by : (others : List (List ℕ)) → All IsLine others → Say others (items_of profile) → IsWritable profile
    by [] all s = absurd s
    by (a ∷ []) all s = absurd s.1
    by (a ∷ b ∷ rest) all s =
        let both = subst (All IsLine) is.parts (All-filter (λ line. not (is_skipped line)) IsLine lines h) in
        record {
          right = is.right;
          numbers = omega (arith, snaps_count 0 profile.snaps rest is.right.some s.1.1);
          desc =
              described_text [] is.descriptions profile.desc no_text (all_front IsLine is.descriptions is.others both)
              is.described;
          cmd = header_text (codes "cmd:") a profile.cmd (All-head IsLine a (b ∷ rest) all) s.0;
          snaps = snaps_writable 0 profile.snaps rest (all_back IsLine (a ∷ b ∷ []) rest all) s.1.1;
        }
