-- Lemmas on the entries of a table, and what is read of one.
use Rattle.std.proofs.Common.{◌≡◌, ℕ, zero, suc, ◌+◌, ◌-◌, ◌^◌, ◌<◌, ◌≤◌, List, [], ◌∷◌, ◌++◌, length, take, drop}
use Rattle.std.proofs.Common.{get_or, refl, sym, ap, ◌∙◌, arith, subst, ◌⊎◌, inl, inr, length-append}
use Rattle.std.specs.Prelude.{slice_get, Some}
use Rattle.std.proofs.lemmas.Bool.{cases_lt}
use Rattle.std.proofs.lemmas.Bool.Decides.{nat_tests}
use Rattle.std.proofs.lemmas.List.{length-map, map-append, take-append-drop, take-map}
use Rattle.std.proofs.lemmas.Option.{same_Some, slice_get-map, slice_get-get_or, slice_get_read, slice_get_within}
use Rattle.hp_num.proofs.Laws.{slice_get-end, slice_get-front}
use Rattle.stack_table.specs.declared.node_entry.NodeEntry.{NodeEntry}
use Rattle.stack_table.specs.Node.{Node, node_at}
use Rattle.stack_table.specs.Stack.{frame_count, most_frames, stack}
use Rattle.stack_table.specs.AreNodes.{AreNodes}
use Rattle.stack_table.specs.LowerParents.{HasLowerParents}
use Rattle.stack_table.specs.Entries.{IsTable, node_of, nodes_of}
use Rattle.stack_table.specs.Continues.{Continues}
use Rattle.stack_table.proofs.Continuing.{Continues-append}
use Rattle.stack_table.proofs.Stacks.{node_at-within, frame_count-zero, frame_count-older, frame_count-newest}
use Rattle.stack_table.proofs.Stacks.{frame_count-unfold, HasLowerParents-push, stack-zero, stack-unfold}

-- as many nodes as entries
pub length-nodes_of : (entries : List NodeEntry) → length (nodes_of entries) ≡ length entries
length-nodes_of entries = length-map entries node_of

-- the nodes of one more entry
pub nodes_of-push : (entries : List NodeEntry) (entry : NodeEntry)
    → nodes_of (entries ++ entry ∷ []) ≡ nodes_of entries ++ node_of entry ∷ []
nodes_of-push entries entry = map-append node_of entries (entry ∷ [])

-- a table with one more entry, whose parent is held and whose depth is right
pub IsTable-push :
    (entries : List NodeEntry) (entry : NodeEntry)
    → IsTable entries → entry.parent ≤ length entries
    → entry.depth ≡ frame_count (nodes_of entries) entry.parent + entry.frames
    → entry.depth ≤ most_frames → length entries < 2 ^ 32 - 2 → IsTable (entries ++ entry ∷ [])
IsTable-push entries entry table held depth few room = record {
  parents =
      let P : List Node → Type 0 = λ nodes. HasLowerParents nodes in
      subst P (sym (nodes_of-push entries entry))
      (HasLowerParents-push (nodes_of entries) (node_of entry) table.parents (rw length-nodes_of held));
  depths = λ k found is. depths k found is (cases_lt k (length entries));
  few_frames = λ k found is. few_frames k found is (cases_lt k (length entries));
  few_nodes = let count = length-append entries (entry ∷ []) in omega arith;
}
  where
    last : (k : ℕ) (found : NodeEntry) → slice_get (entries ++ entry ∷ []) k ≡ Some found → length entries ≤ k
        → (k ≡ length entries) × (entry ≡ found)
    last k found is past =
        let count = length-append entries (entry ∷ []) in
        let within = slice_get_within (entries ++ entry ∷ []) k found is in
        let end : k ≡ length entries = omega arith in
        (end, same_Some entry found (sym (slice_get-end entries entry k end) ∙ is))

    depths : (k : ℕ) (found : NodeEntry) → slice_get (entries ++ entry ∷ []) k ≡ Some found
        → (k < length entries) ⊎ (length entries ≤ k)
        → found.depth ≡ frame_count (nodes_of (entries ++ entry ∷ [])) (k + 1)
    depths k found is (inl within) =
        let count = length-nodes_of entries in
        let before = table.depths k found (sym (slice_get-front entries (entry ∷ []) k within) ∙ is) in
        rw (nodes_of-push entries entry, frame_count-older (nodes_of entries) (node_of entry) (k + 1) (omega arith))
        before
    depths k found is (inr past) =
        let count = length-nodes_of entries in
        let at_end = last k found is past in
        let newest = frame_count-newest (nodes_of entries) (node_of entry) (k + 1) (omega arith) in
        rw (nodes_of-push entries entry, newest, ← at_end.1) depth

    few_frames : (k : ℕ) (found : NodeEntry) → slice_get (entries ++ entry ∷ []) k ≡ Some found
        → (k < length entries) ⊎ (length entries ≤ k) → found.depth ≤ most_frames
    few_frames k found is (inl within) =
        table.few_frames k found (sym (slice_get-front entries (entry ∷ []) k within) ∙ is)
    few_frames k found is (inr past) =
        let at_end = last k found is past in
        rw (← at_end.1) few

-- the node with the number n, which stands in the entry n - 1
node_at-read :
    (entries : List NodeEntry) (nodes : List Node) (n : ℕ) (entry : NodeEntry)
    → nodes_of entries ≡ nodes → 0 < n → slice_get entries (n - 1) ≡ Some entry → node_at nodes n ≡ Some (node_of entry)
node_at-read entries nodes n entry same above is =
    let found = slice_get-map node_of entries (n - 1) in
    let P : List Node → Type 0 = λ nodes. node_at nodes n ≡ Some (node_of entry) in
    subst P same (grind (arith, nat_tests, found))

-- what the entry of node n says of the node and of its stack
pub record Reads (nodes : List Node) (n : ℕ) (entry : NodeEntry) : Type 0 where
  pub node : node_at nodes n ≡ Some (node_of entry)
  pub lower_parent : entry.parent < n
  pub depth : entry.depth ≡ frame_count nodes n
  pub few_frames : entry.depth ≤ most_frames
  pub unfolds : stack nodes n ≡ entry.ip ∷ stack nodes entry.parent

-- an entry of a table says this
read_found :
    (entries : List NodeEntry) (nodes : List Node) (n : ℕ) (entry : NodeEntry)
    → IsTable entries → nodes_of entries ≡ nodes → 0 < n → slice_get entries (n - 1) ≡ Some entry → Reads nodes n entry
read_found entries nodes n entry table same above found =
    let P : List Node → Type 0 = λ nodes. HasLowerParents nodes in
    let lower = subst P same table.parents in
    let node = node_at-read entries nodes n entry same above found in
    let number : n - 1 + 1 ≡ n = omega arith in
    let depth = table.depths (n - 1) entry found in
    record {
      node = node;
      lower_parent = lower.lower n (node_of entry) node;
      depth =
          depth ∙ ap (λ (k : ℕ). frame_count (nodes_of entries) k) number
          ∙ ap (λ (xs : List Node). frame_count xs n) same;
      few_frames = table.few_frames (n - 1) entry found;
      unfolds = stack-unfold nodes lower n (node_of entry) node;
    }

-- the same of an entry that a method reads
pub read :
    (entries : List NodeEntry) (nodes : List Node) (n : ℕ) (entry : NodeEntry)
    → IsTable entries → nodes_of entries ≡ nodes → 0 < n → n ≤ length nodes → entry ≡ get_or entries (n - 1) entry
    → Reads nodes n entry
read entries nodes n entry table same above held is =
    let count = length-nodes_of entries in
    let lengths = ap (λ (xs : List Node). length xs) same in
    read_found entries nodes n entry table same above
    (slice_get_read entries (length entries) (n - 1) entry refl (omega arith) is)

-- what an index past the end would read
abbrev pub past_end : NodeEntry
past_end = record { ip = 0; parent = 0; frames = 0; depth = 0 }

-- the node of an entry that is read by its place
pub node_at-entry : (entries : List NodeEntry) (place : ℕ) → place < length entries
    → node_at (nodes_of entries) (place + 1) ≡ Some (node_of (get_or entries place past_end))
node_at-entry entries place within =
    let back : place + 1 - 1 ≡ place = omega arith in
    let P : ℕ → Type 0 = λ k. slice_get entries k ≡ Some (get_or entries place past_end) in
    node_at-read entries (nodes_of entries) (place + 1) (get_or entries place past_end) refl (omega arith)
    (subst P (sym back) (slice_get-get_or entries place past_end within))

pub node_at-number : (entries : List NodeEntry) (n : ℕ) → 0 < n → n ≤ length entries
    → node_at (nodes_of entries) n ≡ Some (node_of (get_or entries (n - 1) past_end))
node_at-number entries n above held =
    node_at-read entries (nodes_of entries) n (get_or entries (n - 1) past_end) refl above
    (slice_get-get_or entries (n - 1) past_end (omega arith))

-- the same of an entry that a loop over a slice reads
pub read_slice :
    (entries : List NodeEntry) (n : ℕ) → IsTable entries → 0 < n → n ≤ length entries
    → Reads (nodes_of entries) n (get_or entries (n - 1) past_end)
read_slice entries n table above held =
    read_found entries (nodes_of entries) n (get_or entries (n - 1) past_end) table refl above
    (slice_get-get_or entries (n - 1) past_end (omega arith))

-- no stack of a table has too many frames
few_frames-table : (entries : List NodeEntry) → IsTable entries → (n : ℕ) → n ≤ length (nodes_of entries)
    → frame_count (nodes_of entries) n ≤ most_frames
few_frames-table entries table zero held = rw (frame_count-zero (nodes_of entries)) (omega arith)
few_frames-table entries table (suc k) held =
    let count = length-nodes_of entries in
    let found = slice_get-get_or entries k past_end (omega arith) in
    let depth = table.depths k (get_or entries k past_end) found in
    let few = table.few_frames k (get_or entries k past_end) found in
    let number : k + 1 ≡ suc k = omega arith in
    let P : ℕ → Type 0 = λ n. frame_count (nodes_of entries) n ≤ most_frames in
    subst P number (rw (← depth) few)

-- what holds of the nodes of a table
pub AreNodes-table : (entries : List NodeEntry) (nodes : List Node) → nodes_of entries ≡ nodes → IsTable entries
    → AreNodes nodes
AreNodes-table entries nodes same table =
    let P : List Node → Type 0 = λ nodes. AreNodes nodes in
    subst P same (record {
      parents = table.parents;
      stack_0 = stack-zero (nodes_of entries);
      stack_n = stack-unfold (nodes_of entries) table.parents;
      frames_0 = frame_count-zero (nodes_of entries);
      frames_n = frame_count-unfold (nodes_of entries) table.parents;
      few_frames = few_frames-table entries table;
    })

-- the nodes of the first entries
pub nodes_of-take : (len : ℕ) (entries : List NodeEntry) → nodes_of (take len entries) ≡ take len (nodes_of entries)
nodes_of-take len entries = sym (take-map node_of len entries)

-- the first entries of a table
IsTable-front : (front more : List NodeEntry) → IsTable (front ++ more) → IsTable front
IsTable-front front more table = record {
  parents =
      record {
        lower = λ n node is. let within = node_at-within (nodes_of front) n node is in table.parents.lower n node
            (subst (λ (nodes : List Node). node_at nodes n ≡ Some node) (sym whole) (shared.nodes n within.1 ∙ is));
      };
  depths = λ k entry is.
      let within = slice_get_within front k entry is in
      let count = length-nodes_of front in
      table.depths k entry (slice_get-front front more k within ∙ is)
      ∙ ap (λ (nodes : List Node). frame_count nodes (k + 1)) whole ∙ shared.frame_counts (k + 1) (omega arith);
  few_frames =
      λ k entry is. table.few_frames k entry (slice_get-front front more k (slice_get_within front k entry is) ∙ is);
  few_nodes = let count = length-append front more in let few = table.few_nodes in omega arith;
}
  where
    whole : nodes_of (front ++ more) ≡ nodes_of front ++ nodes_of more
    whole = map-append node_of front more

    shared : Continues (nodes_of front) (nodes_of front ++ nodes_of more)
    shared = Continues-append (nodes_of front) (nodes_of more)

pub IsTable-take : (len : ℕ) (entries : List NodeEntry) → IsTable entries → IsTable (take len entries)
IsTable-take len entries table =
    IsTable-front (take len entries) (drop len entries)
    (subst (λ (whole : List NodeEntry). IsTable whole) (sym (take-append-drop len entries)) table)
