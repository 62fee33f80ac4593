-- The table of places: texts in buckets, and the instructions whose places are known, for private
-- clauses.
use Rattle.std.specs.Prelude.{◌≡◌, ◌≢◌, ℕ, suc, ◌+◌, ◌*◌, ◌%◌, ◌-◌, ◌^◌, ◌<◌, ◌≤◌, All, List, [], ◌∷◌, Some, length}
use Rattle.std.specs.Prelude.{map, slice_get, slice_index, ◌++◌}
use Rattle.intern_tables.specs.Distinct.{AreDistinct}
use Rattle.ht_trace.specs.declared.frame.Style.TheVariants.{Plain}
use Rattle.ht_trace.specs.FrameText.{frame_text}
use Rattle.ht_trace.specs.StackFrames.{frames_of}
use Rattle.ht_trace.specs.TableState.{TableState}
use Rattle.ht_print.specs.declared.place_table.PlaceTable.{PlaceTable}
use Rattle.ht_print.specs.ReportGroups.{innermost, place_of}

-- a number of a text, from that of what stands before it
abbrev pub hash_from : ℕ → List ℕ → ℕ
hash_from hash [] = hash
hash_from hash (byte ∷ more) = hash_from ((hash * 16777619 + byte) % 4294967296) more

-- the bucket of a text, among so many
unfoldable pub bucket_of : ℕ → List ℕ → ℕ
bucket_of buckets text = hash_from 0 text % buckets

-- of the first so many texts the last one in the bucket is at `at`, from 1 on; there is none where that is 0
pub record IsLastIn (buckets : ℕ) (names : List (List ℕ)) (bucket upto at : ℕ) : Type 0 where
  pub within : at ≤ upto
  pub has : (k : ℕ) (name : List ℕ) → at ≡ k + 1 → slice_get names k ≡ Some name
      → bucket_of buckets name ≡ bucket
  pub none : (k : ℕ) (name : List ℕ) → at ≤ k → k < upto → slice_get names k ≡ Some name
      → bucket_of buckets name ≢ bucket

-- each bucket is linked to its last text, and each text to the one before it in its bucket
pub record AreBucketed (buckets : ℕ) (names : List (List ℕ)) (last before : List ℕ) : Type 0 where
  pub last_length : length last ≡ buckets
  pub before_length : length before ≡ length names
  pub ends : (bucket : ℕ) → bucket < buckets
      → IsLastIn buckets names bucket (length names) (slice_index last bucket)
  pub links : (k : ℕ) (name : List ℕ) → slice_get names k ≡ Some name
      → IsLastIn buckets names (bucket_of buckets name) k (slice_index before k)

-- the text of an instruction's innermost frame
unfoldable pub instruction_place : TableState → ℕ → List ℕ
instruction_place tables instruction = innermost
    (map (frame_text Plain tables) (frames_of tables.instructions instruction))

-- the numbers that instructions have are those of their texts
pub record AreKnown (tables : TableState) (names : List (List ℕ)) (known : List ℕ) : Type 0 where
  pub count : length known ≡ length tables.instructions + 1
  pub told : (instruction number : ℕ) → slice_get known instruction ≡ Some (suc number)
      → slice_get names number ≡ Some (instruction_place tables instruction)

-- the texts that the table stands for
abbrev pub names_of : TableState → PlaceTable → List (List ℕ)
names_of tables table = map (place_of tables) table.stacks.items

-- how many buckets it has
abbrev pub buckets_of : TableState → ℕ
buckets_of tables = length tables.instructions + 1

-- no two of them are the same, and each is found in its bucket
pub record IsTable (tables : TableState) (table : PlaceTable) : Type 0 where
  pub held : All (λ stack. stack ≤ length tables.nodes) table.stacks.items
  pub distinct : AreDistinct (names_of tables table)
  pub bucketed : AreBucketed (buckets_of tables) (names_of tables table) table.last.items
      table.before.items
  pub known : AreKnown tables (names_of tables table) table.known.items

-- the number is that of a text, which stands in the table; and that of the text of a stack
abbrev pub HasName : TableState → PlaceTable → List ℕ → ℕ → Type 0
HasName tables table name number = slice_get (names_of tables table) number ≡ Some name

abbrev pub HasPlace : TableState → PlaceTable → ℕ → ℕ → Type 0
HasPlace tables table stack number = HasName tables table (place_of tables stack) number

-- the text doesn't stand there
abbrev pub LacksName : TableState → PlaceTable → List ℕ → Type 0
LacksName tables table name = (n : ℕ) (other : List ℕ) → HasName tables table other n
    → other ≢ name

-- all texts keep their numbers
abbrev pub KeepsNames : TableState → PlaceTable → PlaceTable → Type 0
KeepsNames tables old new = (n : ℕ) (name : List ℕ) → HasName tables old name n
    → HasName tables new name n

-- at most one text is new
abbrev pub HasOneMore : PlaceTable → PlaceTable → Type 0
HasOneMore old new = length new.stacks.items ≤ length old.stacks.items + 1

-- the bucket is that of the text
pub record IsBucket (tables : TableState) (text : List ℕ) (bucket : ℕ) : Type 0 where
  pub is : bucket ≡ bucket_of (buckets_of tables) text
  pub inside : bucket < buckets_of tables

-- what numbering a stack's place asks for: the stack is held, and there is room for one text more
pub record CanNumber (tables : TableState) (table : PlaceTable) (stack : ℕ) : Type 0 where
  pub held : stack ≤ length tables.nodes
  pub few : length table.stacks.items < 2 ^ 32 - 1
  pub is : IsTable tables table

-- a stack is added as the one of a new number
pub record HasAdded (stack : ℕ) (old new : PlaceTable) (number : ℕ) : Type 0 where
  pub number_is : number ≡ length old.stacks.items
  pub stacks : new.stacks.items ≡ old.stacks.items ++ stack ∷ []
