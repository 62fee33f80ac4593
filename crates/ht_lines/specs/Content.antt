-- What a line says: one content for each kind, with texts as lists of bytes and the numbers of its
-- tail as a list.
use Rattle.std.specs.Prelude.{ℕ, List}

pub data Content : Type 0 where
  version_line : (heaptrack file : ℕ) → Content
  executable_line : (bytes : List ℕ) → Content
  command_line : (bytes : List ℕ) → Content
  system_line : (page pages : ℕ) → Content
  string_line : (bytes : List ℕ) → Content
  clear_line : Content
  module_line : (name : List ℕ) (start : ℕ) (ranges : List ℕ) → Content
  instruction_line : (ip module_string : ℕ) (frames : List ℕ) → Content
  node_line : (ip parent : ℕ) → Content
  info_line : (size trace : ℕ) → Content
  allocation_line : (info : ℕ) → Content
  free_line : (info : ℕ) → Content
  raw_allocation_line : (size trace ptr : ℕ) → Content
  raw_free_line : (ptr : ℕ) → Content
  clock_line : (ms : ℕ) → Content
  resident_line : (pages : ℕ) → Content
  attached_line : Content
  suppression_line : (bytes : List ℕ) → Content
  comment_line : (bytes : List ℕ) → Content
  other_line : (bytes : List ℕ) → Content
