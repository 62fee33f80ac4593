-- Actions as scripts bring them, and that the lines of their trace can be read.
use Rattle.std.proofs.Common.{◌≡◌, ℕ, zero, suc, ◌+◌, ◌*◌, ◌/◌, ◌%◌, ◌^◌, ◌<◌, ◌≤◌, ◌==◌, Bool, true, false, cond, eqb}
use Rattle.std.proofs.Common.{List, [], ◌∷◌, ◌++◌, length, length-append, Option, None, Some, refl, sym, arith}
use Rattle.std.proofs.Common.{true≢false}
use Rattle.std.specs.Prelude.{codes, decimal}
use Rattle.std.specs.Fmt.{digits, digits_onto, digit_glyph}
use Rattle.std.specs.List.{AllByRecursion}
use Rattle.std.specs.Str.{bytes_eq}
use Rattle.ht_lines.specs.Content.{Content, clear_line, comment_line, module_line, node_line}
use Rattle.ht_lines.specs.OneLine.{IsOneLine}
use Rattle.hp_num.specs.Hexadecimal.{hexadecimal}
use Rattle.ht_lines.specs.Written.{AreWords, spelled, written}
use Rattle.ht_trace.specs.TraceLists.{pattern_in}
use Rattle.record_scripts.specs.Events.{Event, allocation, free}
use Rattle.record_scripts.specs.ModuleLine.{is_module}
use Rattle.record_scripts.specs.ModuleLines.{IsModuleSaid}
use Rattle.interpret.specs.RawContents.{IsRaw}
use Rattle.record_book.specs.declared.summary.Summary.{Summary}
use Rattle.record_book.specs.Actions.{Action}
use Rattle.record_book.specs.Figures.{held_after}
use Rattle.record_book.specs.HeapPlaces.{address_of, class_of, end_of, next_address, places_after, places_with}
use Rattle.record_book.specs.HeapPlaces.{released}
use Rattle.record_book.specs.HeapState.{AreOnly}
use Rattle.record_book.specs.NodeNumbers.{number_in, stacks_after, stacks_with, with_stack, with_suffixes}
use Rattle.record_book.specs.RecordedTrace.{last_thread}
use Rattle.record_book.specs.TallyState.{size_in}
use Rattle.record_book.proofs.Laws.{address-within, both-text, digits-text, end-allocated, end-released, literal-text}
use Rattle.record_book.proofs.Laws.{next-within, only-with}
use Rattle.sound_recordings.proofs.Readable.{IsReadable, all-append}
use Rattle.sound_recordings.proofs.Said.{before_event, event_said, node_said, nodes_said, summary_said, switch-all}
use Rattle.sound_recordings.proofs.Said.{switch_said, thread_said, trace_said}

-- an event after actions that are listed from the last to the first: the block of an allocation
-- isn't live, and it is within its bounds; that of a free is live
abbrev pub Plays : List Action → ℕ → Event → Type 0
Plays before thread (allocation id size ips) =
    (size_in (held_after before) thread id ≡ None) × (size ≤ 2 ^ 32) × (length ips ≤ 256) × AreWords ips
Plays before thread (free id rejoined) = (size : ℕ) × (size_in (held_after before) thread id ≡ Some size)

abbrev pub ArePlayed : List Action → Type 0
ArePlayed [] = Unit {0}
ArePlayed (action ∷ before) = Plays before action.thread action.event × ArePlayed before

pub places-only : (acts : List Action) → AreOnly (places_after acts)
places-only [] = tt
places-only (action ∷ before) = only-with action.thread action.event (places_after before) (places-only before)

-- how far the places reach
class-few : (size : ℕ) → size ≤ 2 ^ 32 → class_of size ≤ 2 ^ 33
class-few size few = omega (arith, few)

end-few : (acts : List Action) → ArePlayed acts → end_of (places_after acts) ≤ 65536 + 2 ^ 33 * length acts
end-few [] played = omega arith
end-few (action ∷ before) played = by action.event played.0 (end-few before played.1)
  where
    by : (event : Event) → Plays before action.thread event
        → end_of (places_after before) ≤ 65536 + 2 ^ 33 * length before
        → end_of (places_with action.thread event (places_after before)) ≤ 65536 + 2 ^ 33 * length (action ∷ before)
    by (allocation id size ips) plays rest =
        let grown = end-allocated action.thread id size ips (places_after before) (places-only before) in
        let few = class-few size plays.1 in
        omega (arith, grown, few, rest)
    by (free id rejoined) plays rest = omega (arith, end-released action.thread id (places_after before), rest)

-- how many stacks there are
pub number-few : (known : List (List ℕ)) (ips : List ℕ) → number_in known ips ≤ length known
number-few [] ips = omega arith
number-few (first ∷ older) ips = by (bytes_eq first ips) (number-few older ips)
  where
    by : (b : Bool) → number_in older ips ≤ length older
        → cond b (length older + 1) (number_in older ips) ≤ length (first ∷ older)
    by true rest = omega arith
    by false rest = omega (arith, rest)

stack-few : (known : List (List ℕ)) (ips : List ℕ) → length (with_stack known ips) ≤ length known + 1
stack-few known ips = by (number_in known ips == 0)
  where
    by : (b : Bool) → length (cond b (ips ∷ known) known) ≤ length known + 1
    by true = omega arith
    by false = omega arith

pub suffixes-few : (known : List (List ℕ)) (ips : List ℕ) → length (with_suffixes known ips) ≤ length known + length ips
suffixes-few known [] = omega arith
suffixes-few known (ip ∷ outer) =
    let one = stack-few (with_suffixes known outer) (ip ∷ outer) in
    let rest = suffixes-few known outer in
    omega (arith, one, rest)

pub stacks-few : (acts : List Action) → ArePlayed acts → length (stacks_after acts) ≤ 256 * length acts
stacks-few [] played = omega arith
stacks-few (action ∷ before) played = by action.event played.0 (stacks-few before played.1)
  where
    by : (event : Event) → Plays before action.thread event → length (stacks_after before) ≤ 256 * length before
        → length (stacks_with (stacks_after before) event) ≤ 256 * length (action ∷ before)
    by (allocation id size ips) plays rest =
        let more = suffixes-few (stacks_after before) ips in omega (arith, more, rest, plays.2)
    by (free id rejoined) plays rest = omega (arith, rest)

-- a number has at most 64 digits
onto-short : (most base n : ℕ) (rest : List ℕ) → length (digits_onto most base false n rest) ≤ most + length rest
onto-short zero base n rest = omega arith
onto-short (suc most) base n rest =
    by (eqb (n / base) 0) (onto-short most base (n / base) (digit_glyph false (n % base) ∷ rest))
  where
    by : (t : Bool)
        → length (digits_onto most base false (n / base) (digit_glyph false (n % base) ∷ rest))
        ≤ most + length (digit_glyph false (n % base) ∷ rest)
        → length
        (cond t (digit_glyph false (n % base) ∷ rest)
        (digits_onto most base false (n / base) (digit_glyph false (n % base) ∷ rest)))
        ≤ suc most + length rest
    by true more = omega arith
    by false more = omega (arith, more)

digits-short : (base n : ℕ) → length (digits base false n) ≤ 64
unfolding digits
digits-short base n = let most = onto-short 64 base n [] in omega (arith, most)

numbers-short : (ns : List ℕ) → length (spelled ns) ≤ 65 * length ns
numbers-short [] = omega arith
numbers-short (n ∷ ns) =
    let one = digits-short 16 n in
    let rest = numbers-short ns in
    omega (arith, one, rest, length-append (hexadecimal n) (spelled ns))

figure-short : (label : List ℕ) (n : ℕ) → length label ≤ 64
    → length (written 2 (comment_line (label ++ decimal n))) < 2 ^ 32
figure-short label n few = let one = digits-short 10 n in omega (arith, few, one, length-append label (decimal n))

-- the lines of each part can be read
thread-readable : (thread : ℕ) → IsReadable (thread_said thread)
thread-readable thread = record {
  writable = tt;
  one_line =
      both-text (codes " thread ") (decimal thread) (literal-text (codes " thread ") refl) (digits-text 10 thread);
  raw = tt;
  short = figure-short (codes " thread ") thread (omega arith);
  no_pattern = refl;
}

switch-readable : (last : Option ℕ) (thread : ℕ) → AllByRecursion IsReadable (switch_said last thread)
switch-readable last thread = switch-all IsReadable last thread (thread-readable thread)

node-readable : (known : List (List ℕ)) (ip : ℕ) (outer : List ℕ) → ip < 2 ^ 64 → length known < 2 ^ 64
    → AllByRecursion IsReadable (node_said known ip outer)
node-readable known ip outer fits few = by (number_in known (ip ∷ outer) == 0)
  where
    by : (b : Bool) → AllByRecursion IsReadable (cond b (node_line ip (number_in known outer) ∷ []) [])
    by true =
        let number =
        number-few known outer in let short =
        numbers-short
        (ip ∷ number_in known outer
        ∷
        []) in (
          record {
            writable = (fits, (omega (arith, number, few), tt));
            one_line = tt;
            raw = tt;
            short = omega (arith, short);
            no_pattern = refl;
          },
          tt,
        )
    by false = tt

nodes-readable : (known : List (List ℕ)) (ips : List ℕ) → AreWords ips → length known + length ips < 2 ^ 64
    → AllByRecursion IsReadable (nodes_said known ips)
nodes-readable known [] words few = tt
nodes-readable known (ip ∷ outer) words few =
    let more = suffixes-few known outer in
    all-append IsReadable (nodes_said known outer) (node_said (with_suffixes known outer) ip outer)
    (nodes-readable known outer words.1 (omega (arith, few)))
    (node-readable (with_suffixes known outer) ip outer words.0 (omega (arith, few, more)))

before-readable : (before : List Action) (thread : ℕ) (event : Event) → Plays before thread event
    → length (stacks_after before) ≤ 2 ^ 32 → AllByRecursion IsReadable (before_event before thread event)
before-readable before thread (allocation id size ips) plays few =
    all-append IsReadable (switch_said (last_thread before) thread) (nodes_said (stacks_after before) ips)
    (switch-readable (last_thread before) thread)
    (nodes-readable (stacks_after before) ips plays.3 (omega (arith, few, plays.2)))
before-readable before thread (free id rejoined) plays few = switch-readable (last_thread before) thread

event-readable : (before : List Action) (thread : ℕ) (event : Event) → Plays before thread event
    → length (stacks_after before) ≤ 2 ^ 32 → end_of (places_after before) ≤ 2 ^ 63
    → IsReadable (event_said before thread event)
event-readable before thread (allocation id size ips) plays few near =
    let stacks = with_suffixes (stacks_after before) ips in
    let places = released thread id (places_after before) in
    let count = suffixes-few (stacks_after before) ips in
    let number = number-few stacks ips in
    let address = next-within (class_of size) places in
    let same = end-released thread id (places_after before) in
    record {
      writable = (
        (
          omega (arith, plays.1),
          (omega (arith, number, count, few, plays.2), (omega (arith, address, same, near), tt)),
        ),
        refl,
      );
      one_line = tt;
      raw = tt;
      short =
          let short =
          numbers-short (size ∷ number_in stacks ips ∷ next_address (class_of size) places ∷ []) in omega
          (arith, short);
      no_pattern = refl;
    }
event-readable before thread (free id rejoined) plays few near =
    let address = address-within thread id (places_after before) in
    let short = numbers-short (address_of thread id (places_after before) ∷ []) in
    record {
      writable = (omega (arith, address, near), refl);
      one_line = tt;
      raw = tt;
      short = omega (arith, short);
      no_pattern = refl;
    }

-- modules
module-raw : (said : Content) → is_module said ≡ true → IsRaw said
module-raw (module_line name start ranges) is = tt
module-raw clear_line is = tt
module-raw _ is = absurd (true≢false (sym is))

module-pattern : (said : Content) → is_module said ≡ true → pattern_in said ≡ None
module-pattern (module_line name start ranges) is = refl
module-pattern clear_line is = refl
module-pattern _ is = absurd (true≢false (sym is))

modules-readable : (modules : List Content) → AllByRecursion IsModuleSaid modules → AllByRecursion IsReadable modules
modules-readable [] all = tt
modules-readable (said ∷ more) all = (
  record {
    writable = all.0.writable;
    one_line = all.0.texts;
    raw = module-raw said all.0.about;
    short = all.0.short;
    no_pattern = module-pattern said all.0.about;
  },
  modules-readable more all.1,
)

-- the whole trace
pub trace-readable : (modules : List Content) (acts : List Action) → AllByRecursion IsModuleSaid modules
    → ArePlayed acts → length acts < 2 ^ 24 → AllByRecursion IsReadable (trace_said modules acts)
trace-readable modules [] all played few = (
  record {
    writable = (omega arith, omega arith, omega arith);
    one_line = tt;
    raw = tt;
    short = let short = numbers-short (66816 ∷ 2 ∷ []) in omega (arith, short);
    no_pattern = refl;
  },
  (
    record {
      writable = omega arith;
      one_line = literal-text (codes "heaprec") refl;
      raw = tt;
      short = omega arith;
      no_pattern = refl;
    },
    modules-readable modules all,
  ),
)
trace-readable modules (action ∷ before) all played few =
    let rest = before_event before action.thread action.event in
    let stacks : length (stacks_after before) ≤ 2 ^ 32 = let h = stacks-few before played.1 in omega (arith, h, few) in
    let near : end_of (places_after before) ≤ 2 ^ 63 = let h = end-few before played.1 in omega (arith, h, few) in
    all-append IsReadable (trace_said modules before ++ rest) (event_said before action.thread action.event ∷ [])
    (all-append IsReadable (trace_said modules before) rest
    (trace-readable modules before all played.1 (omega (arith, few)))
    (before-readable before action.thread action.event played.0 stacks))
    (event-readable before action.thread action.event played.0 stacks near, tt)

-- the lines of a summary
number : (n : ℕ) → IsOneLine (decimal n)
number n = digits-text 10 n

figure-readable : (label : List ℕ) (n : ℕ) → IsOneLine label → length label ≤ 64
    → IsReadable (comment_line (label ++ decimal n))
figure-readable label n one few =
    record {
      writable = tt;
      one_line = both-text label (decimal n) one (number n);
      raw = tt;
      short = figure-short label n few;
      no_pattern = refl;
    }

pub summary-readable : (s : Summary) → AllByRecursion IsReadable (summary_said s)
summary-readable s = (
  figure-readable (codes " threads: ") s.threads (literal-text (codes " threads: ") refl) (omega arith),
  (
    figure-readable (codes " events: ") s.events (literal-text (codes " events: ") refl) (omega arith),
    (
      figure-readable (codes " calls: ") s.calls (literal-text (codes " calls: ") refl) (omega arith),
      (
        figure-readable (codes " allocated: ") s.allocated (literal-text (codes " allocated: ") refl) (omega arith),
        (leaked, (peak, tt)),
      ),
    ),
  ),
)
  where
    leaked : IsReadable
        (comment_line
        (codes " leaked: " ++ (decimal s.leaked ++ (codes " in " ++ (decimal s.blocks ++ codes " blocks")))))
    leaked = record {
      writable = tt;
      one_line = both-text (codes " leaked: ") _ (literal-text (codes " leaked: ") refl)
          (both-text (decimal s.leaked) _ (number s.leaked)
          (both-text (codes " in ") _ (literal-text (codes " in ") refl)
          (both-text (decimal s.blocks) (codes " blocks") (number s.blocks)
          (literal-text (codes " blocks") refl))));
      raw = tt;
      short = omega (
        arith,
        digits-short 10 s.leaked,
        digits-short 10 s.blocks,
        length-append (codes " leaked: ") (decimal s.leaked ++ (codes " in " ++ (decimal s.blocks ++ codes " blocks"))),
        length-append (decimal s.leaked) (codes " in " ++ (decimal s.blocks ++ codes " blocks")),
        length-append (codes " in ") (decimal s.blocks ++ codes " blocks"),
        length-append (decimal s.blocks) (codes " blocks"),
      );
      no_pattern = refl;
    }

    peak : IsReadable
        (comment_line
        (codes " peak: "
        ++ (decimal s.peak ++ (codes " from " ++ (decimal s.low ++ (codes " to " ++ decimal s.high))))))
    peak = record {
      writable = tt;
      one_line = both-text (codes " peak: ") _ (literal-text (codes " peak: ") refl)
          (both-text (decimal s.peak) _ (number s.peak)
          (both-text (codes " from ") _ (literal-text (codes " from ") refl)
          (both-text (decimal s.low) _ (number s.low)
          (both-text (codes " to ") (decimal s.high) (literal-text (codes " to ") refl) (number s.high)))));
      raw = tt;
      short = omega (
        arith,
        digits-short 10 s.peak,
        digits-short 10 s.low,
        digits-short 10 s.high,
        length-append (codes " peak: ")
            (decimal s.peak ++ (codes " from " ++ (decimal s.low ++ (codes " to " ++ decimal s.high)))),
        length-append (decimal s.peak) (codes " from " ++ (decimal s.low ++ (codes " to " ++ decimal s.high))),
        length-append (codes " from ") (decimal s.low ++ (codes " to " ++ decimal s.high)),
        length-append (decimal s.low) (codes " to " ++ decimal s.high),
        length-append (codes " to ") (decimal s.high),
      );
      no_pattern = refl;
    }
