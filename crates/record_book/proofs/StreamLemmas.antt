-- A recording with a turn more of a thread, of which a front of the trace may be let go.
use Rattle.std.proofs.Common.{◌≡◌, ◌≢◌, ℕ, zero, suc, ◌+◌, ◌*◌, ◌^◌, ◌<◌, ◌≤◌, ◌==◌, Bool, true, false, List, [], ◌∷◌}
use Rattle.std.proofs.Common.{◌++◌, length, get_or, take, drop, reverse, Option, Some, refl, sym, ap, ap₂, ◌∙◌, subst}
use Rattle.std.proofs.Common.{arith, append_assoc, append-nil, length-append}
use Rattle.std.specs.Prelude.{◌↔◌, IsTrue, is_some, replicate, slice_get, slice_set}
use Rattle.std.specs.List.{AllByRecursion}
use Rattle.std.proofs.lemmas.Bool.Decides.{nat_tests}
use Rattle.std.proofs.lemmas.List.Sums.{sum_by-cons}
use Rattle.std.proofs.lemmas.List.{get_or_read, take-append-drop}
use Rattle.std.proofs.lemmas.Option.{slice_get_within, unwrap_or-slice_get}
use Rattle.hp_num.specs.Extends.{Extends}
use Rattle.stack_table.specs.Node.{Node}
use Rattle.record_scripts.specs.Events.{event_count, events_of, events_of_turn}
use Rattle.record_scripts.specs.Job.{IsSameWork, Job}
use Rattle.record_scripts.specs.Playable.{IsInTurn, IsPlayable}
use Rattle.record_scripts.specs.Turns.{AreBounded, Turn, allocates, frees, reallocates, is_live_after, script_at}
use Rattle.record_book.specs.declared.heap.Heap.{Heap}
use Rattle.record_book.specs.declared.trace.Trace.{Trace}
use Rattle.record_book.specs.Actions.{Action, actions, events_at, times}
use Rattle.record_book.specs.BookState.{entries_of}
use Rattle.record_book.specs.StreamState.{IsStream, done_at, done_count}
use Rattle.record_book.specs.HeapPlaces.{AreApart, LiveBlock, Place, taken, empty, class_of, end_of, live_blocks}
use Rattle.record_book.specs.HeapPlaces.{places_after}
use Rattle.record_book.specs.HeapState.{AreOnly, IsHeap, entry_in}
use Rattle.record_book.specs.NodeNumbers.{stacks_after}
use Rattle.record_book.specs.NodeState.{AreNumbered}
use Rattle.record_book.specs.RecordedTrace.{recorded, trace_text}
use Rattle.record_book.specs.Orders.{ArePaired, IsInterleaving, IsUnder, awaited}
use Rattle.record_book.specs.TakenTurn.{IsFresh}
use Rattle.record_book.specs.TraceState.{IsTrace, with_turn}
use Rattle.record_book.proofs.DoneLemmas.{done-here, done-other, length-slice_set}
use Rattle.record_book.proofs.LiveLemmas.{live-next, none-live}
use Rattle.record_book.proofs.OrderLemmas.{actions-none, actions-turn, closed-turn, entries-length, events-more}
use Rattle.record_book.proofs.OrderLemmas.{events-within, paired-turn, some_events, times-append, times-other}
use Rattle.record_book.proofs.OrderLemmas.{times-own, times-within}

-- events of the turns of all threads
count-set : (scripts : List (List Turn)) (done : List ℕ) (thread : ℕ) (turn : Turn) → length done ≡ length scripts
    → slice_get (script_at scripts thread) (done_at done thread) ≡ Some turn
    → done_count scripts (slice_set done thread (done_at done thread + 1))
    ≡ done_count scripts done + length (events_of_turn turn)
count-set [] done thread turn same at = absurd (grind (arith, at))
count-set (script ∷ scripts) [] thread turn same at = absurd (omega (arith, same))
count-set (script ∷ scripts) (n ∷ done) zero turn same at =
    let more =
    ap length (events-more script n turn at) ∙ length-append (events_of (take n script)) (events_of_turn turn) in
    omega (arith, more)
count-set (script ∷ scripts) (n ∷ done) (suc thread) turn same at =
    let rest = count-set scripts done thread turn (omega (arith, same)) at in
    omega (arith, rest)

pub count-within : (scripts : List (List Turn)) (done : List ℕ) → done_count scripts done ≤ event_count scripts
count-within [] done = omega arith
count-within (script ∷ scripts) [] = omega arith
count-within (script ∷ scripts) (n ∷ done) =
    let whole : event_count (script ∷ scripts) ≡ length (events_of script) + event_count scripts =
    sum_by-cons (λ (s : List Turn). length (events_of s)) script scripts in
    omega (arith, whole, count-within scripts done, events-within script n)

-- there is an event more where there is a turn
pub room : (job : Job) (done order : List ℕ) (trace : Trace) (thread : ℕ) (turn : Turn) → IsStream job done order trace
    → slice_get (script_at job.scripts thread) (done_at done thread) ≡ Some turn
    → length order + 1 ≤ event_count job.scripts
room job done order trace thread turn book at =
    let more = count-set job.scripts done thread turn book.threads at in
    let within = count-within job.scripts (slice_set done thread (done_at done thread + 1)) in
    omega (arith, more, within, book.count, some_events turn)

some-taken : (script : List Turn) (n : ℕ) → n ≤ length script → n ≤ length (events_of (take n script))
some-taken [] n within = omega (arith, within)
some-taken (turn ∷ script) zero within = omega arith
some-taken (turn ∷ script) (suc n) within =
    omega (
      arith,
      some-taken script n (omega (arith, within)),
      some_events turn,
      length-append (events_of_turn turn) (events_of (take n script)),
    )

pub few-done : (job : Job) (done order : List ℕ) (trace : Trace) (thread : ℕ) → IsStream job done order trace
    → done_at done thread ≤ length order
few-done job done order trace thread book =
    omega (
      arith,
      some-taken (script_at job.scripts thread) (done_at done thread) (book.few_taken thread),
      book.taken thread,
      times-within thread order,
    )

taken-more : (job : Job) (done order : List ℕ) (trace : Trace) (thread : ℕ) (turn : Turn)
    → IsStream job done order trace → thread < length done
    → slice_get (script_at job.scripts thread) (done_at done thread) ≡ Some turn
    → (other : ℕ) → (b : Bool) → (thread == other) ≡ b
    → (times other (order ++ entries_of thread turn)
    ≡ length (events_of
    (take (done_at (slice_set done thread (done_at done thread + 1)) other) (script_at job.scripts other))))
    × (done_at (slice_set done thread (done_at done thread + 1)) other ≤ length (script_at job.scripts other))
taken-more job done order trace thread turn book within at other true p =
    let script = script_at job.scripts thread in
    let same : thread ≡ other = grind (arith, nat_tests, p) in
    let more =
    ap length (events-more script (done_at done thread) turn at)
    ∙ length-append (events_of (take (done_at done thread) script)) (events_of_turn turn) in
    let P : ℕ → Type 0 =
    λ k. (times k (order ++ entries_of thread turn)
    ≡ length
    (events_of (take (done_at (slice_set done thread (done_at done thread + 1)) k) (script_at job.scripts k))))
    × (done_at (slice_set done thread (done_at done thread + 1)) k ≤ length (script_at job.scripts k)) in
    let counted : times thread (order ++ entries_of thread turn)
    ≡ length (events_of (take (done_at done thread + 1) script)) =
    omega (arith, times-append thread order (entries_of thread turn), times-own thread turn, book.taken thread, more) in
    let bound = slice_get_within script (done_at done thread) turn at in
    let here = done-here done thread (done_at done thread + 1) within in
    subst P same (counted ∙ ap (λ (n : ℕ). length (events_of (take n script))) (sym here), omega (arith, here, bound))
taken-more job done order trace thread turn book within at other false p =
    let apart : thread ≢ other = λ (same : thread ≡ other). absurd (grind (arith, nat_tests, p, same)) in
    let stays = done-other done thread other (done_at done thread + 1) apart in
    let counted : times other (order ++ entries_of thread turn) ≡ times other order =
    omega (arith, times-append other order (entries_of thread turn), times-other thread other turn apart) in (
      counted ∙ book.taken other ∙ ap (λ (n : ℕ). length (events_of (take n (script_at job.scripts other))))
          (sym stays),
      omega (arith, stays, book.few_taken other),
    )

-- the recording with the turn
pub stream-next : (job : Job) (done order : List ℕ) (trace new : Trace) (thread : ℕ) (turn : Turn)
    → IsStream job done order trace → thread < length job.scripts
    → slice_get (script_at job.scripts thread) (done_at done thread) ≡ Some turn
    → ((gone : List ℕ) → IsTrace gone trace job.modules (actions job.scripts order)
    → IsTrace gone new job.modules (with_turn thread turn (actions job.scripts order)))
    → length new.nodes ≤ length trace.nodes + 256 → new.heap.end ≤ trace.heap.end + 2 ^ 33
    → IsStream job (slice_set done thread (done_at done thread + 1)) (order ++ entries_of thread turn) new
stream-next job done order trace new thread turn book held at is nodes end =
    let within : thread < length done = omega (arith, held, book.threads) in
    let means = actions-turn job.scripts order thread (done_at done thread) turn at (book.taken thread) in
    let len : length (order ++ entries_of thread turn) ≡ length order + length (events_of_turn turn) =
    length-append order (entries_of thread turn) ∙ ap (λ (n : ℕ). length order + n) (entries-length thread turn) in
    record {
      gone = book.gone;
      threads = length-slice_set done thread (done_at done thread + 1) ∙ book.threads;
      taken = λ other. (taken-more job done order trace thread turn book within at other (thread == other) refl).0;
      few_taken = λ other. (taken-more job done order trace thread turn book within at other (thread == other) refl).1;
      count =
          len ∙ ap (λ (n : ℕ). n + length (events_of_turn turn)) book.count
          ∙ sym (count-set job.scripts done thread turn book.threads at);
      paired =
          subst ArePaired (sym means) (paired-turn thread turn (actions job.scripts order) book.paired book.closed);
      closed = ap awaited means ∙ closed-turn thread turn (actions job.scripts order);
      trace_is =
          subst (λ (all : List Action). IsTrace book.gone new job.modules all) (sym means) (is book.gone book.trace_is);
      few_nodes = omega (arith, nodes, book.few_nodes, len, some_events turn);
      end = omega (arith, end, book.end, len, some_events turn);
      playable = book.playable;
      live = λ t i.
          ap (λ (acts : List Action). is_some (entry_in (places_after acts) t i)) means
          ∙ live-next job.scripts done thread turn (actions job.scripts order) book.trace_is.heap_is.only within at
          book.live t i;
    }

-- the block of an allocation to come isn't live
pub fresh-at : (job : Job) (done order : List ℕ) (trace : Trace) (thread : ℕ) (turn : Turn)
    → IsStream job done order trace
    → slice_get (script_at job.scripts thread) (done_at done thread) ≡ Some turn → IsFresh trace.heap thread turn
fresh-at job done order trace thread (allocates id size ips) book at =
    book.trace_is.heap_is.live_blocks thread id
    ∙ none-live job.scripts thread (done_at done thread) id size ips (places_after (actions job.scripts order))
    book.playable.in_turn at (book.live thread id)
fresh-at job done order trace thread (frees id) book at = tt
fresh-at job done order trace thread (reallocates id size ips) book at = tt

-- the recording of no turns
pub zero-at : (n thread : ℕ) → done_at (replicate n 0) thread ≡ 0
zero-at zero thread = refl
zero-at (suc n) zero = refl
zero-at (suc n) (suc thread) = zero-at n thread

zero-count : (scripts : List (List Turn)) (n : ℕ) → done_count scripts (replicate n 0) ≡ 0
zero-count [] n = refl
zero-count (script ∷ scripts) zero = refl
zero-count (script ∷ scripts) (suc n) = omega (arith, zero-count scripts n)

pub length-zeros : (n : ℕ) → length {A = ℕ} (replicate n 0) ≡ n
length-zeros zero = refl
length-zeros (suc n) = ap (λ (k : ℕ). suc k) (length-zeros n)

pub stream-none : (job : Job) (done : List ℕ) (n : ℕ) (trace : Trace) → done ≡ replicate n 0 → n ≡ length job.scripts
    → IsTrace [] trace job.modules [] → length trace.nodes ≡ 0 → trace.heap.end ≡ 65536
    → IsPlayable job → IsStream job done [] trace
stream-none job done n trace zeros all is nodes end playable = record {
  gone = [];
  threads = ap length zeros ∙ length-zeros n ∙ all;
  taken = λ thread. ap (λ (k : ℕ). length (events_of (take k (script_at job.scripts thread)))) (sym (none thread));
  few_taken = λ thread. omega (arith, none thread);
  count = sym (ap (λ (ds : List ℕ). done_count job.scripts ds) zeros ∙ zero-count job.scripts n);
  paired = subst ArePaired (sym (actions-none job.scripts)) tt;
  closed = ap awaited (actions-none job.scripts);
  trace_is = subst (λ (all : List Action). IsTrace [] trace job.modules all) (sym (actions-none job.scripts)) is;
  few_nodes = omega (arith, nodes);
  end = omega (arith, end);
  playable = playable;
  live = λ t i.
      ap (λ (acts : List Action). is_some (entry_in (places_after acts) t i)) (actions-none job.scripts)
      ∙ ap (λ (k : ℕ). is_live_after (reverse (take k (script_at job.scripts t))) i) (sym (none t));
}
  where
    none : (thread : ℕ) → done_at done thread ≡ 0
    none thread = ap (λ (ds : List ℕ). done_at ds thread) zeros ∙ zero-at n thread

-- what the turn adds to the text that is kept, it adds to the trace
pub text-more : (job : Job) (done order : List ℕ) (trace new : Trace) (thread : ℕ) (turn : Turn)
    → IsStream job done order trace
    → slice_get (script_at job.scripts thread) (done_at done thread) ≡ Some turn
    → ((gone : List ℕ) → IsTrace gone trace job.modules (actions job.scripts order)
    → IsTrace gone new job.modules (with_turn thread turn (actions job.scripts order)))
    → Extends trace.text.items new.text.items
    → (more : List ℕ) × (new.text.items ≡ trace.text.items ++ more)
    × (recorded job (order ++ entries_of thread turn) ≡ recorded job order ++ more)
text-more job done order trace new thread turn book at is grown =
    let old = trace.text.items in
    let more = drop (length old) new.text.items in
    let whole : new.text.items ≡ old ++ more =
    sym (take-append-drop (length old) new.text.items) ∙ ap (λ (front : List ℕ). front ++ more) grown.kept in
    let means = actions-turn job.scripts order thread (done_at done thread) turn at (book.taken thread) in (
      more,
      whole,
      ap (λ (acts : List Action). trace_text job.modules acts) means ∙ sym (is book.gone book.trace_is).text_is
          ∙ ap (λ (text : List ℕ). book.gone ++ text) whole ∙ sym (append_assoc book.gone old more)
          ∙ ap (λ (front : List ℕ). front ++ more) book.trace_is.text_is,
    )

-- an order under the scripts
pub under-of : (job : Job) (done order : List ℕ) (trace : Trace) → IsStream job done order trace
    → IsUnder job.scripts order
under-of job done order trace book = record {
  at_most =
      λ thread. omega (arith, book.taken thread, events-within (script_at job.scripts thread) (done_at done thread));
  paired = book.paired;
  closed = book.closed;
}

-- all that is kept is let go
pub let-go : (job : Job) (done order : List ℕ) (trace new : Trace) → IsStream job done order trace → new.text.items ≡ []
    → new.nodes ≡ trace.nodes → new.heap ≡ trace.heap → new.last ≡ trace.last
    → IsStream job done order new
let-go job done order trace new book none nodes heap last = record {
  gone = book.gone ++ trace.text.items;
  threads = book.threads;
  taken = book.taken;
  few_taken = book.few_taken;
  count = book.count;
  paired = book.paired;
  closed = book.closed;
  trace_is = record {
    text_is =
        ap (λ (text : List ℕ). (book.gone ++ trace.text.items) ++ text) none ∙ append-nil
        (book.gone ++ trace.text.items)
        ∙ book.trace_is.text_is;
    nodes_are =
        subst (λ (ns : List Node). AreNumbered ns (stacks_after (actions job.scripts order))) (sym nodes)
        book.trace_is.nodes_are;
    heap_is =
        subst (λ (h : Heap). IsHeap h (places_after (actions job.scripts order))) (sym heap) book.trace_is.heap_is;
    last_is = last ∙ book.trace_is.last_is;
  };
  few_nodes = subst (λ (ns : List Node). length ns ≤ 256 * length order) (sym nodes) book.few_nodes;
  end = subst (λ (h : Heap). h.end ≤ 65536 + 2 ^ 33 * length order) (sym heap) book.end;
  playable = book.playable;
  live = book.live;
}

-- that of other scripts, which are the same and have the same modules
pub stream-moved : (job other : Job) (done order : List ℕ) (trace : Trace) → IsSameWork job other
    → IsStream job done order trace → IsStream other done order trace
stream-moved job other done order trace same is =
    let scripts = same.same_scripts in
    record {
      gone = is.gone;
      threads = is.threads ∙ ap (λ (all : List (List Turn)). length all) scripts;
      taken =
          λ thread. is.taken thread
          ∙ ap (λ (all : List (List Turn)). length (events_of (take (done_at done thread) (script_at all thread))))
          scripts;
      few_taken =
          λ thread. subst (λ (all : List (List Turn)). done_at done thread ≤ length (script_at all thread)) scripts
          (is.few_taken thread);
      count = is.count ∙ ap (λ (all : List (List Turn)). done_count all done) scripts;
      paired = subst (λ (all : List (List Turn)). ArePaired (actions all order)) scripts is.paired;
      closed = ap (λ (all : List (List Turn)). awaited (actions all order)) (sym scripts) ∙ is.closed;
      trace_is = subst (λ (lines : List ℕ). IsTrace is.gone trace lines (actions other.scripts order)) same.same_modules
          (subst (λ (all : List (List Turn)). IsTrace is.gone trace job.modules (actions all order)) scripts
          is.trace_is);
      few_nodes = is.few_nodes;
      end = is.end;
      playable = record {
        in_turn = subst (λ (all : List (List Turn)). AllByRecursion IsInTurn all) scripts is.playable.in_turn;
        bounded = subst AreBounded scripts is.playable.bounded;
        few_events = subst (λ (all : List (List Turn)). event_count all < 2 ^ 24) scripts is.playable.few_events;
        few_scripts = subst (λ (all : List (List Turn)). length all ≤ 64) scripts is.playable.few_scripts;
      };
      live = λ t i.
          subst
          (λ (all : List (List Turn)). is_some (entry_in (places_after (actions all order)) t i)
          ≡ is_live_after (reverse (take (done_at done t) (script_at all t))) i)
          scripts (is.live t i);
    }

-- all turns are taken where there are as many entries as events
counts-equal : (scripts : List (List Turn)) (done : List ℕ) → length done ≡ length scripts
    → done_count scripts done ≡ event_count scripts → (thread : ℕ)
    → length (events_of (take (done_at done thread) (script_at scripts thread))) ≡ length (events_at scripts thread)
counts-equal [] done same all thread = omega (arith, events-within [] (done_at done thread))
counts-equal (script ∷ scripts) [] same all thread = absurd (omega (arith, same))
counts-equal (script ∷ scripts) (n ∷ done) same all zero =
    let whole : event_count (script ∷ scripts) ≡ length (events_of script) + event_count scripts =
    sum_by-cons (λ (s : List Turn). length (events_of s)) script scripts in
    omega (arith, whole, all, count-within scripts done, events-within script n)
counts-equal (script ∷ scripts) (n ∷ done) same all (suc thread) =
    let whole : event_count (script ∷ scripts) ≡ length (events_of script) + event_count scripts =
    sum_by-cons (λ (s : List Turn). length (events_of s)) script scripts in
    counts-equal scripts done (omega (arith, same))
    (omega (arith, whole, all, count-within scripts done, events-within script n)) thread

counts-all : (scripts : List (List Turn)) (done : List ℕ) → length done ≡ length scripts
    → ((thread : ℕ)
    → length (events_of (take (done_at done thread) (script_at scripts thread))) ≡ length (events_at scripts thread))
    → done_count scripts done ≡ event_count scripts
counts-all [] done same each = refl
counts-all (script ∷ scripts) [] same each = absurd (omega (arith, same))
counts-all (script ∷ scripts) (n ∷ done) same each =
    let whole : event_count (script ∷ scripts) ≡ length (events_of script) + event_count scripts =
    sum_by-cons (λ (s : List Turn). length (events_of s)) script scripts in
    omega (arith, whole, each 0, counts-all scripts done (omega (arith, same)) (λ thread. each (suc thread)))

pub all-turns : (job : Job) (done order : List ℕ) (trace : Trace) → IsStream job done order trace
    → length order ≡ event_count job.scripts → IsInterleaving job.scripts order
all-turns job done order trace book all = record {
  under = under-of job done order trace book;
  exactly = λ thread. book.taken thread ∙ counts-equal job.scripts done book.threads (sym book.count ∙ all) thread;
}

pub all-entries : (job : Job) (done order : List ℕ) (trace : Trace) → IsStream job done order trace
    → IsInterleaving job.scripts order → length order ≡ event_count job.scripts
all-entries job done order trace book all =
    book.count ∙ counts-all job.scripts done book.threads (λ thread. sym (book.taken thread) ∙ all.exactly thread)

pub complete-is : (job : Job) (done order : List ℕ) (trace : Trace) (count events : ℕ) → IsStream job done order trace
    → count ≡ length order → events ≡ event_count job.scripts
    → IsTrue (count == events) ↔ IsInterleaving job.scripts order
complete-is job done order trace count events book count_is events_is = by (count == events) refl
  where
    by : (t : Bool) → (count == events) ≡ t → IsTrue t ↔ IsInterleaving job.scripts order
    by true p =
        let same : count ≡ events = grind (arith, nat_tests, p) in
        (λ is. all-turns job done order trace book (sym count_is ∙ same ∙ events_is), λ all. refl)
    by false p = (
      λ is. absurd (cc),
      λ all.
          let same : count ≡ events = count_is ∙ all-entries job done order trace book all ∙ sym events_is in
          absurd (grind (arith, nat_tests, p, same)),
    )

-- blocks that lie in places of their own are apart
below-more : (blocks : List LiveBlock) (n m : ℕ) → n ≤ m
    → AllByRecursion (λ block. block.address + block.block.size ≤ n) blocks
    → AllByRecursion (λ block. block.address + block.block.size ≤ m) blocks
below-more [] n m le all = tt
below-more (block ∷ blocks) n m le all = (omega (arith, le, all.0), below-more blocks n m le all.1)

class-holds : (size : ℕ) → size ≤ class_of size
class-holds size = grind (arith, nat_tests)

blocks-below : (places : List Place) → AreOnly places
    → AllByRecursion (λ block. block.address + block.block.size ≤ end_of places) (live_blocks places)
blocks-below [] only = tt
blocks-below (taken class block ∷ older) only = (
  omega (arith, only.1, class-holds block.size),
  below-more (live_blocks older) (end_of older) (end_of older + class) (omega arith) (blocks-below older only.3),
)
blocks-below (empty class ∷ older) only =
    below-more (live_blocks older) (end_of older) (end_of older + class) (omega arith) (blocks-below older only.1)

pub apart-of : (places : List Place) → AreOnly places → AreApart (live_blocks places)
apart-of [] only = tt
apart-of (taken class block ∷ older) only = (blocks-below older only.3, apart-of older only.3)
apart-of (empty class ∷ older) only = apart-of older only.1

-- what indexing gives
pub place-is : (done : List ℕ) (thread place : ℕ) → thread < length done → place ≡ get_or done thread place
    → done_at done thread ≡ place
place-is done thread place within is =
    unwrap_or-slice_get done thread 0 ∙ sym (get_or_read done thread place within is 0)

-- the turn of a thread
pub turn-found : (job seen : Job) (done : List ℕ) (thread place : ℕ) (found : Option Turn) → seen ≡ job
    → done_at done thread ≡ place → slice_get (script_at seen.scripts thread) place ≡ found
    → slice_get (script_at job.scripts thread) (done_at done thread) ≡ found
turn-found job seen done thread place found same here at =
    ap₂ (λ (j : Job) (p : ℕ). slice_get (script_at j.scripts thread) p) (sym same) here ∙ at
