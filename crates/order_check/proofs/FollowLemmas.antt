-- Following lines is following each recording that begins with them.
use Rattle.std.proofs.Common.{◌≡◌, ◌≢◌, ℕ, ◌^◌, ◌<◌, ◌≤◌, Bool, true, false, cond, List, [], ◌∷◌, ◌++◌, length, drop}
use Rattle.std.proofs.Common.{Option, None, Some, refl, sym, ap, ◌∙◌, subst, arith, append_assoc, append-nil}
use Rattle.std.specs.Prelude.{All, decimal, nat_lt, option_map, slice_get}
use Rattle.std.proofs.lemmas.Bool.Decides.{nat_tests}
use Rattle.std.proofs.lemmas.List.Elements.{All-head, All-tail}
use Rattle.std.proofs.lemmas.List.{append_cancel_left}
use Rattle.std.proofs.lemmas.Option.{slice_get_within}
use Rattle.std.proofs.Math.Seq.{drop-append_seam}
use Rattle.hp_num.specs.ParsedDec.{parsed_dec}
use Rattle.hp_outside.specs.WholeLines.{IsLineText, text_of_lines}
use Rattle.record_scripts.specs.Events.{Event, allocation, free}
use Rattle.record_scripts.specs.Job.{Job}
use Rattle.record_book.specs.Actions.{actions, events_at, times}
use Rattle.record_book.specs.BookState.{stepped, turn_entries}
use Rattle.record_book.specs.Orders.{Continues, IsUnder}
use Rattle.record_book.specs.RecordedTrace.{last_thread, recorded}
use Rattle.record_book.specs.Spelled.{behind}
use Rattle.record_book.proofs.Laws.{none-at, text-append, there, times-append}
use Rattle.order_check.specs.Following.{Following, added, at_line, at_place, behind_line, followed, last_entry}
use Rattle.order_check.specs.Following.{thread_for, turn_begun, unfollowed, with_line, with_lines}
use Rattle.order_check.specs.Spelling.{IsSpelling}
use Rattle.order_check.proofs.LineTexts.{behind-front, ends-too, front-behind, line-within, nothing-more, same-first}
use Rattle.order_check.proofs.LineTexts.{text-push}
use Rattle.order_check.proofs.NextTurn.{goes-on, stepped-under, under-none}
use Rattle.order_check.proofs.RecordedLines.{CallsFor, ends-recorded, grows, last-thread, push-calls, push-text}

-- the recording of an order begins with these lines
abbrev pub HasText : Job → List ℕ → List (List ℕ) → Type 0
HasText job order lines = (rest : List ℕ) × (recorded job order ≡ text_of_lines lines ++ rest)

-- what lines were followed to: the recording of an order under the scripts, which each that begins
-- with them goes on from
pub record Follows (job : Job) (lines : List (List ℕ)) (now : Following) : Type 0 where
  pub under : IsUnder job.scripts now.order
  pub text_is : recorded job now.order ≡ text_of_lines lines ++ now.coming
  pub only : (other : List ℕ) → IsUnder job.scripts other → HasText job other lines → Continues now.order other

pub follows-none : (job : Job) → Follows job [] (unfollowed job)
follows-none job = record { under = under-none job.scripts; text_is = refl; only = λ other under has. (other, refl) }

-- a thread with an event is read again
pub reads-thread : (job : Job) (thread k : ℕ) (event : Event) → IsSpelling job
    → slice_get (events_at job.scripts thread) k ≡ Some event → parsed_dec (decimal thread) ≡ Some thread
reads-thread job thread k event spelling at = spelling.reads thread (by (nat_lt thread (length job.scripts)) refl)
  where
    by : (t : Bool) → nat_lt thread (length job.scripts) ≡ t → thread < 2 ^ 64
    by true p =
        let below : thread < length job.scripts = grind (arith, nat_tests, p) in omega (arith, below, spelling.few)
    by false p =
        let past : length job.scripts ≤ thread = grind (arith, nat_tests, p) in
        absurd
        (omega (arith, slice_get_within (events_at job.scripts thread) k event at, none-at job.scripts thread past))

-- a turn's lines, behind the recording of the order before
pub turn-text : (job : Job) (order : List ℕ) (thread : ℕ)
    → recorded job (stepped job.scripts thread order) ≡ recorded job order ++ added job order thread
turn-text job order thread =
    let entries = turn_entries thread (slice_get (events_at job.scripts thread) (times thread order)) in
    let more = grows job order entries in
    let same : added job order thread ≡ more.0 =
    ap (λ (text : List ℕ). drop (length (recorded job order)) text) more.1
    ∙ drop-append_seam (recorded job order) more.0 in
    more.1 ∙ ap (λ (text : List ℕ). recorded job order ++ text) (sym same)

-- the entries of a turn are its thread, and perhaps once more
entries-first : (thread : ℕ) (event : Event) → (rest : List ℕ) × (turn_entries thread (Some event) ≡ thread ∷ rest)
entries-first thread (allocation id size ips) = ([], refl)
entries-first thread (free id false) = ([], refl)
entries-first thread (free id true) = (thread ∷ [], refl)

-- they begin with a line that calls for the thread
pub turn-calls : (job : Job) (order : List ℕ) (thread : ℕ) (event : Event) → IsSpelling job
    → ((other : ℕ) → times other order ≤ length (events_at job.scripts other))
    → slice_get (events_at job.scripts thread) (times thread order) ≡ Some event
    → CallsFor (last_entry order) thread (added job order thread)
turn-calls job order thread event spelling few at =
    let first = entries-first thread event in
    let steps : stepped job.scripts thread order ≡ (order ++ thread ∷ []) ++ first.0 =
    ap (λ (found : Option Event). order ++ turn_entries thread found) at
    ∙ ap (λ (entries : List ℕ). order ++ entries) first.1 ∙ sym (append_assoc order (thread ∷ []) first.0) in
    let more = grows job (order ++ thread ∷ []) first.0 in
    let pushed_text = push-text job order thread event at in
    let whole =
    sym (turn-text job order thread) ∙ ap (λ (entries : List ℕ). recorded job entries) steps ∙ more.1
    ∙ ap (λ (text : List ℕ). text ++ more.0) pushed_text ∙ append_assoc (recorded job order) _ more.0 in
    let is = append_cancel_left (recorded job order) _ _ whole in
    subst (λ (last : Option ℕ). CallsFor last thread (added job order thread)) (last-thread job.scripts order few)
    (subst (CallsFor (last_thread (actions job.scripts order)) thread) (sym is)
    (push-calls job order thread event more.0 (reads-thread job thread (times thread order) event spelling at)))

-- a front of an order is taken no more often
few-front : (job : Job) (order rest : List ℕ) → IsUnder job.scripts (order ++ rest) → (thread : ℕ)
    → times thread order ≤ length (events_at job.scripts thread)
few-front job order rest under thread = omega (arith, under.at_most thread, times-append thread order rest)

-- where a recording goes on with a line behind that of an order, that line calls for a thread whose turn is next
pub record NextCalled (job : Job) (order : List ℕ) (line : List ℕ) (rest : List ℕ) (other : List ℕ) : Type 0 where
  pub thread : ℕ
  pub event : Event
  pub thread_is : thread_for order line ≡ Some thread
  pub at : slice_get (events_at job.scripts thread) (times thread order) ≡ Some event
  pub after : List ℕ
  pub line_is : added job order thread ≡ line ++ (10 ∷ after)
  pub continues : Continues (stepped job.scripts thread order) other

pub next-called : (job : Job) (order line rest other : List ℕ) → IsSpelling job → IsLineText line
    → IsUnder job.scripts other → Continues order other
    → recorded job other ≡ recorded job order ++ (line ++ (10 ∷ rest)) → NextCalled job order line rest other
next-called job order line rest other spelling text under ([], same) has =
    let whole : recorded job order ++ (line ++ (10 ∷ rest)) ≡ recorded job order =
    sym has ∙ ap (λ (entries : List ℕ). recorded job entries) (same ∙ append-nil order) in
    absurd (some line (nothing-more (recorded job order) (line ++ (10 ∷ rest)) whole))
  where
    some : (line : List ℕ) → line ++ (10 ∷ rest) ≢ []
    some [] e = absurd (cc)
    some (b ∷ line) e = absurd (cc)
next-called job order line rest other spelling text under (thread ∷ entries, same) has =
    let is_under : IsUnder job.scripts (order ++ thread ∷ entries) = subst (IsUnder job.scripts) same under in
    let going = goes-on job.scripts order entries thread is_under in
    let calls =
    turn-calls job order thread going.event spelling (few-front job order (thread ∷ entries) is_under) going.at in
    let more = grows job (stepped job.scripts thread order) going.continues.0 in
    let whole : recorded job order ++ (line ++ (10 ∷ rest)) ≡ recorded job order ++ (added job order thread ++ more.0) =
    sym has ∙ ap (λ (entries : List ℕ). recorded job entries) (same ∙ going.continues.1) ∙ more.1
    ∙ ap (λ (text : List ℕ). text ++ more.0) (turn-text job order thread)
    ∙ append_assoc (recorded job order) (added job order thread) more.0 in
    let tail : line ++ (10 ∷ rest) ≡ calls.line ++ (10 ∷ (calls.more ++ more.0)) =
    append_cancel_left (recorded job order) _ _ whole ∙ ap (λ (text : List ℕ). text ++ more.0) calls.text_is
    ∙ append_assoc calls.line (10 ∷ calls.more) more.0 in
    let first = same-first line calls.line rest (calls.more ++ more.0) text calls.is_text tail in
    record {
      thread = thread;
      event = going.event;
      thread_is = ap (λ (found : List ℕ). thread_for order found) first.0 ∙ calls.thread_is;
      at = going.at;
      after = calls.more;
      line_is = calls.text_is ∙ ap (λ (found : List ℕ). found ++ (10 ∷ calls.more)) (sym first.0);
      continues = subst (Continues (stepped job.scripts thread order)) (sym same) going.continues;
    }

-- one line more of what a recording begins with
has-front : (job : Job) (other : List ℕ) (lines : List (List ℕ)) (line : List ℕ)
    → HasText job other (lines ++ line ∷ []) → HasText job other lines
has-front job other lines line has = (line ++ (10 ∷ has.0), has.1 ∙ text-push lines line has.0)

-- lines with which no recording begins
abbrev pub Unrecorded : Job → List (List ℕ) → Type 0
Unrecorded job lines = (other : List ℕ) → IsUnder job.scripts other → HasText job other lines → ⊥

-- what following lines says
abbrev pub Outcome : Job → List (List ℕ) → Option Following → Type 0
Outcome job lines None = Unrecorded job lines
Outcome job lines (Some now) = Follows job lines now

-- behind a line that is to come
passed-line : (job : Job) (lines : List (List ℕ)) (order coming line rest : List ℕ)
    → Follows job lines (at_place order coming) → behind (line ++ 10 ∷ []) coming ≡ Some rest
    → recorded job order ≡ text_of_lines (lines ++ line ∷ []) ++ rest
passed-line job lines order coming line rest before is =
    before.text_is
    ∙ ap (λ (text : List ℕ). text_of_lines lines ++ text)
    (front-behind (line ++ 10 ∷ []) coming rest is ∙ append_assoc line (10 ∷ []) rest)
    ∙ sym (text-push lines line rest)

-- a line where others are to come
other-line : (job : Job) (lines : List (List ℕ)) (order : List ℕ) (byte : ℕ) (bytes line : List ℕ) → IsSpelling job
    → IsLineText line
    → Follows job lines (at_place order (byte ∷ bytes)) → behind (line ++ 10 ∷ []) (byte ∷ bytes) ≡ None
    → Unrecorded job (lines ++ line ∷ [])
other-line job lines order byte bytes line spelling text before is = λ other under has.
    let going = before.only other under (has-front job other lines line has) in
    let more = grows job order going.0 in
    let goes : recorded job other ≡ text_of_lines lines ++ ((byte ∷ bytes) ++ more.0) =
    ap (λ (entries : List ℕ). recorded job entries) going.1 ∙ more.1
    ∙ ap (λ (front : List ℕ). front ++ more.0) before.text_is
    ∙ append_assoc (text_of_lines lines) (byte ∷ bytes) more.0 in
    let same =
    append_cancel_left (text_of_lines lines) ((byte ∷ bytes) ++ more.0) (line ++ (10 ∷ has.0))
    (sym goes ∙ has.1 ∙ text-push lines line has.0) in
    let whole = ends-recorded job order spelling.quiet in
    let ends = ends-too (text_of_lines lines) bytes whole.0 byte (sym before.text_is ∙ whole.1) in
    let within = line-within line (byte ∷ bytes) ends.0 more.0 has.0 text ends.1 same in
    let found : behind (line ++ 10 ∷ []) (byte ∷ bytes) ≡ Some within.0 =
    ap (λ (coming : List ℕ). behind (line ++ 10 ∷ []) coming) (within.1 ∙ sym (append_assoc line (10 ∷ []) within.0))
    ∙ behind-front (line ++ 10 ∷ []) within.0 in
    let none : None ≡ Some within.0 = sym is ∙ found in
    absurd (cc)

coming-line : (job : Job) (lines : List (List ℕ)) (order : List ℕ) (byte : ℕ) (bytes line : List ℕ)
    (found : Option (List ℕ))
    → IsSpelling job → IsLineText line
    → Follows job lines (at_place order (byte ∷ bytes)) → behind (line ++ 10 ∷ []) (byte ∷ bytes) ≡ found
    → Outcome job (lines ++ line ∷ []) (option_map (at_place order) found)
coming-line job lines order byte bytes line None spelling text before is =
    other-line job lines order byte bytes line spelling text before is
coming-line job lines order byte bytes line (Some rest) spelling text before is = record {
  under = before.under;
  text_is = passed-line job lines order (byte ∷ bytes) line rest before is;
  only = λ other under has. before.only other under (has-front job other lines line has);
}

-- a recording that goes on with a line where nothing is to come
called : (job : Job) (lines : List (List ℕ)) (order line other : List ℕ) → IsSpelling job → IsLineText line
    → Follows job lines (at_place order []) → IsUnder job.scripts other
    → (has : HasText job other (lines ++ line ∷ [])) → NextCalled job order line has.0 other
called job lines order line other spelling text before under has =
    let here : text_of_lines lines ≡ recorded job order = sym (append-nil (text_of_lines lines)) ∙ sym before.text_is in
    next-called job order line has.0 other spelling text under
    (before.only other under (has-front job other lines line has))
    (has.1 ∙ text-push lines line has.0 ∙ ap (λ (front : List ℕ). front ++ (line ++ (10 ∷ has.0))) here)

-- the thread that a line calls for is one
same-thread : (order line : List ℕ) (thread other : ℕ) → thread_for order line ≡ Some thread
    → thread_for order line ≡ Some other → thread ≡ other
same-thread order line thread other a b = let same : Some thread ≡ Some other = sym a ∙ b in cc

-- the first line of a turn, and another
first-line : (job : Job) (lines : List (List ℕ)) (order line : List ℕ) (thread : ℕ) (event : Event)
    (found : Option (List ℕ))
    → IsSpelling job → IsLineText line
    → Follows job lines (at_place order []) → thread_for order line ≡ Some thread
    → slice_get (events_at job.scripts thread) (times thread order) ≡ Some event
    → behind (line ++ 10 ∷ []) (added job order thread) ≡ found
    → Outcome job (lines ++ line ∷ []) (option_map (at_place (stepped job.scripts thread order)) found)
first-line job lines order line thread event None spelling text before calls at is = λ other under has.
    let next = called job lines order line other spelling text before under has in
    let same = same-thread order line thread next.thread calls next.thread_is in
    let line_is : added job order thread ≡ line ++ (10 ∷ next.after) =
    ap (λ (n : ℕ). added job order n) same ∙ next.line_is in
    let found : behind (line ++ 10 ∷ []) (added job order thread) ≡ Some next.after =
    ap (λ (coming : List ℕ). behind (line ++ 10 ∷ []) coming) (line_is ∙ sym (append_assoc line (10 ∷ []) next.after))
    ∙ behind-front (line ++ 10 ∷ []) next.after in
    let none : None ≡ Some next.after = sym is ∙ found in
    absurd (cc)
first-line job lines order line thread event (Some rest) spelling text before calls at is = record {
  under = stepped-under job.scripts order thread event before.under at;
  text_is =
      turn-text job order thread
      ∙ ap (λ (front : List ℕ). front ++ added job order thread) (before.text_is ∙ append-nil (text_of_lines lines))
      ∙ ap (λ (coming : List ℕ). text_of_lines lines ++ coming)
      (front-behind (line ++ 10 ∷ []) (added job order thread) rest is ∙ append_assoc line (10 ∷ []) rest)
      ∙ sym (text-push lines line rest);
  only = λ other under has.
      let next = called job lines order line other spelling text before under has in
      let same = same-thread order line thread next.thread calls next.thread_is in
      subst (λ (n : ℕ). Continues (stepped job.scripts n order) other) (sym same) next.continues;
}

turn-line : (job : Job) (lines : List (List ℕ)) (order line : List ℕ) (found : Option ℕ) → IsSpelling job
    → IsLineText line → Follows job lines (at_place order [])
    → thread_for order line ≡ found → Outcome job (lines ++ line ∷ []) (behind_line line (turn_begun job order found))
turn-line job lines order line None spelling text before calls = λ other under has.
    let next = called job lines order line other spelling text before under has in
    let none : None ≡ Some next.thread = sym calls ∙ next.thread_is in
    absurd (cc)
turn-line job lines order line (Some thread) spelling text before calls =
    by (nat_lt (times thread order) (length (events_at job.scripts thread))) refl
  where
    by : (t : Bool) → nat_lt (times thread order) (length (events_at job.scripts thread)) ≡ t
        → Outcome job (lines ++ line ∷ [])
        (behind_line line (cond t (Some (at_place (stepped job.scripts thread order) (added job order thread))) None))
    by true p =
        let below : times thread order < length (events_at job.scripts thread) = grind (arith, nat_tests, p) in
        let event = there (events_at job.scripts thread) (times thread order) below in
        first-line job lines order line thread event.0 (behind (line ++ 10 ∷ []) (added job order thread)) spelling text
        before calls event.1 refl
    by false p = λ other under has.
        let next = called job lines order line other spelling text before under has in
        let same = same-thread order line thread next.thread calls next.thread_is in
        let within =
        slice_get_within (events_at job.scripts next.thread) (times next.thread order) next.event next.at in
        let below : times thread order < length (events_at job.scripts thread) =
        subst (λ (n : ℕ). times n order < length (events_at job.scripts n)) (sym same) within in
        let past : length (events_at job.scripts thread) ≤ times thread order = grind (arith, nat_tests, p) in
        absurd (omega (arith, below, past))

-- one line more
pub follow-line : (job : Job) (lines : List (List ℕ)) (line : List ℕ) (now : Following) → IsSpelling job
    → IsLineText line → Follows job lines now
    → Outcome job (lines ++ line ∷ []) (with_line job now line)
follow-line job lines line now spelling text before = by now.coming refl
  where
    by : (coming : List ℕ) → now.coming ≡ coming
        → Outcome job (lines ++ line ∷ []) (behind_line line (at_line job now.order now.coming line))
    by [] is =
        let here : Follows job lines (at_place now.order []) =
        subst (λ (coming : List ℕ). Follows job lines (at_place now.order coming)) is before in
        subst (λ (coming : List ℕ). Outcome job (lines ++ line ∷ [])
        (behind_line line (at_line job now.order coming line))) (sym
        is)
        (turn-line job lines now.order line (thread_for now.order line) spelling text here refl)
    by (byte ∷ bytes) is =
        let here : Follows job lines (at_place now.order (byte ∷ bytes)) =
        subst (λ (coming : List ℕ). Follows job lines (at_place now.order coming)) is before in
        subst (λ (coming : List ℕ). Outcome job (lines ++ line ∷ [])
        (behind_line line (at_line job now.order coming line))) (sym
        is)
        (coming-line job lines now.order byte bytes line (behind (line ++ 10 ∷ []) (byte ∷ bytes)) spelling text here
        refl)

-- lines with which no recording begins, and more
unrecorded-more : (job : Job) (lines more : List (List ℕ)) → Unrecorded job lines → Unrecorded job (lines ++ more)
unrecorded-more job lines more none = λ other under has.
    none other under (
      text_of_lines more ++ has.0,
      has.1 ∙ ap (λ (text : List ℕ). text ++ has.0) (text-append lines more)
          ∙ append_assoc (text_of_lines lines) (text_of_lines more) has.0,
    )

follow-lines : (job : Job) (lines more : List (List ℕ)) (now : Option Following) → IsSpelling job → All IsLineText more
    → Outcome job lines now
    → Outcome job (lines ++ more) (with_lines job now more)
follow-lines job lines more None spelling texts before = unrecorded-more job lines more before
follow-lines job lines [] (Some now) spelling texts before =
    subst (λ (all : List (List ℕ)). Follows job all now) (sym (append-nil lines)) before
follow-lines job lines (line ∷ more) (Some now) spelling texts before =
    subst (λ (all : List (List ℕ)). Outcome job all (with_lines job (with_line job now line) more))
    (append_assoc lines (line ∷ []) more)
    (follow-lines job (lines ++ line ∷ []) more (with_line job now line) spelling (All-tail IsLineText line more texts)
    (follow-line job lines line now spelling (All-head IsLineText line more texts) before))

-- what following lines from the first one on says
pub follow-all : (job : Job) (lines : List (List ℕ)) → IsSpelling job → All IsLineText lines
    → Outcome job lines (followed job lines)
follow-all job lines spelling texts =
    follow-lines job [] lines (Some (unfollowed job)) spelling texts (follows-none job)

-- one line more is one step more
steps-push : (job : Job) (now : Option Following) (lines : List (List ℕ)) (line : List ℕ)
    → with_lines job now (lines ++ line ∷ []) ≡ with_lines job (with_lines job now lines) (line ∷ [])
steps-push job None lines line = refl
steps-push job (Some now) [] line = refl
steps-push job (Some now) (first ∷ lines) line = steps-push job (with_line job now first) lines line

one-step : (job : Job) (now : Option Following) → with_lines job now [] ≡ now
one-step job None = refl
one-step job (Some now) = refl

pub followed-push : (job : Job) (lines : List (List ℕ)) (line : List ℕ) (now : Following)
    → followed job lines ≡ Some now → followed job (lines ++ line ∷ []) ≡ with_line job now line
followed-push job lines line now is =
    steps-push job (Some (unfollowed job)) lines line
    ∙ ap (λ (here : Option Following). with_lines job here (line ∷ [])) is ∙ one-step job (with_line job now line)
