-- Lines that are all of a recording, and lines with which one begins.
use Rattle.std.proofs.Common.{◌≡◌, ◌≢◌, ℕ, zero, suc, ◌+◌, ◌<◌, ◌≤◌, ◌==◌, ◌&&◌, Bool, true, false, cond, List, [], ◌∷◌}
use Rattle.std.proofs.Common.{◌++◌, length, Option, None, Some, refl, sym, ap, ap₂, ◌∙◌, subst, arith, append_assoc}
use Rattle.std.proofs.Common.{append-nil}
use Rattle.std.specs.Prelude.{All, is_some, nat_lt}
use Rattle.std.proofs.lemmas.Bool.Decides.{nat_tests}
use Rattle.std.proofs.lemmas.List.Elements.{All-cons, All-head, All-nil, All-tail}
use Rattle.hp_outside.specs.Lines.{lines_of, put_first}
use Rattle.hp_outside.specs.WholeLines.{IsLineText, text_of_lines}
use Rattle.hp_outside.proofs.Laws.{lines_of-text}
use Rattle.record_scripts.specs.Events.{events_of}
use Rattle.record_scripts.specs.Job.{Job}
use Rattle.record_scripts.specs.Turns.{Turn, script_at}
use Rattle.record_book.specs.Actions.{events_at, times}
use Rattle.record_book.specs.BookState.{stepped}
use Rattle.record_book.specs.Orders.{Continues, IsInterleaving, IsUnder}
use Rattle.record_book.specs.RecordedTrace.{recorded}
use Rattle.record_book.specs.Spelled.{spelled}
use Rattle.record_book.proofs.Laws.{none-at, spelled-order, text-append}
use Rattle.order_check.specs.Following.{Following, added, are_done, events_at_end, followed, is_empty, is_front}
use Rattle.order_check.specs.Following.{whole_events}
use Rattle.order_check.specs.Fronts.{Begins, IsFront, IsRecording}
use Rattle.order_check.specs.Spelling.{IsSpelling}
use Rattle.order_check.proofs.FollowLemmas.{Follows, HasText, Outcome, follow-all, turn-calls, turn-text}
use Rattle.order_check.proofs.LineTexts.{nothing-more, whole-text}
use Rattle.order_check.proofs.NextTurn.{goes-on}
use Rattle.order_check.proofs.RecordedLines.{ends-recorded, grows}
use Rattle.order_check.proofs.StepLemmas.{empty-is}

-- lines have no line feed
first-text : (b : ℕ) (lines : List (List ℕ)) → b ≢ 10 → All IsLineText lines → All IsLineText (put_first b lines)
first-text b [] other texts =
    All-cons IsLineText (b ∷ []) [] (All-cons (λ c. c ≢ 10) b [] other (All-nil (λ c. c ≢ 10))) texts
first-text b (line ∷ lines) other texts =
    All-cons IsLineText (b ∷ line) lines (All-cons (λ c. c ≢ 10) b line other (All-head IsLineText line lines texts))
    (All-tail IsLineText line lines texts)

pub lines-texts : (bytes : List ℕ) → All IsLineText (lines_of bytes)
lines-texts [] = All-nil IsLineText
lines-texts (b ∷ bytes) = by (b == 10) refl (lines-texts bytes)
  where
    by : (t : Bool) → (b == 10) ≡ t → All IsLineText (lines_of bytes)
        → All IsLineText (cond t ([] ∷ lines_of bytes) (put_first b (lines_of bytes)))
    by true p texts = All-cons IsLineText [] (lines_of bytes) (All-nil (λ c. c ≢ 10)) texts
    by false p texts = first-text b (lines_of bytes) (λ same. absurd (grind (arith, nat_tests, p, same))) texts

-- the beginning of a recording, as lines and as a text
pub begins-text : (job : Job) (order : List ℕ) (lines : List (List ℕ)) → IsSpelling job → Begins job order lines
    → HasText job order lines
begins-text job order lines spelling begins =
    let ends = ends-recorded job order spelling.quiet in
    let whole : text_of_lines (lines_of (recorded job order)) ≡ recorded job order =
    ap (λ (text : List ℕ). text_of_lines (lines_of text)) ends.1 ∙ whole-text ends.0 ∙ sym ends.1 in
    (text_of_lines begins.0, sym whole ∙ ap text_of_lines begins.1 ∙ text-append lines begins.0)

pub text-begins : (job : Job) (order : List ℕ) (lines : List (List ℕ)) → All IsLineText lines → HasText job order lines
    → Begins job order lines
text-begins job order lines texts has = (lines_of has.0, ap lines_of has.1 ∙ lines_of-text lines has.0 texts)

-- whether some recording begins so
pub front-is : (job : Job) (lines : List (List ℕ)) → IsSpelling job → All IsLineText lines → is_front job lines ≡ true
    → IsFront job lines
front-is job lines spelling texts is = by (followed job lines) (follow-all job lines spelling texts) is
  where
    by : (found : Option Following) → Outcome job lines found → is_some found ≡ true → IsFront job lines
    by None none is = absurd (cc)
    by (Some now) follows is =
        (now.order, follows.under, text-begins job now.order lines texts (now.coming, follows.text_is))

pub is-front : (job : Job) (lines : List (List ℕ)) → IsSpelling job → All IsLineText lines → IsFront job lines
    → is_front job lines ≡ true
is-front job lines spelling texts front = by (followed job lines) (follow-all job lines spelling texts)
  where
    by : (found : Option Following) → Outcome job lines found → is_some found ≡ true
    by None none = absurd (none front.0 front.1 (begins-text job front.0 lines spelling front.2))
    by (Some now) follows = refl

-- scripts that are done
both : (first second : Bool) → (first && second) ≡ true → (first ≡ true) × (second ≡ true)
both true second is = (refl, is)
both false second is = absurd (cc)

done-at : (first : ℕ) (scripts : List (List Turn)) (order : List ℕ) → are_done first scripts order ≡ true → (k : ℕ)
    → k < length scripts
    → times (first + k) order ≡ length (events_of (script_at scripts k))
done-at first [] order done k within = absurd (omega (arith, within))
done-at first (script ∷ scripts) order done zero within =
    let here = both (times first order == length (events_of script)) (are_done (first + 1) scripts order) done in
    let count : times first order ≡ length (events_of script) = grind (arith, nat_tests, here.0) in
    let same : first + 0 ≡ first = omega arith in
    ap (λ (n : ℕ). times n order) same ∙ count
done-at first (script ∷ scripts) order done (suc k) within =
    let here = both (times first order == length (events_of script)) (are_done (first + 1) scripts order) done in
    let same : first + suc k ≡ first + 1 + k = omega arith in
    ap (λ (n : ℕ). times n order) same ∙ done-at (first + 1) scripts order here.1 k (omega (arith, within))

all-done : (scripts : List (List Turn)) (order : List ℕ) → IsUnder scripts order → are_done 0 scripts order ≡ true
    → IsInterleaving scripts order
all-done scripts order under done =
    record { under = under; exactly = λ thread. by thread (nat_lt thread (length scripts)) refl }
  where
    by : (thread : ℕ) (t : Bool) → nat_lt thread (length scripts) ≡ t
        → times thread order ≡ length (events_at scripts thread)
    by thread true p =
        let below : thread < length scripts = grind (arith, nat_tests, p) in
        let same : 0 + thread ≡ thread = omega arith in
        ap (λ (n : ℕ). times n order) (sym same) ∙ done-at 0 scripts order done thread below
    by thread false p =
        let past : length scripts ≤ thread = grind (arith, nat_tests, p) in
        omega (arith, under.at_most thread, none-at scripts thread past)

done-each : (first : ℕ) (scripts : List (List Turn)) (order : List ℕ)
    → ((k : ℕ) → k < length scripts → times (first + k) order ≡ length (events_of (script_at scripts k)))
    → are_done first scripts order ≡ true
done-each first [] order each = refl
done-each first (script ∷ scripts) order each =
    let same : first + 0 ≡ first = omega arith in
    let count : times first order ≡ length (events_of script) =
    ap (λ (n : ℕ). times n order) (sym same) ∙ each 0 (omega arith) in
    let here : (times first order == length (events_of script)) ≡ true = grind (arith, nat_tests, count) in
    ap (λ (t : Bool). t && are_done (first + 1) scripts order) here
    ∙ done-each (first + 1) scripts order (λ k within.
    let next : first + 1 + k ≡ first + suc k = omega arith in
    ap (λ (n : ℕ). times n order) next ∙ each (suc k) (omega (arith, within)))

pub done-all : (scripts : List (List Turn)) (order : List ℕ) → IsInterleaving scripts order
    → are_done 0 scripts order ≡ true
done-all scripts order all = done-each 0 scripts order (λ k within.
    let same : 0 + k ≡ k = omega arith in
    ap (λ (n : ℕ). times n order) same ∙ all.exactly k)

-- whether the scripts are done, by a test of what is known of the order
pub done-is : (scripts : List (List Turn)) (order : List ℕ) (test : Bool) → IsUnder scripts order
    → (test ≡ true → IsInterleaving scripts order) → (IsInterleaving scripts order → test ≡ true)
    → test ≡ are_done 0 scripts order
done-is scripts order test under there back = by test (are_done 0 scripts order) refl refl
  where
    by : (t d : Bool) → test ≡ t → are_done 0 scripts order ≡ d → test ≡ are_done 0 scripts order
    by true d p q = p ∙ sym (done-all scripts order (there p))
    by false true p q =
        p ∙ absurd (let both_ways : true ≡ false = sym (back (all-done scripts order under q)) ∙ p in cc)
    by false false p q = p ∙ sym q

-- lines that are all of a recording
pub whole-is : (job : Job) (lines : List (List ℕ)) (ended : Bool) (events : ℕ) (bytes : List ℕ) → IsSpelling job
    → lines_of bytes ≡ lines → (ended ≡ true → bytes ≡ text_of_lines lines)
    → whole_events job lines ended ≡ Some events → IsRecording job bytes × (events ≡ length (spelled bytes))
whole-is job lines ended events bytes spelling are text whole =
    by (followed job lines) (follow-all job lines spelling (subst (All IsLineText) are (lines-texts bytes))) whole
  where
    at : (now : Following) → Follows job lines now → (test : Bool)
        → (ended && is_empty now.coming && are_done 0 job.scripts now.order) ≡ test
        → cond test (Some (length now.order)) None ≡ Some events
        → IsRecording job bytes × (events ≡ length (spelled bytes))
    at now follows false p is = absurd (cc)
    at now follows true p is =
        let second = both (ended && is_empty now.coming) (are_done 0 job.scripts now.order) p in
        let first = both ended (is_empty now.coming) second.0 in
        let trace : bytes ≡ recorded job now.order =
        text first.0 ∙ sym (append-nil (text_of_lines lines))
        ∙ ap (λ (rest : List ℕ). text_of_lines lines ++ rest) (sym (empty-is now.coming first.1))
        ∙ sym follows.text_is in
        let order : spelled bytes ≡ now.order =
        ap spelled trace ∙ spelled-order job now.order spelling.reads spelling.few spelling.quiet follows.under in
        let count : length now.order ≡ events = cc in (
          record {
            trace = trace ∙ ap (λ (entries : List ℕ). recorded job entries) (sym order);
            all =
                subst (IsInterleaving job.scripts) (sym order) (all-done job.scripts now.order follows.under second.1);
          },
          sym count ∙ ap length (sym order),
        )

    by : (found : Option Following) → Outcome job lines found → events_at_end job ended found ≡ Some events
        → IsRecording job bytes × (events ≡ length (spelled bytes))
    by None none is = absurd (cc)
    by (Some now) follows is = at now follows (ended && is_empty now.coming && are_done 0 job.scripts now.order) refl is

-- a longer order has a longer recording
some-byte : (line more rest : List ℕ) → (line ++ (10 ∷ more)) ++ rest ≢ []
some-byte [] more rest e = absurd (cc)
some-byte (b ∷ line) more rest e = absurd (cc)

longer : (job : Job) (order rest : List ℕ) (thread : ℕ) → IsSpelling job → IsUnder job.scripts (order ++ thread ∷ rest)
    → ((other : ℕ) → times other order ≤ length (events_at job.scripts other))
    → recorded job (order ++ thread ∷ rest) ≢ recorded job order
longer job order rest thread spelling under few same =
    let going = goes-on job.scripts order rest thread under in
    let calls = turn-calls job order thread going.event spelling few going.at in
    let more = grows job (stepped job.scripts thread order) going.continues.0 in
    let whole : recorded job order ++ ((calls.line ++ (10 ∷ calls.more)) ++ more.0) ≡ recorded job order =
    ap (λ (text : List ℕ). recorded job order ++ (text ++ more.0)) (sym calls.text_is)
    ∙ sym (append_assoc (recorded job order) (added job order thread) more.0)
    ∙ ap (λ (text : List ℕ). text ++ more.0) (sym (turn-text job order thread)) ∙ sym more.1
    ∙ ap (λ (entries : List ℕ). recorded job entries) (sym going.continues.1) ∙ same in
    some-byte calls.line calls.more more.0 (nothing-more (recorded job order) _ whole)

none-either : (xs ys : List ℕ) → xs ++ ys ≡ [] → (xs ≡ []) × (ys ≡ [])
none-either [] ys is = (refl, is)
none-either (x ∷ xs) ys is = absurd (cc)

same-order : (job : Job) (order other : List ℕ) → IsSpelling job → IsUnder job.scripts order → IsUnder job.scripts other
    → Continues order other → recorded job other ≡ recorded job order → other ≡ order
same-order job order other spelling under_it under ([], is) same = is ∙ append-nil order
same-order job order other spelling under_it under (thread ∷ rest, is) same =
    absurd (longer job order rest thread spelling (subst (IsUnder job.scripts) is under) under_it.at_most
    (ap (λ (entries : List ℕ). recorded job entries) (sym is) ∙ same))

pub only-whole : (job : Job) (lines : List (List ℕ)) (ended : Bool) (bytes : List ℕ) → IsSpelling job
    → lines_of bytes ≡ lines → (ended ≡ false → bytes ≢ text_of_lines lines) → IsRecording job bytes
    → whole_events job lines ended ≡ Some (length (spelled bytes))
only-whole job lines ended bytes spelling are cut recording =
    by ended refl (followed job lines) refl
    (follow-all job lines spelling (subst (All IsLineText) are (lines-texts bytes)))
  where
    order : List ℕ
    order = spelled bytes

    text : bytes ≡ text_of_lines lines
    text =
        let ends = ends-recorded job (spelled bytes) spelling.quiet in
        let end : bytes ≡ ends.0 ++ 10 ∷ [] = recording.trace ∙ ends.1 in
        end ∙ sym (whole-text ends.0) ∙ ap (λ (all : List ℕ). text_of_lines (lines_of all)) (sym end)
        ∙ ap text_of_lines are

    trace : recorded job (spelled bytes) ≡ text_of_lines lines
    trace = sym recording.trace ∙ text

    at : (now : Following) → Follows job lines now → (now.coming ≡ []) × (spelled bytes ≡ now.order)
    at now follows =
        let going =
        follows.only (spelled bytes) recording.all.under ([], trace ∙ sym (append-nil (text_of_lines lines))) in
        let more = grows job now.order going.0 in
        let goes : recorded job (spelled bytes) ≡ text_of_lines lines ++ (now.coming ++ more.0) =
        ap (λ (entries : List ℕ). recorded job entries) going.1 ∙ more.1
        ∙ ap (λ (front : List ℕ). front ++ more.0) follows.text_is
        ∙ append_assoc (text_of_lines lines) now.coming more.0 in
        let none =
        none-either now.coming more.0
        (nothing-more (text_of_lines lines) (now.coming ++ more.0) (sym goes ∙ trace)) in (
          none.0,
          same-order job now.order (spelled bytes) spelling follows.under recording.all.under going
              (ap (λ (entries : List ℕ). recorded job entries) going.1 ∙ more.1
              ∙ ap (λ (rest : List ℕ). recorded job now.order ++ rest) none.1 ∙ append-nil (recorded job now.order)),
        )

    by : (e : Bool) → ended ≡ e → (found : Option Following) → followed job lines ≡ found → Outcome job lines found
        → whole_events job lines ended ≡ Some (length (spelled bytes))
    by false p found is outcome = absurd (cut p text)
    by true p None is none =
        absurd (none (spelled bytes) recording.all.under ([], trace ∙ sym (append-nil (text_of_lines lines))))
    by true p (Some now) is follows =
        let here = at now follows in
        let done : are_done 0 job.scripts now.order ≡ true =
        done-all job.scripts now.order (subst (IsInterleaving job.scripts) here.1 recording.all) in
        ap₂ (λ (e : Bool) (found : Option Following). events_at_end job e found) p is
        ∙ ap₂ (λ (coming : List ℕ) (d : Bool). cond (true && is_empty coming && d) (Some (length now.order)) None)
        here.0 done
        ∙ ap (λ (entries : List ℕ). Some (length entries)) (sym here.1)
