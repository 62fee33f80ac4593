-- The few orders of which one begins with lines: what the lines spell, and what the turn that they have begun has more.
use Rattle.std.proofs.Common.{◌≡◌, inl, inr, ℕ, Bool, true, false, cond, List, [], ◌∷◌, ◌++◌, length, Option, None}
use Rattle.std.proofs.Common.{Some, refl, sym, ap, ◌∙◌, subst, append_assoc, append-nil}
use Rattle.std.specs.Prelude.{All, nat_lt, option_map, slice_get, unwrap_or}
use Rattle.std.proofs.lemmas.List.Elements.{All-append, All-cons, All-head, All-nil, All-tail}
use Rattle.std.proofs.lemmas.List.{append_cancel_left}
use Rattle.hp_outside.specs.Lines.{lines_of}
use Rattle.hp_outside.specs.WholeLines.{IsLineText}
use Rattle.hp_outside.proofs.Laws.{lines_of-text}
use Rattle.record_scripts.specs.Events.{Event, allocation, free}
use Rattle.record_scripts.specs.Job.{Job}
use Rattle.record_book.specs.Actions.{events_at, times}
use Rattle.record_book.specs.BookState.{stepped, turn_entries}
use Rattle.record_book.specs.Orders.{IsUnder}
use Rattle.record_book.specs.Spelled.{behind, is_event, named, spelled_by}
use Rattle.record_book.proofs.Laws.{spelled-order}
use Rattle.order_check.specs.FewOrders.{AreFew, BeginsAsSpelled}
use Rattle.order_check.specs.Following.{Following, added, at_line, at_place, behind_line, followed, thread_for}
use Rattle.order_check.specs.Following.{turn_begun, unfollowed, with_line, with_lines}
use Rattle.order_check.specs.Fronts.{Begins, IsFront}
use Rattle.order_check.specs.Spelling.{IsSpelling}
use Rattle.order_check.proofs.FollowLemmas.{Follows, Outcome, follow-all, follow-line, follows-none}
use Rattle.order_check.proofs.WholeLemmas.{begins-text, text-begins}

-- what lines spell, and others behind them
spelled-split : (thread : ℕ) (xs ys : List (List ℕ))
    → (next : ℕ) × (spelled_by thread (xs ++ ys) ≡ spelled_by thread xs ++ spelled_by next ys)
spelled-split thread [] ys = (thread, refl)
spelled-split thread (line ∷ xs) ys = by (λ now. spelled-split now xs ys) (is_event line)
  where
    by : ((now : ℕ) → (next : ℕ) × (spelled_by now (xs ++ ys) ≡ spelled_by now xs ++ spelled_by next ys)) → (t : Bool)
        → (next : ℕ)
        × (cond t (thread ∷ spelled_by thread (xs ++ ys)) (spelled_by (unwrap_or (named line) thread) (xs ++ ys))
        ≡ cond t (thread ∷ spelled_by thread xs) (spelled_by (unwrap_or (named line) thread) xs) ++ spelled_by next ys)
    by rest true = let found = rest thread in (found.0, ap (λ (entries : List ℕ). thread ∷ entries) found.1)
    by rest false = rest (unwrap_or (named line) thread)

-- lines spell an order but for some entries of its last turn
record IsSpelled (lines : List (List ℕ)) (order : List ℕ) : Type 0 where
  before : List ℕ
  entries : List ℕ
  thread : ℕ
  are_few : AreFew thread entries
  order_is : order ≡ before ++ entries
  some : List ℕ
  spelled_is : spelled_by 0 lines ≡ before ++ some

spelled-none : IsSpelled [] []
spelled-none =
    record { before = []; entries = []; thread = 0; are_few = inl refl; order_is = refl; some = []; spelled_is = refl }

spelled-push : (lines : List (List ℕ)) (line order : List ℕ) → IsSpelled lines order
    → IsSpelled (lines ++ line ∷ []) order
spelled-push lines line order is =
    let split = spelled-split 0 lines (line ∷ []) in
    let extra = spelled_by split.0 (line ∷ []) in
    record {
      before = is.before;
      entries = is.entries;
      thread = is.thread;
      are_few = is.are_few;
      order_is = is.order_is;
      some = is.some ++ extra;
      spelled_is =
          split.1 ∙ ap (λ (entries : List ℕ). entries ++ extra) is.spelled_is ∙ append_assoc is.before is.some extra;
    }

turn-few : (thread : ℕ) (found : Option Event) → AreFew thread (turn_entries thread found)
turn-few thread None = inl refl
turn-few thread (Some (allocation id size ips)) = inr (inl refl)
turn-few thread (Some (free id false)) = inr (inl refl)
turn-few thread (Some (free id true)) = inr (inr refl)

-- the lines of a recording spell its order
whole-spelled : (job : Job) (lines : List (List ℕ)) (now : Following) → IsSpelling job → All IsLineText lines
    → Follows job lines now
    → spelled_by 0 (lines ++ lines_of now.coming) ≡ now.order
whole-spelled job lines now spelling texts follows =
    ap (λ (all : List (List ℕ)). spelled_by 0 all)
    (sym (ap lines_of follows.text_is ∙ lines_of-text lines now.coming texts))
    ∙ spelled-order job now.order spelling.reads spelling.few spelling.quiet follows.under

-- one line more
behind-order : (line order coming : List ℕ) (new : Following)
    → behind_line line (Some (at_place order coming)) ≡ Some new → new.order ≡ order
behind-order line order coming new is = by (behind (line ++ 10 ∷ []) coming) is
  where
    by : (found : Option (List ℕ)) → option_map (at_place order) found ≡ Some new → new.order ≡ order
    by None is = absurd (cc)
    by (Some rest) is = let same : at_place order rest ≡ new = cc in sym (ap (λ (f : Following). f.order) same)

spelled-turn : (job : Job) (lines : List (List ℕ)) (line order : List ℕ) (new : Following) (found : Option ℕ)
    → spelled_by 0 lines ≡ order → behind_line line (turn_begun job order found) ≡ Some new
    → IsSpelled (lines ++ line ∷ []) new.order
spelled-turn job lines line order new None here is = absurd (cc)
spelled-turn job lines line order new (Some thread) here is =
    by (nat_lt (times thread order) (length (events_at job.scripts thread))) is
  where
    by : (t : Bool)
        → behind_line line (cond t (Some (at_place (stepped job.scripts thread order) (added job order thread))) None)
        ≡ Some new
        → IsSpelled (lines ++ line ∷ []) new.order
    by false is = absurd (cc)
    by true is =
        let split = spelled-split 0 lines (line ∷ []) in
        let found = slice_get (events_at job.scripts thread) (times thread order) in
        record {
          before = order;
          entries = turn_entries thread found;
          thread = thread;
          are_few = turn-few thread found;
          order_is = behind-order line (stepped job.scripts thread order) (added job order thread) new is;
          some = spelled_by split.0 (line ∷ []);
          spelled_is = split.1 ∙ ap (λ (entries : List ℕ). entries ++ spelled_by split.0 (line ∷ [])) here;
        }

spelled-line : (job : Job) (lines : List (List ℕ)) (line : List ℕ) (now new : Following) → IsSpelling job
    → All IsLineText lines → Follows job lines now → IsSpelled lines now.order
    → with_line job now line ≡ Some new → IsSpelled (lines ++ line ∷ []) new.order
spelled-line job lines line now new spelling texts follows before is = by now.coming refl is
  where
    by : (coming : List ℕ) → now.coming ≡ coming → behind_line line (at_line job now.order coming line) ≡ Some new
        → IsSpelled (lines ++ line ∷ []) new.order
    by [] none is =
        let here : spelled_by 0 lines ≡ now.order =
        ap (λ (all : List (List ℕ)). spelled_by 0 all) (sym (append-nil lines))
        ∙ ap (λ (coming : List ℕ). spelled_by 0 (lines ++ lines_of coming)) (sym none)
        ∙ whole-spelled job lines now spelling texts follows in
        spelled-turn job lines line now.order new (thread_for now.order line) here is
    by (byte ∷ bytes) some is =
        subst (IsSpelled (lines ++ line ∷ [])) (sym (behind-order line now.order (byte ∷ bytes) new is))
        (spelled-push lines line now.order before)

-- lines in a row
push-texts : (lines : List (List ℕ)) (line : List ℕ) → All IsLineText lines → IsLineText line
    → All IsLineText (lines ++ line ∷ [])
push-texts lines line texts text =
    All-append IsLineText lines (line ∷ []) texts (All-cons IsLineText line [] text (All-nil IsLineText))

spelled-lines : (job : Job) (lines more : List (List ℕ)) (now new : Following) → IsSpelling job → All IsLineText lines
    → All IsLineText more → Follows job lines now → IsSpelled lines now.order
    → with_lines job (Some now) more ≡ Some new → IsSpelled (lines ++ more) new.order
spelled-lines job lines [] now new spelling texts rest follows before is =
    let same : now ≡ new = cc in
    subst (λ (all : List (List ℕ)). IsSpelled all new.order) (sym (append-nil lines))
    (subst (λ (f : Following). IsSpelled lines f.order) same before)
spelled-lines job lines (line ∷ more) now new spelling texts rest follows before is =
    by (λ mid going is_spelled found. spelled-lines job (lines ++ line ∷ []) more mid new spelling
    (push-texts lines line texts text) (All-tail IsLineText line more rest) going is_spelled found)
    (with_line job now line) refl (follow-line job lines line now spelling text follows) is
  where
    text : IsLineText line
    text = All-head IsLineText line more rest

    by : ((mid : Following) → Follows job (lines ++ line ∷ []) mid → IsSpelled (lines ++ line ∷ []) mid.order
        → with_lines job (Some mid) more ≡ Some new → IsSpelled ((lines ++ line ∷ []) ++ more) new.order)
        → (found : Option Following) → with_line job now line ≡ found → Outcome job (lines ++ line ∷ []) found
        → with_lines job found more ≡ Some new → IsSpelled (lines ++ line ∷ more) new.order
    by later None at none is = absurd (cc)
    by later (Some mid) at going is =
        subst (λ (all : List (List ℕ)). IsSpelled all new.order) (append_assoc lines (line ∷ []) more)
        (later mid going (spelled-line job lines line now mid spelling texts follows before at) is)

-- the end of few entries is few
few-end : (thread : ℕ) (entries some few : List ℕ) → AreFew thread entries → entries ≡ some ++ few → AreFew thread few
few-end thread entries [] few are is = subst (AreFew thread) is are
few-end thread entries (x ∷ some) few (inl none) is = absurd (let both : [] ≡ x ∷ some ++ few = sym none ∙ is in cc)
few-end thread entries (x ∷ []) few (inr (inl one)) is = inl (let both : thread ∷ [] ≡ x ∷ few = sym one ∙ is in cc)
few-end thread entries (x ∷ y ∷ some) few (inr (inl one)) is =
    absurd (let both : thread ∷ [] ≡ x ∷ y ∷ some ++ few = sym one ∙ is in cc)
few-end thread entries (x ∷ []) few (inr (inr two)) is =
    inr (inl (let both : thread ∷ thread ∷ [] ≡ x ∷ few = sym two ∙ is in cc))
few-end thread entries (x ∷ y ∷ []) few (inr (inr two)) is =
    inl (let both : thread ∷ thread ∷ [] ≡ x ∷ y ∷ few = sym two ∙ is in cc)
few-end thread entries (x ∷ y ∷ z ∷ some) few (inr (inr two)) is =
    absurd (let both : thread ∷ thread ∷ [] ≡ x ∷ y ∷ z ∷ some ++ few = sym two ∙ is in cc)

few-of : (job : Job) (lines : List (List ℕ)) (now : Following) → IsSpelling job → All IsLineText lines
    → Follows job lines now → IsSpelled lines now.order → BeginsAsSpelled job lines
few-of job lines now spelling texts follows is =
    let split = spelled-split 0 lines (lines_of now.coming) in
    let few = spelled_by split.0 (lines_of now.coming) in
    let order : spelled_by 0 lines ++ few ≡ now.order =
    sym split.1 ∙ whole-spelled job lines now spelling texts follows in
    let whole : is.before ++ is.entries ≡ is.before ++ (is.some ++ few) =
    sym is.order_is ∙ sym order ∙ ap (λ (entries : List ℕ). entries ++ few) is.spelled_is
    ∙ append_assoc is.before is.some few in
    record {
      thread = is.thread;
      few = few;
      are_few =
          few-end is.thread is.entries is.some few is.are_few
          (append_cancel_left is.before is.entries (is.some ++ few) whole);
      under = subst (IsUnder job.scripts) (sym order) follows.under;
      begins =
          subst (λ (entries : List ℕ). Begins job entries lines) (sym order)
          (text-begins job now.order lines texts (now.coming, follows.text_is));
    }

-- the law of few orders
pub few-orders : (job : Job) (lines : List (List ℕ)) → IsSpelling job → All IsLineText lines → IsFront job lines
    → BeginsAsSpelled job lines
few-orders job lines spelling texts front = by (followed job lines) refl (follow-all job lines spelling texts)
  where
    by : (found : Option Following) → followed job lines ≡ found → Outcome job lines found → BeginsAsSpelled job lines
    by None at none = absurd (none front.0 front.1 (begins-text job front.0 lines spelling front.2))
    by (Some now) at follows =
        few-of job lines now spelling texts follows
        (spelled-lines job [] lines (unfollowed job) now spelling (All-nil IsLineText) texts (follows-none job)
        spelled-none at)
