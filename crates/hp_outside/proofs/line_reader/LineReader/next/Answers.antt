use Rattle.std.proofs.Common.{rules, ◌≡◌, ◌+◌, ◌-◌, ◌∙◌, ap, sym, subst, None, Some, unwrap_or, refl, Err, inl}
use Rattle.std.proofs.Common.{if◌then◌else◌, true, length, List, ℕ, ◌<◌, IsSome, ◌↔◌, arith}
use Rattle.std.proofs.lemmas.Bool.{false≢true}
use Rattle.std.specs.List.{position_or_len}
use Rattle.std.specs.Io.KnownBytes.{prepend_known}
use Rattle.hp_outside.specs.Lines.{is_line_feed}
use Rattle.hp_outside.specs.declared.line_end.Judgement.TheVariants.{Line, TooLong, Open}
use Rattle.hp_outside.specs.Faults.{Faulted}
use Rattle.hp_outside.proofs.LineLemmas.{told_rest, line_answer, line_given, line_has_feed, last_has_none}
use Rattle.hp_outside.proofs.LineLemmas.{too_long_answer, too_long_read, position_or_len-grown, last_given, last_answer}
use Rattle.hp_outside.proofs.LineLemmas.{last_short}
use Rattle.hp_outside.proofs.ReaderLemmas.{last_within, stands_still, front_within, seen_within, length-taken}
use Rattle.hp_outside.proofs.ReaderLemmas.{passed_on, no_longer, given_read, IsLastEnded, last_ended, last_refused}
use Rattle.hp_outside.proofs.ReaderLemmas.{last_still, undecided_still, rise_from, no_more, none_is_some, judged_in}
use Rattle.hp_outside.proofs.ReaderLemmas.{stands_refused, stands_on, stands_bounded, stands_within}
use Rattle.hp_outside.proofs.WholeLinesLemmas.{last-one, line-one}
use Rattle.hp_outside.proofs.line_reader.LineReader.next.Goals as goal

-- an earlier fault is answered again, and nothing changes
pub returns-in-Some : goal.returns-in-Some
returns-in-Some g c =
    let was : c.args.self.now.fault ≡ Some c.in-Some.fault = ap (λ s. s.fault) (sym c.self.view_is) ∙ c.in-Some.is in
    let never : c.args.self.now.fault ≡ None → ⊥ = λ none. none_is_some c.in-Some.fault (sym none ∙ was) in
    record {
      again = λ fault is. (ap (λ o. Err (unwrap_or o c.in-Some.fault)) (sym was ∙ is), refl, refl);
      next = λ none. absurd (never none);
      store = record {
        files = refl;
        current = refl;
        opens = refl;
        faults = no_more _ _ refl;
        decided = λ decided. refl;
        unread = λ ended. refl;
        failed = λ none. absurd (never none);
        sound = λ other. refl;
        end = c.requires.ended;
      };
      reader = record {
        input = refl;
        limit = refl;
        kept_fault = was;
        no_fault = tt;
        line = record {
          span = tt;
          number = tt;
          given = tt;
          step = tt;
          short = tt;
          one_line = tt;
        };
        place = λ none. absurd (never none);
        bounded = search rules;
        within = search rules;
        last = subst IsLastEnded c.self.view_is (last_ended _ _ _ c.self.invariant.4 c.self.invariant.5);
        end_seen = tt;
        stays_ended = λ ended. ended;
      };
      unmoved = λ other. record { passed = refl; number = refl; given = refl; line_ended = refl; rest = refl };
    }

pub returns-in-Line : goal.returns-in-Line
returns-in-Line g c =
    let old = c.reads.invariant in
    let inside = c.self-in-reads.view_is in
    let gave = c.give.ensures in
    let judged =
    judged_in c.args.self.now c.reads.self _ _ _ c.self-in-reads.inside.window.kept c.kept.result.now
    (Line c.in-Line.count) old.same
    (ap (λ s. s.line_limit) inside) (ap (λ s. s.input) inside) (ap (λ s. s.passed) inside) (ap (λ s. s.kept) inside)
    c.kept.ensures c.in-Line.ensures in
    let count : length c.give.new.self.line ≡ c.in-Line.count = length-taken _ _ _ gave.line judged.1 in
    let passed : c.give.new.self.passed ≡ c.args.self.now.passed + length c.give.new.self.line + 1 =
    passed_on _ _ _ _ _ _ old.same.passed gave.passed count in
    record {
      again = λ fault was. absurd (none_is_some fault (sym old.fresh ∙ was));
      next = λ none rest told. record {
        answer = let told_as = told_rest _ _ _ (sym old.rest ∙ told) in
            line_answer _ _ _ c.reads.self.kept told_as.0 _ _ c.give.result judged old.within told_as.2;
        line = let told_as = told_rest _ _ _ (sym old.rest ∙ told) in
            rw told_as.1
            (line_given _ _ _ c.reads.self.kept told_as.0 _ _ c.give.result _ _ _ judged told_as.2 gave.line gave.kept
            (gave.passed ∙ ap (λ n. n + c.in-Line.count + 1) old.same.passed));
        line_ended = let told_as = told_rest _ _ _ (sym old.rest ∙ told) in
            gave.line_ended
            ∙ sym (line_has_feed c.reads.self.kept told_as.0 rest c.in-Line.count judged.0 judged.1 told_as.2);
      };
      store = record {
        files = old.files;
        current = old.current;
        opens = old.opens;
        faults = no_more _ _ old.faults;
        decided = λ decided. (old.waited decided).0;
        unread = λ ended. (old.idle ended).0;
        failed = λ none failed. absurd (given_read _ failed);
        sound = λ other. old.faults;
        end = λ ended. old.ended (sym gave.ended ∙ ended);
      };
      reader = record {
        input = gave.input ∙ old.same.input;
        limit = gave.limit ∙ old.same.line_limit;
        kept_fault = tt;
        no_fault = gave.fault ∙ old.fault;
        line = record {
          span = sym gave.span;
          number = gave.number ∙ ap (λ n. n + 1) old.same.number;
          given = passed_on _ _ _ _ _ _ old.same.given gave.given count;
          step =
              passed
              ∙ ap (λ b. c.args.self.now.passed + length c.give.new.self.line + (if b then 1 else 0))
              (sym gave.line_ended);
          short = no_longer _ _ _ _ count judged.2 (gave.limit ∙ old.same.line_limit);
          one_line = line-one c.reads.self.kept _ c.in-Line.count judged.0 gave.line;
        };
        place = λ none failed. absurd (given_read _ failed);
        bounded = search rules;
        within = search rules;
        last = λ unfed. absurd (false≢true (sym unfed ∙ gave.line_ended));
        end_seen = tt;
        stays_ended = λ ended. gave.ended ∙ (old.idle ended).1;
      };
      unmoved = λ other. absurd (other tt);
    }

pub returns-in-TooLong : goal.returns-in-TooLong
returns-in-TooLong g c =
    let old = c.reads.invariant in
    let inside = c.self-in-reads.view_is in
    let after = c.refuse.ensures.after in
    let given : c.refuse.result ≡ c.in-TooLong.fault = c.refuse.ensures.result in
    let same = stands_refused c.args.self.now c.reads.self c.refuse.new.self c.in-TooLong.fault old.same after in
    let judged =
    judged_in c.args.self.now c.reads.self _ _ _ c.self-in-reads.inside.window.kept c.kept.result.now
    (TooLong c.in-TooLong.fault) old.same
    (ap (λ s. s.line_limit) inside) (ap (λ s. s.input) inside) (ap (λ s. s.passed) inside) (ap (λ s. s.kept) inside)
    c.kept.ensures c.in-TooLong.ensures in
    let sound =
    too_long_read c.args.self.now.line_limit (c.args.self.now.input - c.args.self.now.passed) c.reads.self.kept
    c.in-TooLong.fault c.refuse.result judged given in
    record {
      again = λ fault was. absurd (none_is_some fault (sym old.fresh ∙ was));
      next = λ none rest told. record {
        answer = let told_as = told_rest _ _ _ (sym old.rest ∙ told) in
            rw given
            (too_long_answer _ _ _ c.reads.self.kept told_as.0 _ c.in-TooLong.fault judged old.within told_as.2);
        line = tt;
        line_ended = tt;
      };
      store = record {
        files = old.files;
        current = old.current;
        opens = old.opens;
        faults = no_more _ _ old.faults;
        decided = λ decided. (old.waited decided).0;
        unread = λ ended. (old.idle ended).0;
        failed = λ none failed. absurd (sound failed);
        sound = λ other. old.faults;
        end = λ ended. old.ended (sym (ap (λ s. s.ended) after) ∙ ended);
      };
      reader = record {
        input = same.input;
        limit = same.line_limit;
        kept_fault = ap (λ s. s.fault) after ∙ ap Some (sym given);
        no_fault = tt;
        line = record {
          span = tt;
          number = tt;
          given = tt;
          step = tt;
          short = tt;
          one_line = tt;
        };
        place = λ none failed. absurd (sound failed);
        bounded = stands_bounded c.args.self.now c.refuse.new.self same old.bounded;
        within = stands_within c.args.self.now c.refuse.new.self same old.within;
        last =
            last_refused c.reads.self c.refuse.new.self c.in-TooLong.fault after
            (subst IsLastEnded inside (last_ended _ _ _ c.self-in-reads.invariant.4 c.self-in-reads.invariant.5));
        end_seen = tt;
        stays_ended = λ ended. ap (λ s. s.ended) after ∙ (old.idle ended).1;
      };
      unmoved =
          λ other. record {
            passed = same.passed;
            number = same.number;
            given = same.given;
            line_ended = same.line_ended;
            rest = ap (λ s. prepend_known s.kept (g.S.Store.left c.reads.store)) after ∙ sym old.rest;
          };
    }

pub returns-in-Err : goal.returns-in-Err
returns-in-Err g c =
    let old = c.reads.invariant in
    let inside = c.self-in-reads.view_is in
    let more = c.in-Err.ensures in
    let same = stands_on old.same more.same in
    let judged =
    judged_in c.args.self.now c.reads.self _ _ _ c.self-in-reads.inside.window.kept c.kept.result.now Open old.same
    (ap (λ s. s.line_limit) inside) (ap (λ s. s.input) inside) (ap (λ s. s.passed) inside) (ap (λ s. s.kept) inside)
    c.kept.ensures c.in-Open.ensures in
    record {
      again = λ fault was. absurd (none_is_some fault (sym old.fresh ∙ was));
      next = λ none rest told. record {
        answer = rw more.took.failed.0 tt;
        line = tt;
        line_ended = tt;
      };
      store = record {
        files = more.store.files ∙ old.files;
        current = more.store.current ∙ old.current;
        opens = more.store.opens ∙ old.opens;
        faults = rise_from _ _ _ old.faults more.store.faults;
        decided =
            λ decided. absurd
            (decided
            (undecided_still c.args.self.now c.reads.self c.args.self.now judged (stands_still c.args.self.now)
            old.within (sym (old.waited decided).1)));
        unread = λ ended. absurd (false≢true (sym c.if-self.false ∙ ap (λ s. s.ended) inside ∙ (old.idle ended).1));
        failed =
            λ none failed. subst (λ (n : ℕ). Faulted n (g.S.Store.faults c.take_more.new.store)) old.faults
            more.took.failed.1;
        sound = λ other. absurd (other (ap Err more.took.failed.0));
        end =
            λ ended. absurd (false≢true (sym c.if-self.false ∙ ap (λ s. s.ended) inside ∙ sym more.took.still ∙ ended));
      };
      reader = record {
        input = same.input;
        limit = same.line_limit;
        kept_fault = more.took.fault ∙ ap Some (sym more.took.failed.0);
        no_fault = tt;
        line = record {
          span = tt;
          number = tt;
          given = tt;
          step = tt;
          short = tt;
          one_line = tt;
        };
        place =
            λ none failed. undecided_still c.args.self.now c.reads.self c.take_more.new.self judged same old.within
            more.took.kept;
        bounded = stands_bounded c.args.self.now c.take_more.new.self same old.bounded;
        within = stands_within c.args.self.now c.take_more.new.self same old.within;
        last =
            last_still c.reads.self c.take_more.new.self more.same.line_ended more.took.still more.took.kept
            (subst IsLastEnded inside (last_ended _ _ _ c.self-in-reads.invariant.4 c.self-in-reads.invariant.5));
        end_seen = tt;
        stays_ended = λ ended. more.took.still ∙ (old.idle ended).1;
      };
      unmoved =
          λ other. record {
            passed = same.passed;
            number = same.number;
            given = same.given;
            line_ended = same.line_ended;
            rest = sym (old.rest ∙ more.took.rest);
          };
    }

pub reads-preserved : goal.reads-preserved
reads-preserved g c =
    let old = c.reads.invariant in
    let inside = c.self-in-reads.view_is in
    let more = c.in-Ok.ensures in
    let seen : c.kept-scanned.result.now ≡ c.reads.self.kept = c.kept-scanned.ensures ∙ ap (λ s. s.kept) inside in
    let judged =
    judged_in c.args.self.now c.reads.self _ _ _ c.self-in-reads.inside.window.kept c.kept.result.now Open old.same
    (ap (λ s. s.line_limit) inside) (ap (λ s. s.input) inside) (ap (λ s. s.passed) inside) (ap (λ s. s.kept) inside)
    c.kept.ensures c.in-Open.ensures in
    let later = position_or_len-grown _ _ more.took.front in
    record {
      fresh = old.fresh;
      within = old.within;
      bounded = old.bounded;
      fault = more.took.fault ∙ old.fault;
      same = stands_on old.same more.same;
      rest = old.rest ∙ more.took.rest;
      scanned = front_within _ _ _ (ap length seen) more.took.front;
      known = seen_within _ _ _ _ (ap length seen) judged.0 later;
      files = more.store.files ∙ old.files;
      current = more.store.current ∙ old.current;
      opens = more.store.opens ∙ old.opens;
      faults = more.took.sound ∙ old.faults;
      ended = more.took.end;
      waited =
          λ decided. absurd
          (decided
          (undecided_still c.args.self.now c.reads.self c.args.self.now judged (stands_still c.args.self.now)
          old.within (sym (old.waited decided).1)));
      idle = λ ended. absurd (false≢true (sym c.if-self.false ∙ ap (λ s. s.ended) inside ∙ (old.idle ended).1));
    }

pub returns-then-self-clause-next : goal.returns-then-self-clause-next
returns-then-self-clause-next g c = λ empty rest told.
    let old = c.reads.invariant in
    let inside = c.self-in-reads.view_is in
    let judged =
    judged_in c.args.self.now c.reads.self _ _ _ c.self-in-reads.inside.window.kept c.kept.result.now Open old.same
    (ap (λ s. s.line_limit) inside) (ap (λ s. s.input) inside) (ap (λ s. s.passed) inside) (ap (λ s. s.kept) inside)
    c.kept.ensures c.in-Open.ensures in
    let told_as = told_rest _ _ _ (sym old.rest ∙ told) in
    let seen : c.kept-scanned.result.now ≡ c.reads.self.kept = c.kept-scanned.ensures ∙ ap (λ s. s.kept) inside in
    let ended : c.reads.self.ended ≡ true = sym (ap (λ s. s.ended) inside) ∙ c.if-self.true in
    let some : IsSome c.give_last.result ↔ (0 < length c.reads.self.kept) =
    subst (λ (l : List ℕ). IsSome c.give_last.result ↔ (0 < length l)) seen c.give_last.ensures.some in
    let kept : c.kept.result.now ≡ c.reads.self.kept = c.kept.ensures ∙ ap (λ s. s.kept) c.self-in-reads.view_is in
    let none : position_or_len is_line_feed c.reads.self.kept ≡ length c.reads.self.kept =
    sym (ap (position_or_len is_line_feed) kept) ∙ c.in-Open.ensures.0 ∙ ap length kept in
    let end = c.reads.invariant.ended ended told_as.0 told_as.1 in
    let passed : c.give_last.new.self.passed ≡ c.args.self.now.passed + length c.reads.self.kept =
    omega (arith, c.give_last.ensures.passed, c.reads.invariant.same.passed, ap length seen) in
    record {
      answer =
          last_answer _ _ _ c.reads.self.kept told_as.0 rest c.give_last.result judged old.within told_as.2
          (old.ended ended told_as.0 told_as.1) some;
      line =
          last_given _ _ c.reads.self.kept told_as.0 _ _ _ c.give_last.result _ told_as.1 none told_as.2 end some
          c.give_last.ensures.line c.give_last.ensures.kept passed;
      line_ended =
          rw (last_has_none c.reads.self.kept told_as.0 rest none told_as.2 end) c.give_last.ensures.line_ended;
    }

pub returns-then-self-clause-reader : goal.returns-then-self-clause-reader
returns-then-self-clause-reader g c =
    let old = c.reads.invariant in
    let inside = c.self-in-reads.view_is in
    let judged =
    judged_in c.args.self.now c.reads.self _ _ _ c.self-in-reads.inside.window.kept c.kept.result.now Open old.same
    (ap (λ s. s.line_limit) inside) (ap (λ s. s.input) inside) (ap (λ s. s.passed) inside) (ap (λ s. s.kept) inside)
    c.kept.ensures c.in-Open.ensures in
    let kept : c.kept.result.now ≡ c.reads.self.kept = c.kept.ensures ∙ ap (λ s. s.kept) c.self-in-reads.view_is in
    let none : position_or_len is_line_feed c.reads.self.kept ≡ length c.reads.self.kept =
    sym (ap (position_or_len is_line_feed) kept) ∙ c.in-Open.ensures.0 ∙ ap length kept in
    record {
      input = search rules;
      limit = search rules;
      kept_fault = search rules;
      no_fault = search rules;
      line = record {
        span = search rules;
        number = search rules;
        given = search rules;
        step = search rules;
        short =
            last_short c.give_last.result c.give_last.new.self.line c.reads.self.kept c.args.self.now.line_limit
            c.give_last.new.self.line_limit c.give_last.ensures.line judged.1
            (c.give_last.ensures.limit ∙ old.same.line_limit);
        one_line = last-one c.reads.self.kept _ c.give_last.result none c.give_last.ensures.line;
      };
      place = λ none failed. absurd (given_read _ failed);
      bounded = search rules;
      within =
          last_within c.args.self.now c.reads.self c.give_last.new.self (length c.kept-scanned.result.now) judged
          old.within old.same (ap length c.kept-scanned.ensures ∙ ap (λ s. length s.kept) inside)
          c.give_last.ensures.passed c.give_last.ensures.input;
      last = search rules;
      end_seen = search rules;
      stays_ended = search rules;
    }
