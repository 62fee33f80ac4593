use Rattle.std.proofs.Common.{◌≡◌, ◌∙◌, List, ℕ, inl, inr, length, take, refl, sym, ap, subst, rules}
use Rattle.std.proofs.lemmas.Bool.{false≢true}
use Rattle.std.specs.Io.KnownBytes.{prepend_known}
use Rattle.hp_outside.proofs.ReaderLemmas.{kept_whole, left_at_end, longer_by}
use Rattle.hp_outside.proofs.line_reader.LineReader.take_more.Goals as goal

pub returns-in-Ok-eq0 : goal.returns-in-Ok-eq0
returns-in-Ok-eq0 g c =
    let inside = c.self.view_is in
    let fill = c.in-Ok-eq0.ensures in
    record {
      store = record {
        files = fill.store.files;
        current = fill.store.current;
        opens = fill.store.opens;
        faults = fill.store.faults;
      };
      same = record {
        input = ap (λ s. s.input) inside;
        line_limit = ap (λ s. s.line_limit) inside;
        passed = ap (λ s. s.passed) inside;
        number = ap (λ s. s.number) inside;
        given = ap (λ s. s.given) inside;
        line_ended = ap (λ s. s.line_ended) inside;
      };
      took = record {
        rest = ap (λ s. prepend_known s.kept (g.S.Store.left c.args.store.now)) (sym inside) ∙ fill.filled.rest;
        front =
            subst (λ (kept : List ℕ). take (length kept) c.fill.new.self.kept ≡ kept) (ap (λ s. s.kept) inside)
            fill.filled.front;
        bounded = search rules;
        fault = ap (λ s. s.fault) inside;
        sound = fill.filled.sound;
        more = inl refl;
        end =
            λ ended. left_at_end _ _ _ _ c.in-Ok-eq0.field-0 c.in-Ok-eq0.field-0-test fill.filled.rest
            fill.filled.count.1
            (fill.filled.end c.in-Ok-eq0.field-0-test);
        end_kept =
            λ ended. kept_whole _ _ c.in-Ok-eq0.field-0 c.in-Ok-eq0.field-0-test fill.filled.front fill.filled.count.1
            ∙ ap (λ s. s.kept) inside;
        failed = tt;
        still = tt;
        kept = tt;
      };
    }

pub returns-in-Ok : goal.returns-in-Ok
returns-in-Ok g c =
    let inside = c.self.view_is in
    let fill = c.in-Ok.ensures in
    let unended = ap (λ s. s.ended) inside ∙ c.requires.more.ended in
    record {
      store = record {
        files = fill.store.files;
        current = fill.store.current;
        opens = fill.store.opens;
        faults = fill.store.faults;
      };
      same = record {
        input = ap (λ s. s.input) inside;
        line_limit = ap (λ s. s.line_limit) inside;
        passed = ap (λ s. s.passed) inside;
        number = ap (λ s. s.number) inside;
        given = ap (λ s. s.given) inside;
        line_ended = ap (λ s. s.line_ended) inside;
      };
      took = record {
        rest = ap (λ s. prepend_known s.kept (g.S.Store.left c.args.store.now)) (sym inside) ∙ fill.filled.rest;
        front =
            subst (λ (kept : List ℕ). take (length kept) c.fill.new.self.kept ≡ kept) (ap (λ s. s.kept) inside)
            fill.filled.front;
        bounded = search rules;
        fault = ap (λ s. s.fault) inside;
        sound = fill.filled.sound;
        more =
            inr (
              unended,
              longer_by _ _ _ c.in-Ok.field-0 (ap (λ s. length s.kept) inside) fill.filled.count.1
                  c.in-Ok.field-0-test.1,
            );
        end = λ ended. absurd (false≢true (sym unended ∙ ended));
        end_kept = λ ended. absurd (false≢true (sym unended ∙ ended));
        failed = tt;
        still = tt;
        kept = tt;
      };
    }

pub returns-in-Err : goal.returns-in-Err
returns-in-Err g c =
    let inside = c.self.view_is in
    let fill = c.in-Err.ensures in
    let after = c.refuse.ensures.after in
    let front : take (length c.args.self.now.kept) c.fill.new.self.kept ≡ c.args.self.now.kept =
    subst (λ (kept : List ℕ). take (length kept) c.fill.new.self.kept ≡ kept) (ap (λ s. s.kept) inside)
    fill.filled.front in
    record {
      store = record {
        files = fill.store.files;
        current = fill.store.current;
        opens = fill.store.opens;
        faults = fill.store.faults;
      };
      same = record {
        input = ap (λ s. s.input) after ∙ ap (λ s. s.input) inside;
        line_limit = ap (λ s. s.line_limit) after ∙ ap (λ s. s.line_limit) inside;
        passed = ap (λ s. s.passed) after ∙ ap (λ s. s.passed) inside;
        number = ap (λ s. s.number) after ∙ ap (λ s. s.number) inside;
        given = ap (λ s. s.given) after ∙ ap (λ s. s.given) inside;
        line_ended = ap (λ s. s.line_ended) after ∙ ap (λ s. s.line_ended) inside;
      };
      took = record {
        rest =
            ap (λ s. prepend_known s.kept (g.S.Store.left c.args.store.now)) (sym inside) ∙ fill.filled.rest
            ∙ ap (λ s. prepend_known s.kept (g.S.Store.left c.fill.new.store)) (sym after);
        front = ap (λ s. take (length c.args.self.now.kept) s.kept) after ∙ front;
        bounded = search rules;
        fault = ap (λ s. s.fault) after;
        sound = tt;
        more = tt;
        end = tt;
        end_kept = tt;
        failed = (c.refuse.ensures.result, fill.filled.failed);
        still = ap (λ s. s.ended) after ∙ ap (λ s. s.ended) inside;
        kept = ap (λ s. s.kept) after ∙ fill.filled.kept ∙ ap (λ s. s.kept) inside;
      };
    }
