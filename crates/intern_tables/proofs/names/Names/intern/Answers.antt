use Rattle.std.proofs.Common.{ℕ, Some, length, refl, sym, ◌∙◌, ap, arith}
use Rattle.std.proofs.lemmas.Bool.{false≢true}
use Rattle.std.proofs.lemmas.List.{length_push}
use Rattle.intern_tables.specs.Keys.{names_of}
use Rattle.intern_tables.proofs.Tables.{Grows, grows-insert, length-names_of, repeats-present}
use Rattle.intern_tables.proofs.names.Names.intern.Goals as goal

pub returns-in-Some-clause-without_repeats : goal.returns-in-Some-clause-without_repeats
returns-in-Some-clause-without_repeats c =
    λ came same. repeats-present c.args.self.now came c.args.bytes.now (c.in-Some.ensures.found.0 refl) same

-- the names after a new one is inserted
grown : (c : goal.After-len) → Grows c.args.self.now c.args.bytes.now (names_of c.insert.new.self.keys)
grown c =
    grows-insert c.self.inside.names.keys c.insert.new.self.keys c.args.self.now c.in_ok-name.name c.args.bytes.now
    c.self.view_is c.find.ensures.distinct (λ held. false≢true (c.in_default.ensures.found.1 held))
    c.in_ok-name.ensures.items c.in_ok-insert.ensures.keys

pub invariant_of-self-2 : goal.invariant_of-self-2
invariant_of-self-2 c = let new = grown c in record { distinct = new.distinct; few = omega arith }

pub returns : goal.returns
returns c =
    let new = grown c in
    let len = length-names_of c.insert.new.self.keys in
    record {
      present = rw new.none tt;
      added = rw new.none new.appended;
      unchanged = tt;
      number = new.number ∙ ap (λ (n : ℕ). Some n) (len ∙ sym c.len.ensures.len);
      name = rw (c.len.ensures.len, ← len) new.name;
      within = (
        omega (arith, c.len.ensures.len, ap length new.appended, length_push c.args.self.now c.args.bytes.now),
        omega (arith, c.len.ensures.len),
      );
      names_stay = new.stay;
      numbers_stay = new.numbers;
      none_lost = new.none_lost;
      one_more = new.one_more;
      distinct = new.distinct;
      without_repeats = new.repeats;
    }
