use Rattle.std.proofs.Common.{ℕ, ◌≡◌, Bool, true, false, Ok, sym, ap, ◌∙◌, refl}
use Rattle.std.specs.Prelude.{◌||◌, is_some, unwrap_or}
use Rattle.std.proofs.lemmas.Result.{MatchResult-weaker}
use Rattle.ht_lines.specs.ItemContent.{content}
use Rattle.ht_lines.specs.declared.item.Form.TheVariants.{Raw}
use Rattle.ht_lines.specs.Reading.{reading}
use Rattle.ht_trace.specs.VersionLines.{may_stand_first}
use Rattle.interpret.specs.InterpreterState.{InterpreterState}
use Rattle.interpret.proofs.StandLemmas.{raw-writable}
use Rattle.interpret.proofs.interpreter.Interpreter.take_line.Goals as goal
use Rattle.interpret.proofs.interpreter.Interpreter.take_line.Goals.{else-is_none-via-then-is_none+else-not-may_stand_first}
use Rattle.interpret.proofs.interpreter.Interpreter.take_line.Goals.{else-is_none-via-else-is_none}

or-right : (a b : Bool) → b ≡ true → (a || b) ≡ true
or-right true b is = refl
or-right false b is = is

-- the line may stand where it stands
may_stand : (c : goal.After-take) → (is_some c.args.self.now.version || may_stand_first c.args.line.now) ≡ true
may_stand c =
    elim c.else-is_none.branch [
      | else-is_none-via-then-is_none+else-not-may_stand_first w ↦ or-right (is_some c.args.self.now.version)
          (may_stand_first c.args.line.now) (sym w.may_stand_first.ensures ∙ w.if-not-may_stand_first.false)
      | else-is_none-via-else-is_none w ↦ ap
          (λ (s : InterpreterState). is_some s.version || may_stand_first c.args.line.now) (sym c.self.view_is)
          ∙ ap (λ (versioned : Bool). versioned || may_stand_first c.args.line.now) w.if-is_none.ensures
    ]

-- what the line says in the file version so far
read_as : (c : goal.After-take)
    → reading Raw (unwrap_or c.args.self.now.version 1) c.args.line.now ≡ Ok (content c.in_ok-item.item)
read_as c =
    let version = c.unwrap_or.ensures ∙ ap (λ (s : InterpreterState). unwrap_or s.version 1) c.self.view_is in
    ap (λ (v : ℕ). reading Raw v c.args.line.now) (sym version) ∙ c.in_ok-item.ensures.exact

pub returns-clause-read : goal.returns-clause-read
returns-clause-read c =
    MatchResult-weaker c.take.result c.take.ensures.answers.takes
    (λ done takes. record {
      said = content c.in_ok-item.item;
      may_stand = may_stand c;
      read = read_as c;
      raw = raw-writable c.unwrap_or.result (content c.in_ok-item.item) c.in_ok-item.ensures.writable;
      takes = takes;
    })
    (λ error all. all)
