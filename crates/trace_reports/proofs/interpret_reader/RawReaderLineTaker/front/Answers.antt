use Rattle.std.proofs.Common.{◌≡◌, ℕ, List, [], ◌∷◌, ◌++◌, Option, Some, None, IfSome, IfNone, ap, sym, subst, refl}
use Rattle.std.proofs.Common.{arith}
use Rattle.std.specs.Option.{option_map}
use Rattle.command_frame.specs.Batch.{HasGivenLine, TakesFirst}
use Rattle.interpret.specs.InterpreterState.{InterpreterState, StandsFor}
use Rattle.interpret.specs.SymbolLine.{Symbol}
use Rattle.interpret.specs.TakesFront.{TakesFront}
use Rattle.trace_reading.specs.declared.fault.TraceFault.TheVariants.{Line}
use Rattle.trace_reading.specs.TraceFault.{told}
use Rattle.trace_reports.specs.InterpretReport.{interpret_report}
use Rattle.trace_reports.proofs.interpret_reader.RawReaderLineTaker.front.Goals as goal

-- a line that an interpreter takes is taken
line_taken : (symbols : List Symbol) (old new : InterpreterState) (ready : List ℕ) (bytes : ℕ) (before after : List ℕ)
    → TakesFront old new ready bytes before after → old.symbols ≡ symbols → new.symbols ≡ symbols
    → HasGivenLine (interpret_report symbols) (StandsFor old old.symbols) (StandsFor new new.symbols) ready bytes before
    after
line_taken symbols old new ready bytes before after front was is = record {
  line = front.line;
  one_line = front.one_line;
  short = omega (arith, front.short);
  rest = front.rest;
  split = front.split;
  size = front.size;
  no_fault =
      λ earlier has. ap (option_map (λ error. told (Line error)))
      (front.adds.no_fault symbols earlier (subst (λ s. StandsFor old s earlier) was has));
  gained = λ earlier has. front.adds.lines symbols earlier (subst (λ s. StandsFor old s earlier) was has);
  taken =
      λ earlier has. subst (λ s. StandsFor new s (earlier ++ front.line ∷ [])) (sym is)
      (front.adds.stands symbols earlier (subst (λ s. StandsFor old s earlier) was has));
}

-- and so is the answer, whether or not it takes one
first_taken : (symbols : List Symbol) (old new : InterpreterState) (ready : List ℕ) (before after : List ℕ)
    (answer : Option ℕ)
    → old.symbols ≡ symbols → new.symbols ≡ symbols
    → IfSome answer (λ bytes. TakesFront old new ready bytes before after) → IfNone answer (new ≡ old)
    → IfNone answer (after ≡ before)
    → TakesFirst (interpret_report symbols) (StandsFor old old.symbols) (StandsFor new new.symbols) ready before after
    answer
first_taken symbols old new ready before after (Some bytes) was is front same unwritten =
    line_taken symbols old new ready bytes before after front was is
first_taken symbols old new ready before after None was is front same unwritten = record {
  kept = λ lines has. subst (λ (state : InterpreterState). StandsFor state state.symbols lines) (sym same) has;
  same = unwritten;
}

pub returns-clause-taken : goal.returns-clause-taken
returns-clause-taken c =
    let taken = c.take_front.ensures in
    first_taken c.args.self.now.interpreter.symbols c.args.self.now.interpreter c.take_front.new.self c.args.ready.now
    c.args.output.now.items c.take_front.new.out.items c.take_front.result refl taken.symbols
    taken.taken taken.untaken taken.unwritten
