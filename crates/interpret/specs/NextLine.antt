-- What an interpreter does with a line behind all that it stands for, and with one at the front of
-- bytes.
use Rattle.std.specs.Prelude.{◌≡◌, ◌≢◌, ℕ, List, [], ◌∷◌, ◌++◌, None, Some}
use Rattle.ht_trace.specs.declared.error.LineError.{LineError}
use Rattle.ht_trace.specs.declared.error.LineError.TheVariants.{NoMemory, TooMany}
use Rattle.ht_trace.specs.LineFault.{Tells}
use Rattle.interpret.specs.Interpreted.{interpreted_lines, text_of}
use Rattle.interpret.specs.InterpreterState.{InterpreterState, OfItsLines, StandsFor}
use Rattle.interpret.specs.RawContents.{contents}
use Rattle.interpret.specs.RawFault.{raw_fault}
use Rattle.interpret.specs.RawLedger.{KeepsLedger}

-- the line has no fault, its lines stand at the end of what is written, and the interpreter stands for it too
pub record AddsLine (old new : InterpreterState) (line before after : List ℕ) : Type 0 where
  pub no_fault : OfItsLines old (λ symbols lines. raw_fault symbols lines line ≡ None)
  pub lines : OfItsLines old (λ symbols lines.
      after ≡ before ++ text_of (interpreted_lines symbols lines line))
  pub stands : OfItsLines old (λ symbols lines. StandsFor new symbols (lines ++ line ∷ []))
  -- at each node the live blocks of the raw trace are those that the events of the interpreted lines leave
  pub ledger : OfItsLines old (λ symbols lines.
      KeepsLedger symbols (contents (lines ++ line ∷ [])))

-- the error is the fault of the line, unless memory was wanting. After a want of memory and a full
-- table it stays, and after every other error the interpreter is as it was
pub record RefusesLine (old new : InterpreterState) (line : List ℕ) (error : LineError) : Type
    0 where
  pub fault : OfItsLines old (λ symbols lines. Tells error (raw_fault symbols lines line))
  pub no_memory : error ≡ NoMemory → new.failed ≡ Some NoMemory
  pub too_many : error ≡ TooMany → new.failed ≡ Some TooMany
  pub unchanged : error ≢ NoMemory → error ≢ TooMany → new ≡ old
