-- What an interpreter does with one line, for private clauses.
use Rattle.std.specs.Prelude.{◌≡◌, ◌≢◌, ◌||◌, ℕ, Bool, true, false, List, ◌++◌, Option, None, is_some, unwrap_or}
use Rattle.std.specs.Prelude.{Result, Ok, OnOk, IfErr}
use Rattle.std.specs.Global.{Vec}
use Rattle.std.specs.Option.{option_or}
use Rattle.ht_lines.specs.Content.{Content, raw_free_line}
use Rattle.ht_lines.specs.declared.item.Form.TheVariants.{Raw}
use Rattle.ht_lines.specs.Reading.{reading}
use Rattle.ht_trace.specs.FormContents.{version_in}
use Rattle.ht_trace.specs.declared.error.LineError.{LineError}
use Rattle.ht_trace.specs.declared.error.LineError.TheVariants.{NoMemory, TooMany}
use Rattle.ht_trace.specs.LineFault.{Tells}
use Rattle.ht_trace.specs.VersionLines.{may_stand_first}
use Rattle.interpret.specs.Interpreted.{lines_for, text_of}
use Rattle.interpret.specs.InterpreterState.{InterpreterState, info_after, info_at}
use Rattle.interpret.specs.RawContents.{IsRaw}
use Rattle.interpret.specs.RawFault.{content_fault, fault_in}
use Rattle.interpret.specs.RawTables.{tables_after}

-- the info of the block that a line frees
abbrev pub freed_at : List (ℕ × ℕ) → Content → Option ℕ
freed_at pointers (raw_free_line ptr) = info_at pointers ptr
freed_at pointers _ = None

-- what the line says has no fault, is added, and its lines stand at the end of what is written
pub record Takes (old new : InterpreterState) (line : List ℕ) (said : Content)
    (before after : List ℕ) : Type 0 where
  pub no_fault : content_fault old.symbols old.version old.tables said ≡ None
  pub symbols : new.symbols ≡ old.symbols
  pub version : new.version ≡ option_or old.version (version_in said)
  pub tables : new.tables ≡ tables_after old.symbols old.tables said
  pub pointers : (ptr : ℕ)
      → info_at new.pointers ptr ≡ info_after new.tables.infos said ptr (info_at old.pointers ptr)
  pub failed : new.failed ≡ old.failed
  pub lines : after ≡ before
      ++ text_of (lines_for old.symbols (unwrap_or old.version 1) old.tables new.tables
      (freed_at old.pointers said) line said)

-- the error is the fault of what the line says, unless memory was wanting; only a want of memory and a full table may
-- change anything
pub record Refuses (old new : InterpreterState) (said : Content) (error : LineError) : Type 0 where
  pub fault : Tells error (content_fault old.symbols old.version old.tables said)
  pub unchanged : error ≢ NoMemory → error ≢ TooMany → new ≡ old
  pub symbols : new.symbols ≡ old.symbols
  pub failed : new.failed ≡ old.failed

-- a call that takes what a line says, or refuses it
pub record TakesOrRefuses (old new : InterpreterState) (line : List ℕ) (said : Content)
    (before after : Vec ℕ) (result : Result (Unit {0}) LineError) : Type 0 where
  pub takes : OnOk result (Takes old new line said before.items after.items)
  pub refuses : IfErr result (λ error. Refuses old new said error)

-- one that does so whatever line says it
abbrev pub TakesSaid : InterpreterState → InterpreterState → Content → Vec ℕ → Vec ℕ
    → Result (Unit {0}) LineError → Type 0
TakesSaid old new said before after result = (line : List ℕ)
    → TakesOrRefuses old new line said before after result

-- and one that writes nothing, whatever was written
abbrev pub TakesSilent : InterpreterState → InterpreterState → Content
    → Result (Unit {0}) LineError → Type 0
TakesSilent old new said result = (out : Vec ℕ) → TakesSaid old new said out out result

-- a call that takes what a line says, or leaves it with all as it was
pub record TriesSaid (old new : InterpreterState) (said : Content) (before after : Vec ℕ)
    (is_taken : Bool) : Type 0 where
  pub taken : is_taken ≡ true → (line : List ℕ)
      → Takes old new line said before.items after.items
  pub untaken : is_taken ≡ false → new ≡ old
  pub unwritten : is_taken ≡ false → after.items ≡ before.items

-- the line may stand there, says something that can be read, and is taken
pub record HasRead (old new : InterpreterState) (line : List ℕ) (before after : List ℕ) : Type
    0 where
  pub said : Content
  pub may_stand : (is_some old.version || may_stand_first line) ≡ true
  pub read : reading Raw (unwrap_or old.version 1) line ≡ Ok said
  pub raw : IsRaw said
  pub takes : Takes old new line said before after

-- the error is the fault of the line, unless memory was wanting; only a want of memory and a full
-- table may change anything
pub record HasRefused (old new : InterpreterState) (line : List ℕ) (error : LineError) : Type
    0 where
  pub fault : Tells error (fault_in old.symbols old.version old.tables line)
  pub unchanged : error ≢ NoMemory → error ≢ TooMany → new ≡ old
  pub symbols : new.symbols ≡ old.symbols
  pub failed : new.failed ≡ old.failed
