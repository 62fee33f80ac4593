-- What delivering an answer does to both outputs, standard output having gained bytes before or
-- not.
use Rattle.std.specs.Prelude.{◌≡◌, ◌≢◌, ◌≤◌, ℕ, List, Some, OnErr, OnOk, Result}
use Rattle.std.specs.Io.KnownBytes.{append_known}
use Rattle.hp_outside.specs.declared.sink.Sink as sink
use Rattle.hp_outside.specs.Faults.{Faulted}
use Rattle.hp_outside.specs.Taken.{GainsFront}
use Rattle.command_frame.specs.declared.halt.Halt.{Halt}
use Rattle.command_frame.specs.declared.texts.ProgramTexts.{ProgramTexts}
use Rattle.command_frame.specs.Answer.{Answer}
use Rattle.command_frame.specs.Delivery.{Delivered, GainsFronts}
use Rattle.command_frame.specs.RunsTo.{Taken, answer_of, taken}
use Rattle.command_frame.specs.Texts.{texts_of}

pub record DeliversTo (write_failed : List ℕ) (given : Answer) (status : ℕ)
    (out_old out_new err_old err_new : Taken)
    : Type 0 where
  -- whole, unless the status is 4
  pub whole : status ≢ 4
      → Delivered given status out_old.written out_new.written err_old.written err_new.written
  pub fronts : GainsFronts write_failed given (Faulted out_old.faults out_new.faults)
      (Faulted err_old.faults err_new.faults)
      out_old.written out_new.written err_old.written err_new.written
  pub own_message : (bytes : List ℕ) → out_old.written ≡ Some bytes
      → out_new.written ≡ append_known out_old.written given.output
      → GainsFront err_old.written err_new.written given.message
  -- status 4 is the answer's, or an output failed
  pub kept : given.status ≡ 4 → status ≡ 4
  pub cause : status ≡ 4 → given.status ≢ 4 → ¬ Faulted out_old.faults out_new.faults
      → Faulted err_old.faults err_new.faults
  pub out_sound : status ≢ 4 → out_new.faults ≡ out_old.faults
  pub err_sound : status ≢ 4 → err_new.faults ≡ err_old.faults
  pub out_faults : out_old.faults ≤ out_new.faults

abbrev pub Delivers : {O E : Type 0} → sink.Ghosts O → sink.Ghosts E → List ℕ → Answer → ℕ → O → O
    → E → E → Type 0
Delivers o e write_failed given status out_old out_new err_old err_new =
    DeliversTo write_failed given status (taken o out_old) (taken o out_new) (taken e err_old)
    (taken e err_new)

-- the same of what a run gave, and of an output, a message and a status
abbrev pub DeliversRun : {O E R : Type 0} → sink.Ghosts O → sink.Ghosts E → (R → List ℕ)
    → ProgramTexts → Result R Halt → ℕ → O → O → E → E → Type 0
DeliversRun o e bytes texts ran status out_old out_new err_old err_new =
    Delivers o e texts.write_failed.now (answer_of bytes (texts_of texts) ran) status
    out_old out_new err_old err_new

abbrev pub DeliversParts : {O E : Type 0} → sink.Ghosts O → sink.Ghosts E → List ℕ → List ℕ → List ℕ
    → ℕ → ℕ → O → O → E → E → Type 0
DeliversParts o e write_failed output message status result out_old out_new err_old err_new =
    Delivers o e write_failed
    (record { output = output; message = message; status = status }) result
    out_old out_new err_old err_new

-- an output and a message were written, or what was taken of them and of 'write failed'
pub record WritesBoth {O E F : Type 0} (o : sink.Ghosts O) (e : sink.Ghosts E)
    (write_failed output message : List ℕ) (out_old out_new : O) (err_old err_new : E)
    (result : Result (Unit {0}) F) : Type 0 where
  pub output_whole : OnOk result (o.written out_new ≡ append_known (o.written out_old) output)
  pub message_whole : OnOk result (e.written err_new ≡ append_known (e.written err_old) message)
  pub fronts : (status : ℕ)
      → GainsFronts write_failed (record { output = output; message = message; status = status })
      (Faulted (o.faults out_old) (o.faults out_new)) (Faulted (e.faults err_old) (e.faults err_new))
      (o.written out_old) (o.written out_new) (e.written err_old) (e.written err_new)
  pub own_message : (bytes : List ℕ) → o.written out_old ≡ Some bytes
      → o.written out_new ≡ append_known (o.written out_old) output
      → GainsFront (e.written err_old) (e.written err_new) message
  pub out_faults : o.faults out_old ≤ o.faults out_new
  pub err_faults : e.faults err_old ≤ e.faults err_new
  pub out_sound : OnOk result (o.faults out_new ≡ o.faults out_old)
  pub err_sound : OnOk result (e.faults err_new ≡ e.faults err_old)
  pub cause : OnErr result (¬ Faulted (o.faults out_old) (o.faults out_new)
      → Faulted (e.faults err_old) (e.faults err_new))
