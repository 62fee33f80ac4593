-- What the two outputs hold, and the status, once an answer was delivered. An answer is delivered
-- where the status is its own and each output gained exactly its bytes; where a call failed, each
-- output gained a front of them.
use Rattle.std.specs.Prelude.{◌≡◌, ◌⊎◌, ℕ, List, Option}
use Rattle.std.specs.Io.KnownBytes.{append_known}
use Rattle.hp_outside.specs.Taken.{GainsFront}
use Rattle.command_frame.specs.Answer.{Answer}

-- the status is the answer's, standard output gained exactly its output, and standard error exactly its message
pub record Delivered (answer : Answer) (status : ℕ)
    (out_old out_new err_old err_new : Option (List ℕ)) : Type 0 where
  pub status_is : status ≡ answer.status
  pub output : out_new ≡ append_known out_old answer.output
  pub message : err_new ≡ append_known err_old answer.message

-- whatever failed, standard output gained a front of the answer's output, and standard error a front of its
-- message or, only where standard output's faults rose, of 'write failed'
pub record GainsFronts (write_failed : List ℕ) (answer : Answer) (out_rose err_rose : Type 0)
    (out_old out_new err_old err_new : Option (List ℕ)) : Type 0 where
  pub output : GainsFront out_old out_new answer.output
  pub message : GainsFront err_old err_new answer.message
      ⊎ (out_rose × GainsFront err_old err_new write_failed)
  pub output_whole : ¬ out_rose → out_new ≡ append_known out_old answer.output
  pub message_whole : ¬ err_rose
      → (err_new ≡ append_known err_old answer.message)
      ⊎ (out_rose × (err_new ≡ append_known err_old write_failed))
  pub write_failed_told : ¬ (out_new ≡ append_known out_old answer.output) → ¬ err_rose
      → err_new ≡ append_known err_old write_failed
