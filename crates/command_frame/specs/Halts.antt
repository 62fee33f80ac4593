-- The text and the status of each end of a run; what is yet to be delivered, as an answer.
use Rattle.std.specs.Prelude.{ℕ, List}
use Rattle.command_frame.specs.declared.halt.Halt.{Halt}
use Rattle.command_frame.specs.declared.halt.Message.{Message}
use Rattle.command_frame.specs.declared.halt.Message.TheVariants.{Usage, OutOfMemory, WriteFailed, Fault}
use Rattle.command_frame.specs.declared.halt.Status.{Status}
use Rattle.command_frame.specs.declared.halt.Status.TheVariants as status
use Rattle.command_frame.specs.Texts.{Texts}
use Rattle.command_frame.specs.Answer.{Answer, refused}

abbrev pub message_bytes : Texts → Message → List ℕ
message_bytes texts Usage = texts.usage
message_bytes texts OutOfMemory = texts.out_of_memory
message_bytes texts WriteFailed = texts.write_failed
message_bytes texts (Fault text) = text.items

-- the number of each status
abbrev pub status_code : Status → ℕ
status_code status.Malformed = 1
status_code status.Usage = 2
status_code status.Unreadable = 3
status_code status.Unwritten = 4
status_code status.NoMemory = 5
status_code status.PastLimit = 6

-- a run that isn't done has no more output
abbrev pub halt_answer : Texts → Halt → Answer
halt_answer texts halt = refused (message_bytes texts halt.message) (status_code halt.status)
