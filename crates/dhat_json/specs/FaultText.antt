-- What the faults of a document are called, and what is told of them. What a fault is called, and
-- what is told of it: its point, its key and its frame.
use Rattle.std.specs.Prelude.{ℕ, List, [], ◌++◌, codes, decimal, Option, Some, None}
use Rattle.dhat_json.specs.declared.fault.DhatFault.{DhatFault}
use Rattle.dhat_json.specs.declared.fault.DhatFault.TheVariants.{NotJson, WrongFileVersion, MissingKey, WrongKind}
use Rattle.dhat_json.specs.declared.fault.DhatFault.TheVariants.{FrameOutOfTable, TooMany, NoMemory}
use Rattle.dhat_json.specs.declared.key.Key.{Key}
use Rattle.dhat_json.specs.KeyName.{key_name}

abbrev pub fault_text : DhatFault → List ℕ
fault_text NotJson = codes "not JSON"
fault_text WrongFileVersion = codes "file version not 2"
fault_text (MissingKey point key) = codes "missing key"
fault_text (WrongKind point key) = codes "wrong kind of"
fault_text (FrameOutOfTable point frame) = codes "out of table"
fault_text TooMany = codes "table full"
fault_text NoMemory = codes "out of memory"

-- the point of a fault, where it has one
abbrev pub point_text : Option ℕ → List ℕ
point_text None = []
point_text (Some point) = codes "point " ++ (decimal point ++ codes ": ")

-- which frame it is
abbrev pub frame_text : ℕ → List ℕ
frame_text frame = codes "frame " ++ (decimal frame ++ codes " ")

-- what is told of a key with this fault's text, of a point or not; and of a frame
abbrev pub key_message : Option ℕ → List ℕ → Key → List ℕ
key_message point text key = point_text point ++ (text ++ (codes " " ++ key_name key))

abbrev pub frame_message : ℕ → ℕ → List ℕ → List ℕ
frame_message point frame text = point_text (Some point) ++ (frame_text frame ++ text)

-- what is told of a fault with this text: before it its point, where it has one, and its frame, and behind it its key
abbrev pub message_with : List ℕ → DhatFault → List ℕ
message_with text (MissingKey point key) = key_message point text key
message_with text (WrongKind point key) = key_message point text key
message_with text (FrameOutOfTable point frame) = frame_message point frame text
message_with text fault = text

abbrev pub fault_message : DhatFault → List ℕ
fault_message fault = message_with (fault_text fault) fault
