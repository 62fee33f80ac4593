-- The bytes of a document have a JSON value where they are UTF-8 and JSON; their profile, or their
-- one fault, is that of the value.
use Rattle.std.specs.Prelude.{◌≡◌, ℕ, List, if◌then◌else◌, Option, Some, None, Result, Ok, Err}
use Rattle.std.specs.Str.{is_utf8}
use Rattle.serde_json.specs.Data.{Data}
use Rattle.serde_json.specs.Read.{read}
use Rattle.dhat_json.specs.declared.fault.DhatFault.{DhatFault}
use Rattle.dhat_json.specs.declared.fault.DhatFault.TheVariants.{NotJson}
use Rattle.dhat_json.specs.declared.profile.Dhat.{Dhat}
use Rattle.dhat_json.specs.DhatFault.{dhat_fault}
use Rattle.dhat_json.specs.ProfileIn.{profile_in}
use Rattle.dhat_json.specs.IsDhat.{is_dhat}

-- the JSON value of the bytes, where they have one: they are UTF-8 and JSON that nests at most 127 deep
abbrev pub value_of : List ℕ → Option Data
value_of bytes = if is_utf8 bytes then read bytes else None

abbrev pub unless_fault : Option DhatFault → Dhat → Result Dhat DhatFault
unless_fault None dhat = Ok dhat
unless_fault (Some fault) dhat = Err fault

-- the profile of a value, or its first fault
unfoldable pub dhat_in : Data → Result Dhat DhatFault
dhat_in value = unless_fault (dhat_fault value) (profile_in value)

abbrev pub dhat_in_some : Option Data → Result Dhat DhatFault
dhat_in_some None = Err NotJson
dhat_in_some (Some value) = dhat_in value

-- the profile of a document, or its first fault
unfoldable pub document_of : List ℕ → Result Dhat DhatFault
document_of bytes = dhat_in_some (value_of bytes)

-- the document says the profile
pub record IsDocument (bytes : List ℕ) (dhat : Dhat) : Type 0 where
  pub value : Data
  pub read : value_of bytes ≡ Some value
  pub says : is_dhat value dhat
