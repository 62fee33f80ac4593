-- The value of a document's bytes.
use Rattle.std.proofs.Common.{◌≡◌, ℕ, List, Bool, true, false, cond, Option, Some, None, Result, Ok, Err, refl, ap, ◌∙◌}
use Rattle.std.specs.Prelude.{IsUtf8, IfOk}
use Rattle.std.specs.Str.{is_utf8}
use Rattle.std.proofs.lemmas.Str.{is_utf8-from_IsUtf8, IsUtf8-from_is_utf8}
use Rattle.serde_json.specs.Data.{Data}
use Rattle.serde_json.specs.Read.{read}
use Rattle.dhat_json.specs.declared.fault.DhatFault.{DhatFault}
use Rattle.dhat_json.specs.declared.fault.DhatFault.TheVariants.{NotJson}
use Rattle.dhat_json.specs.declared.profile.Dhat.{Dhat}
use Rattle.dhat_json.specs.Document.{value_of, dhat_in, dhat_in_some, document_of, IsDocument}
use Rattle.dhat_json.specs.IsSound.{HasTexts, IsWritable}
use Rattle.dhat_json.specs.Reads.{Answers}
use Rattle.dhat_json.proofs.Says.{taken_says}
use Rattle.dhat_json.proofs.Taken.{is_taken, is_sound}

pub value_is : (bytes : List ℕ) (d : Data) → IsUtf8 bytes → read bytes ≡ Some d → value_of bytes ≡ Some d
value_is bytes d utf8 e = rw (is_utf8-from_IsUtf8 bytes utf8, e) refl

pub document_is : (bytes : List ℕ) (d : Data) → value_of bytes ≡ Some d → document_of bytes ≡ dhat_in d
unfolding document_of
document_is bytes d e = ap dhat_in_some e

-- the profile of bytes that are UTF-8 is that of the text
pub text_document : (bytes : List ℕ) → IsUtf8 bytes → document_of bytes ≡ dhat_in_some (read bytes)
unfolding document_of
text_document bytes utf8 = rw (is_utf8-from_IsUtf8 bytes utf8) refl

pub no_text : (bytes : List ℕ) → (IsUtf8 bytes → ⊥) → document_of bytes ≡ Err NotJson
unfolding document_of
no_text bytes h = at (is_utf8 bytes) refl
  where
    at : (b : Bool) → is_utf8 bytes ≡ b → dhat_in_some (cond b (read bytes) None) ≡ Err NotJson
    at true e = absurd (h (IsUtf8-from_is_utf8 bytes e))
    at false e = refl

pub document_says : (bytes : List ℕ) (d : Dhat) → document_of bytes ≡ Ok d → IsDocument bytes d
unfolding document_of
document_says bytes d e = at (value_of bytes) refl e
  where
    at : (o : Option Data) → value_of bytes ≡ o → dhat_in_some o ≡ Ok d → IsDocument bytes d
    at None read e = absurd cc
    at (Some v) read e = record { value = v; read = read; says = taken_says v d e }

pub document_read : (bytes : List ℕ) (d : Dhat) → IsDocument bytes d → document_of bytes ≡ Ok d
document_read bytes d h = document_is bytes h.value h.read ∙ is_taken h.value d h.says

-- ---- what a call answers of a document

pub says_it : (bytes : List ℕ) (r : Result Dhat DhatFault) → Answers r (document_of bytes)
    → IfOk r (λ d. IsDocument bytes d)
says_it bytes (Ok d) h = document_says bytes d h
says_it bytes (Err fault) h = tt

pub writable : (bytes : List ℕ) (r : Result Dhat DhatFault) → Answers r (document_of bytes) → IfOk r HasTexts
    → IfOk r IsWritable
writable bytes (Ok d) h texts =
    let document = document_says bytes d h in record { sound = is_sound document.value d document.says; texts = texts }
writable bytes (Err fault) h texts = tt
