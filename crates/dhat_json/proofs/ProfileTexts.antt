-- What the writer's tokens of a profile are as a text.
use Rattle.std.proofs.Common.{◌≡◌, ℕ, List, [], ◌++◌, Ok, ap, ◌∙◌, sym, subst}
use Rattle.std.specs.Prelude.{IsUtf8}
use Rattle.json.specs.Token.{Token}
use Rattle.json.specs.Lex.{tokens}
use Rattle.json.specs.Print.{print}
use Rattle.json.specs.Tree.{json_tokens}
use Rattle.serde_json.specs.Written.{outline}
use Rattle.serde_json.proofs.Texts.{print-outline}
use Rattle.dhat_json.specs.declared.profile.Dhat.{Dhat}
use Rattle.dhat_json.specs.Adds.{Fits}
use Rattle.dhat_json.specs.Begun.{IsTextOf}
use Rattle.dhat_json.specs.DhatValue.{dhat_value, dhat_text}
use Rattle.dhat_json.specs.Document.{document_of}
use Rattle.dhat_json.specs.IsSound.{IsSound}
use Rattle.dhat_json.proofs.Documents.{document_is, value_is}
use Rattle.dhat_json.proofs.KeyOrder.{value_in_order}
use Rattle.dhat_json.proofs.ReadAgain.{read_again}
use Rattle.dhat_json.proofs.RoundTrip.{value_says}
use Rattle.dhat_json.proofs.Taken.{is_taken}

pub text_written : (d : Dhat) (before : List ℕ) (ts : List Token) (text : List ℕ) → before ≡ []
    → ts ≡ json_tokens (outline (dhat_value d)) → text ≡ before ++ print ts → tokens (print ts) ≡ ts → IsUtf8 (print ts)
    → Fits (dhat_value d) → IsTextOf d text
unfolding dhat_text
text_written d before ts text none ts-is text-is same utf8 fit =
    let printed : text ≡ print ts = text-is ∙ ap (λ (b : List ℕ). b ++ print ts) none in record {
      same = printed ∙ ap print ts-is ∙ print-outline (dhat_value d);
      value =
          value_is text (dhat_value d) (subst IsUtf8 (sym printed) utf8)
          (read_again (dhat_value d) ts text ts-is (ap tokens printed ∙ same) fit (value_in_order 123 d));
    }

-- it is read again, where the profile is sound
pub text_reads_back : (d : Dhat) (text : List ℕ) → IsTextOf d text → IsSound d → document_of text ≡ Ok d
text_reads_back d text is sound =
    document_is text (dhat_value d) is.value ∙ is_taken (dhat_value d) d (value_says d sound)
