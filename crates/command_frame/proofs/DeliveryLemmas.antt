-- What two outputs gained, seen later or from earlier on.
use Rattle.std.proofs.Common.{◌≡◌, ℕ, ◌+◌, List, ◌++◌, length, take, Option, ap, sym, ◌∙◌, inl, inr}
use Rattle.std.proofs.Math.Seq.{take-append-add}
use Rattle.std.specs.Io.KnownBytes.{append_known}
use Rattle.command_frame.specs.Answer.{Answer, after}
use Rattle.command_frame.specs.Delivery.{GainsFronts}
use Rattle.command_frame.proofs.OutputLemmas.{append_further}

-- where the outputs took nothing more, and faults that rose have risen
pub fronts_later : {write_failed : List ℕ} {answer : Answer} {out_rose out_rises err_rose err_rises : Type 0} {out_old
    out_new out_last err_old err_new err_last : Option (List ℕ)}
    → (out_rose → out_rises) → (err_rose → err_rises) → out_last ≡ out_new → err_last ≡ err_new
    → GainsFronts write_failed answer out_rose err_rose out_old out_new err_old err_new
    → GainsFronts write_failed answer out_rises err_rises out_old out_last err_old err_last
fronts_later {write_failed} {answer} {out_rose} {out_rises} {err_rose} {err_rises} {out_old} {out_new} {out_last}
    {err_old} {err_new} {err_last}
    out_later err_later out_same err_same fronts = record {
      output = (fronts.output.0, out_same ∙ fronts.output.1);
      message = elim fronts.message [
        | inl own ↦ inl (own.0, err_same ∙ own.1)
        | inr failed ↦ inr (out_later failed.0, (failed.1.0, err_same ∙ failed.1.1))
      ];
      output_whole = λ quiet. out_same ∙ fronts.output_whole (λ rose. quiet (out_later rose));
      message_whole = λ quiet. elim (fronts.message_whole (λ rose. quiet (err_later rose))) [
        | inl own ↦ inl (err_same ∙ own)
        | inr failed ↦ inr (out_later failed.0, err_same ∙ failed.1)
      ];
      write_failed_told =
          λ lacks quiet. err_same
          ∙ fronts.write_failed_told (λ whole. lacks (out_same ∙ whole)) (λ rose. quiet (err_later rose));
    }

-- where standard output had gained bytes before
pub fronts_behind : (write_failed early : List ℕ)
    (answer : Answer) {out_rose err_rose : Type 0} {out_old out_mid out_new err_old err_new : Option (List ℕ)}
    → out_mid ≡ append_known out_old early
    → GainsFronts write_failed answer out_rose err_rose out_mid out_new err_old err_new
    → GainsFronts write_failed (after early answer) out_rose err_rose out_old out_new err_old err_new
fronts_behind write_failed early answer {out_rose} {err_rose} {out_old} {out_mid} {out_new} {err_old} {err_new} gained
    fronts = record {
      output = (
        length early + fronts.output.0,
        fronts.output.1 ∙ (ap (λ o. append_known o (take fronts.output.0 answer.output)) gained
            ∙ (append_further out_old early (take fronts.output.0 answer.output)
            ∙ ap (append_known out_old) (sym (take-append-add early answer.output fronts.output.0)))),
      );
      message = fronts.message;
      output_whole = λ quiet. fronts.output_whole quiet ∙ whole;
      message_whole = fronts.message_whole;
      write_failed_told = λ lacks quiet. fronts.write_failed_told (λ all. lacks (all ∙ whole)) quiet;
    }
  where
    whole : append_known out_mid answer.output ≡ append_known out_old (early ++ answer.output)
    whole = ap (λ o. append_known o answer.output) gained ∙ append_further out_old early answer.output
