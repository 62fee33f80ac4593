use Rattle.std.proofs.Common.{ℕ, ◌^◌, ◌<◌, ◌≤◌, ◌≡◌, ◌++◌, List, length, take, Some, refl}
use Rattle.std.specs.Prelude.{All, decimal}
use Rattle.std.proofs.lemmas.List.Elements.{All-take}
use Rattle.hp_num.specs.ParsedDec.{parsed_dec}
use Rattle.hp_outside.specs.Lines.{lines_of}
use Rattle.hp_outside.specs.WholeLines.{IsLineText}
use Rattle.record_scripts.specs.Job.{Job}
use Rattle.record_book.specs.Spelled.{AreQuiet, spelled_by}
use Rattle.order_check.specs.FrontLaws.{TellsFront}
use Rattle.order_check.specs.Spelling.{IsSpelling}
use Rattle.order_check.proofs.SpelledFronts.{few-orders}
use Rattle.order_check.proofs.WholeLemmas.{front-is, is-front, lines-texts, only-whole, whole-is}
use Rattle.order_check.proofs.laws.front_laws.Goals as goal

tells-front : (job : Job) (lines : List (List ℕ)) → IsSpelling job → All IsLineText lines → TellsFront job lines
tells-front job lines spelling texts =
    (λ is. front-is job lines spelling texts is, λ front. is-front job lines spelling texts front)

pub returns : goal.returns
returns c = λ job few quiet.
    let spelling : IsSpelling job = record { few = few; quiet = quiet; reads = c.decimal_texts.ensures.reads_back } in
    record {
      fronts = λ lines texts. tells-front job lines spelling texts;
      first =
          λ bytes count. tells-front job (take count (lines_of bytes)) spelling
          (All-take IsLineText count (lines_of bytes) (lines-texts bytes));
      few =
          λ lines
          texts. (
            λ front. few-orders job lines spelling texts front,
            λ few. (spelled_by 0 lines ++ few.few, few.under, few.begins),
          );
      whole =
          λ bytes ended events text whole. whole-is job (lines_of bytes) ended events bytes spelling refl text whole;
      only = λ bytes ended cut recording. only-whole job (lines_of bytes) ended bytes spelling refl cut recording;
    }
