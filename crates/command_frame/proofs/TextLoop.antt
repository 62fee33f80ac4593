-- Writing a text while it is made.
use Rattle.std.proofs.Common.{◌≡◌, ℕ, List, [], ◌++◌, length, take, drop, Option, refl, ap, ap₂, sym, ◌∙◌, inl, inr}
use Rattle.std.proofs.Common.{append-nil, append_assoc}
use Rattle.std.proofs.lemmas.List.{take-append-drop}
use Rattle.std.proofs.Math.Seq.{take-append_seam}
use Rattle.std.specs.Io.KnownBytes.{append_known}
use Rattle.hp_outside.specs.Folder.{Folder}
use Rattle.hp_outside.specs.Taken.{GainsFront}
use Rattle.command_frame.specs.Answer.{Answer, after, done, memory_answer, write_answer}
use Rattle.command_frame.specs.FirstFault.{Bounds}
use Rattle.command_frame.specs.Moment.{Moment}
use Rattle.command_frame.specs.Plan.{Pieces}
use Rattle.command_frame.specs.Run.{RanTo}
use Rattle.command_frame.specs.Texts.{Texts}
use Rattle.command_frame.proofs.OutputLemmas.{append_further, append_nothing}

-- what was written, what is kept back and what is yet to be made are the text
pub record Making (old now : Option (List ℕ)) (kept_back rest text : List ℕ) : Type 0 where
  pub early : List ℕ
  pub written : now ≡ append_known old early
  pub all : early ++ (kept_back ++ rest) ≡ text

pub nothing_made : (old : Option (List ℕ)) (kept_back text : List ℕ) → kept_back ≡ []
    → Making old old kept_back text text
nothing_made old kept_back text none =
    record { early = []; written = sym (append_nothing old); all = ap (λ bytes. bytes ++ text) none }

-- a piece was made, and nothing was written
pub kept_piece : {old now : Option (List ℕ)} {kept_back added rest more text : List ℕ}
    → Making old now kept_back rest text → added ++ more ≡ kept_back ++ rest → Making old now added more text
kept_piece {old} {now} {kept_back} {added} {rest} {more} {text} before made =
    record {
      early = before.early;
      written = before.written;
      all = ap (λ bytes. before.early ++ bytes) made ∙ before.all;
    }

-- a piece was made, and some of what is kept back was written
pub piece_made : {old now new : Option (List ℕ)} {kept_back added kept rest more text : List ℕ}
    → Making old now kept_back rest text → added ++ more ≡ kept_back ++ rest → (early : List ℕ)
    → new ≡ append_known now early
    → early ++ kept ≡ added → Making old new kept more text
piece_made {old} {now} {new} {kept_back} {added} {kept} {rest} {more} {text} before made early passed_on all = record {
  early = before.early ++ early;
  written = passed_on ∙ (ap (λ known. append_known known early) before.written ∙ append_further old before.early early);
  all = append_assoc before.early early (kept ++ more)
      ∙ (ap (λ bytes. before.early ++ bytes)
      (sym (append_assoc early kept more) ∙ (ap (λ bytes. bytes ++ more) all ∙ made))
      ∙ before.all);
}

module _ (texts : Texts) (bounds : Bounds) (files : Option Folder) (last : List ℕ) (now : Moment) where
  -- all was made
  pub all_made : (old out : Option (List ℕ)) (kept_back rest text : List ℕ) → Making old out kept_back rest text
      → rest ≡ [] → RanTo texts bounds files last [] (Pieces text) now now old out (done kept_back)
  all_made old out kept_back rest text making none = (
    making.early,
    (
      making.written,
      (
        refl,
        inl (ap done
            (sym (append-nil (making.early ++ kept_back))
            ∙ (append_assoc making.early kept_back []
            ∙ (ap (λ bytes. making.early ++ (kept_back ++ bytes)) (sym none) ∙ making.all)))),
      ),
    ),
  )

  -- memory was wanting for the next piece
  pub no_more_made : (old out : Option (List ℕ)) (kept_back rest text : List ℕ) (answer : Answer)
      → Making old out kept_back rest text → answer ≡ memory_answer texts
      → RanTo texts bounds files last [] (Pieces text) now now old out answer
  no_more_made old out kept_back rest text answer making is = (
    making.early,
    (
      making.written,
      (
        refl,
        inr (
          length making.early,
          inl (ap₂ after
              (sym (ap (take (length making.early)) (sym making.all) ∙ take-append_seam making.early
              (kept_back ++ rest)))
              is),
        ),
      ),
    ),
  )

  -- a front of what is kept back was written, and the rest is lost
  pub cut_off : (old out new : Option (List ℕ)) (kept_back rest text : List ℕ) (answer : Answer)
      → Making old out kept_back rest text → GainsFront out new kept_back → answer ≡ write_answer texts
      → RanTo texts bounds files last [] (Pieces text) now now old new answer
  cut_off old out new kept_back rest text answer making gains is =
      let front : List ℕ = making.early ++ take gains.0 kept_back in
      let split : front ++ (drop gains.0 kept_back ++ rest) ≡ text =
      append_assoc making.early (take gains.0 kept_back) (drop gains.0 kept_back ++ rest)
      ∙ (ap (λ bytes. making.early ++ bytes)
      (sym (append_assoc (take gains.0 kept_back) (drop gains.0 kept_back) rest)
      ∙ ap (λ bytes. bytes ++ rest) (take-append-drop gains.0 kept_back))
      ∙ making.all) in (
        front,
        (
          gains.1
              ∙ (ap (λ known. append_known known (take gains.0 kept_back)) making.written
              ∙ append_further old making.early (take gains.0 kept_back)),
          (
            refl,
            inr (
              length front,
              inr
                  (ap₂ after
                  (sym (ap (take (length front)) (sym split) ∙ take-append_seam front (drop gains.0 kept_back ++ rest)))
                  is),
            ),
          ),
        ),
      )
