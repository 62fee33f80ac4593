-- Writing a text page by page.
use Rattle.std.proofs.Common.{◌≡◌, ℕ, ◌+◌, ◌<◌, ◌≤◌, List, [], ◌++◌, length, take, Option, Result, Ok, Err, OnOk, OnErr}
use Rattle.std.proofs.Common.{length-append, ap, sym, ◌∙◌, append-nil, arith}
use Rattle.std.proofs.lemmas.List.{take-append-le}
use Rattle.std.proofs.Math.Seq.{take-append-add, take-length}
use Rattle.std.specs.Io.KnownBytes.{append_known}
use Rattle.hp_outside.specs.Taken.{GainsCutFront, GainsFront}
use Rattle.command_frame.proofs.OutputLemmas.{append_further}
use Rattle.command_frame.proofs.TextLoop.{Making}

-- all was made, and what was kept back was written
pub whole_of_all : {old now new : Option (List ℕ)} {kept rest text : List ℕ} → Making old now kept rest text → rest ≡ []
    → new ≡ append_known now kept → new ≡ append_known old text
whole_of_all {old} {now} {new} {kept} {rest} {text} making none passed =
    passed ∙ (ap (λ known. append_known known kept) making.written
    ∙ (append_further old making.early kept
    ∙ ap (append_known old)
    (ap (λ bytes. making.early ++ bytes) (sym (append-nil kept) ∙ ap (λ bytes. kept ++ bytes) (sym none))
    ∙ making.all)))

-- a front of what was kept back was written, and not all of it
pub cut_of_all : {old now new : Option (List ℕ)} {kept rest text : List ℕ} → Making old now kept rest text
    → GainsCutFront now new kept → GainsCutFront old new text
cut_of_all {old} {now} {new} {kept} {rest} {text} making cut =
    let count = cut.0 in
    let below = cut.1 in
    let whole = ap (λ (bytes : List ℕ). length bytes) making.all in
    let size = length-append making.early (kept ++ rest) in
    let kept_size = length-append kept rest in (
      length making.early + count,
      omega (arith, below, whole, size, kept_size),
      cut.2 ∙ (ap (λ known. append_known known (take count kept)) making.written
          ∙ (append_further old making.early (take count kept)
          ∙ ap (append_known old)
          (ap (λ bytes. making.early ++ bytes) (sym (take-append-le count kept rest (omega (arith, below))))
          ∙ (sym (take-append-add making.early (kept ++ rest) count)
          ∙ ap (take (length making.early + count)) making.all)))),
    )

-- what was written whole or cut is a front
pub front_of : {T E : Type 0} (result : Result T E) (old new : Option (List ℕ)) (text : List ℕ)
    → OnOk result (new ≡ append_known old text) → OnErr result (GainsCutFront old new text) → GainsFront old new text
front_of (Ok all) old new text whole cut = (length text, whole ∙ ap (append_known old) (sym (take-length text)))
front_of (Err fault) old new text whole cut = (cut.0, cut.2)
