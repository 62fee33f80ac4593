-- A line in its usual form at the front of some bytes is read.
use Rattle.std.proofs.Common.{◌≡◌, ℕ, Bool, true, false, true≢false, ◌||◌, List, [], ◌∷◌, ◌++◌, length, map, drop}
use Rattle.std.proofs.Common.{drop_of_length-le, Result, Ok, Err, OnOk, OnErr, ap, refl, sym, ◌∙◌, arith}
use Rattle.std.specs.Prelude.{is_some, unwrap_or}
use Rattle.std.specs.List.{list_any}
use Rattle.std.specs.Result.{is_ok}
use Rattle.std.proofs.lemmas.Bool.{false≢true}
use Rattle.ht_lines.specs.Content.{allocation_line}
use Rattle.ht_lines.specs.Written.{written}
use Rattle.interpret.specs.declared.infos.AllocationInfo.{AllocationInfo}
use Rattle.interpret.specs.FirstAppearances.{with_new}
use Rattle.interpret.specs.Interpreted.{info_said, new_in, text_of}
use Rattle.interpret.specs.RawTables.{same_info}
use Rattle.ht_lines.specs.declared.raw.RawEvent.{RawEvent}
use Rattle.ht_lines.specs.declared.raw.RawEvent.TheVariants.{Allocation, Free, Node}
use Rattle.ht_lines.specs.declared.raw.RawLine.{RawLine}
use Rattle.ht_lines.specs.RawLine.{BeginsWithRaw, raw_content}
use Rattle.ht_trace.specs.VersionLines.{may_stand_first}
use Rattle.interpret.specs.InterpreterState.{InterpreterState}
use Rattle.interpret.specs.RawContents.{IsRaw}
use Rattle.interpret.specs.TakesFront.{TakesFront}
use Rattle.interpret.specs.TakesLine.{HasRead, Takes}
use Rattle.interpret.proofs.StandLemmas.{adds-line}

-- what a call promises where it succeeds, where it did
pub ok-holds : {T E P : Type 0} (result : Result T E) (test : Bool) → test ≡ is_ok result → test ≡ true → OnOk result P
    → P
ok-holds (Ok x) test is succeeded held = held
ok-holds (Err e) test is succeeded held = absurd (false≢true (sym is ∙ succeeded))

-- and where it failed
pub err-holds : {T E P : Type 0} (result : Result T E) (test : Bool) → test ≡ is_ok result → test ≡ false
    → OnErr result P → P
err-holds (Ok x) test is failed held = absurd (true≢false (sym is ∙ failed))
err-holds (Err e) test is failed held = held

-- an info that is held is not added
pub held-new : (infos : List AllocationInfo) (info : AllocationInfo) → list_any (same_info info) infos ≡ true
    → infos ≡ with_new same_info infos info
held-new infos info held = rw held refl

-- and has no line
pub held-lines : (infos : List AllocationInfo) (version number : ℕ) (before after : List ℕ)
    → after ≡ before ++ text_of (written version (allocation_line number) ∷ [])
    → after
    ≡ before ++ text_of (map (written version) (map info_said (new_in infos infos) ++ allocation_line number ∷ []))
held-lines infos version number before after wrote =
    let none : drop (length infos) infos ≡ [] = drop_of_length-le infos {i = length infos} (omega arith) in
    wrote
    ∙ ap (λ new. before ++ text_of (map (written version) (map info_said new ++ allocation_line number ∷ [])))
    (sym none)

is-raw : (says : RawEvent) → IsRaw (raw_content says)
is-raw (Allocation size trace ptr) = tt
is-raw (Free ptr) = tt
is-raw (Node ip parent) = tt

pub front-taken : (old new : InterpreterState) (ready : List ℕ) (found : RawLine) (before after : List ℕ)
    → BeginsWithRaw ready found → is_some old.version ≡ true
    → ((line : List ℕ) → Takes old new line (raw_content found.says) before after)
    → TakesFront old new ready found.bytes before after
front-taken old new ready found before after begins versioned takes =
    let read : HasRead old new begins.line before after = record {
      said = raw_content found.says;
      may_stand = ap (λ v. v || may_stand_first begins.line) versioned;
      read = begins.said (unwrap_or old.version 1);
      raw = is-raw found.says;
      takes = takes begins.line;
    } in
    record {
      line = begins.line;
      rest = begins.rest;
      one_line = begins.one_line;
      short = begins.at_most;
      split = begins.split;
      size = begins.counted;
      adds = adds-line old new begins.line before after read;
    }
