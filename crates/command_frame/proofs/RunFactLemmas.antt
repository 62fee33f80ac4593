-- The facts of a run, along its plan.
use Rattle.std.proofs.Common.{◌≡◌, ◌⊎◌, ℕ, List, [], ◌∷◌, length, take, take_all, Option, refl, ap, sym, ◌∙◌, inl, inr}
use Rattle.std.proofs.Common.{append-nil, arith}
use Rattle.hp_outside.specs.Folder.{Folder}
use Rattle.command_frame.specs.Report.{Refuses, Verdict, Writes}
use Rattle.command_frame.specs.FirstFault.{Bounds}
use Rattle.command_frame.specs.Plan.{Document, Ends, Lines, Pieces, Plan}
use Rattle.command_frame.specs.Texts.{Texts}
use Rattle.command_frame.specs.Answer.{Answer, done, memory_answer, plan_answer, verdict_answer}
use Rattle.command_frame.specs.Moment.{Moment}
use Rattle.command_frame.specs.Run.{Ran, WasMade}
use Rattle.command_frame.specs.RunFacts.{RunFacts}
use Rattle.command_frame.proofs.StatusFactLemmas.{fault_facts, unwritten_facts, wanting_facts}
use Rattle.command_frame.proofs.LinesFactLemmas.{lines_facts}
use Rattle.command_frame.proofs.DocumentFactLemmas.{document_facts}

-- all was written, with no file left to be read
done_facts : (texts : Texts) (bounds : Bounds) (files : Option Folder) (last : List ℕ) (plan : Plan) (output : List ℕ)
    (before now : Moment) (given : Answer)
    → now ≡ before → given ≡ done output
    → ((folder : Folder) → done output ≡ plan_answer texts bounds folder last plan)
    → RunFacts texts bounds files last [] plan before now given
done_facts texts bounds files last plan output before now given same is all =
    let status : given.status ≡ 0 = ap (λ (a : Answer). a.status) is in
    let opens : now.opens ≡ before.opens = ap (λ (m : Moment). m.opens) same in
    record {
      judged = λ folder known three four five. is ∙ all folder;
      quiet = λ folder known quiet four five. is ∙ all folder;
      front = λ folder known. (
        length output,
        ap (λ (a : Answer). a.output) is
            ∙
            (sym (take_all (length output) output (omega arith))
            ∙ ap (λ (a : Answer). take (length output) a.output) (all folder)),
      );
      unread = λ none. same;
      opens_at_least = omega (arith, opens);
      opens_at_most = omega (arith, opens);
      opened = λ done_is. omega (arith, opens);
      current = λ done_is some. absurd (some refl);
      ended = λ done_is some. absurd (some refl);
      not_read = λ other. absurd (omega (arith, status, other));
      sound = λ three four five. ap (λ (m : Moment). m.faults) same;
      memory = λ other. absurd (omega (arith, status, other));
      write = λ other. absurd (omega (arith, status, other));
      bounded = omega (arith, status);
      not_usage = λ other. omega (arith, status, other);
      silent = λ quiet some. absurd (some status);
    }

-- the plan's end
ends_facts : (texts : Texts) (bounds : Bounds) (files : Option Folder) (last : List ℕ) (verdict : Verdict)
    (before now : Moment) (given : Answer)
    → now ≡ before
    → (given ≡ verdict_answer texts last verdict) ⊎ (given ≡ memory_answer texts)
    → RunFacts texts bounds files last [] (Ends verdict) before now given
ends_facts texts bounds files last verdict before now given same (inr memory) =
    wanting_facts texts bounds files last [] (Ends verdict) before now given (ap (λ (a : Answer). a.status) memory)
    (ap (λ (a : Answer). a.message) memory)
    (λ folder known. (0, ap (λ (a : Answer). a.output) memory)) (λ quiet. ap (λ (a : Answer). a.output) memory)
    (λ none. same) (omega (arith, ap (λ (m : Moment). m.opens) same))
    (omega (arith, ap (λ (m : Moment). m.opens) same))
ends_facts texts bounds files last (Refuses told) before now given same (inl is) =
    fault_facts texts bounds files last [] (Ends (Refuses told)) before now given told.status
    (ap (λ (a : Answer). a.status) is) (λ folder known. is) (ap (λ (m : Moment). m.faults) same)
    (λ quiet. ap (λ (a : Answer). a.output) is) (λ none. same) (omega (arith, ap (λ (m : Moment). m.opens) same))
    (omega (arith, ap (λ (m : Moment). m.opens) same))
ends_facts texts bounds files last (Writes output) before now given same (inl is) =
    done_facts texts bounds files last (Ends (Writes output)) output before now given same is (λ folder. refl)

-- a text was written while it was made
pieces_facts : (texts : Texts) (bounds : Bounds) (files : Option Folder) (last text : List ℕ) (before now : Moment)
    (given : Answer)
    → now ≡ before → WasMade texts text given
    → RunFacts texts bounds files last [] (Pieces text) before now given
pieces_facts texts bounds files last text before now given same (inl is) =
    done_facts texts bounds files last (Pieces text) text before now given same is (λ folder. refl)
pieces_facts texts bounds files last text before now given same (inr (count, inl memory)) =
    wanting_facts texts bounds files last [] (Pieces text) before now given (ap (λ (a : Answer). a.status) memory)
    (ap (λ (a : Answer). a.message) memory)
    (λ folder known. (count, ap (λ (a : Answer). a.output) memory ∙ append-nil (take count text)))
    (λ quiet. absurd quiet) (λ none. same) (omega (arith, ap (λ (m : Moment). m.opens) same))
    (omega (arith, ap (λ (m : Moment). m.opens) same))
pieces_facts texts bounds files last text before now given same (inr (count, inr failed)) =
    unwritten_facts texts bounds files last [] (Pieces text) before now given (ap (λ (a : Answer). a.status) failed)
    (ap (λ (a : Answer). a.message) failed)
    (λ folder known. (count, ap (λ (a : Answer). a.output) failed ∙ append-nil (take count text)))
    (λ quiet. absurd quiet) (λ none. same) (omega (arith, ap (λ (m : Moment). m.opens) same))
    (omega (arith, ap (λ (m : Moment). m.opens) same))

-- every run has the facts
pub run_facts : (texts : Texts) (bounds : Bounds) (files : Option Folder) (last : List ℕ) (names : List (List ℕ))
    (plan : Plan) (before now : Moment) (given : Answer)
    → Ran texts bounds files last names plan before now given
    → RunFacts texts bounds files last names plan before now given
run_facts texts bounds files last [] (Ends verdict) before now given ran =
    ends_facts texts bounds files last verdict before now given ran.0 ran.1
run_facts texts bounds files last (name ∷ names) (Ends verdict) before now given ran = absurd ran
run_facts texts bounds files last [] (Pieces text) before now given ran =
    pieces_facts texts bounds files last text before now given ran.0 ran.1
run_facts texts bounds files last (name ∷ names) (Pieces text) before now given ran = absurd ran
run_facts texts bounds files last [] (Lines wanted report next) before now given ran = absurd ran
run_facts texts bounds files last (name ∷ names) (Lines wanted report next) before now given ran =
    lines_facts texts bounds files last name wanted names report next before ran.1.1.0 now given ran.1.0 ran.0 ran.1.1.1
    ran.1.1.2
    (λ taken answer rest. run_facts texts bounds files wanted names (next taken) ran.1.1.0 now answer rest)
run_facts texts bounds files last [] (Document wanted next) before now given ran = absurd ran
run_facts texts bounds files last (name ∷ names) (Document wanted next) before now given ran =
    document_facts texts bounds files last name wanted names next before ran.1.1.0 now given ran.1.0 ran.0 ran.1.1.1
    ran.1.1.2
    (λ taken answer rest. run_facts texts bounds files wanted names (next taken) ran.1.1.0 now answer rest)
