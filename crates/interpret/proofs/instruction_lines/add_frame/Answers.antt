use Rattle.std.proofs.Common.{[], ◌∷◌}
use Rattle.std.proofs.lemmas.Result.{MatchResult-weaker, err_from_is_err_and}
use Rattle.interpret.proofs.AddingLemmas.{adds-then, fault-behind, fault-first}
use Rattle.interpret.specs.Resolved.{place_names}
use Rattle.interpret.specs.FrameKept.{frame_kept}
use Rattle.interpret.proofs.instruction_lines.add_frame.Goals as goal

pub returns-in_err-add_name-clause-adds : goal.returns-in_err-add_name-clause-adds
returns-in_err-add_name-clause-adds c =
    let p = err_from_is_err_and c.from_residual.result c.from_residual.ensures.1 in
    rw (p.1, p.2) (record {
      added = tt;
      fault =
          fault-first (c.args.frame.now.function.now ∷ []) (place_names (frame_kept c.args.frame.now).place)
          c.args.names.now c.in_err-add_name.field-0.0 c.in_err-add_name.ensures.adds.fault;
      few = c.add_name.ensures.adds.few;
    })

pub returns-in-Some-clause-adds : goal.returns-in-Some-clause-adds
returns-in-Some-clause-adds c =
    rw c.in-Some.is (record {
      added = MatchResult-weaker c.add_name-in-Some.result c.add_name-in-Some.ensures.adds.added
          (λ done adds. adds-then c.args.version (c.args.frame.now.function.now ∷ []) (c.in-Some.place.file.now ∷ []) _
          _ _ _ _ _ c.in_ok-add_name.ensures.adds.added adds)
          (λ error all. all);
      fault = MatchResult-weaker c.add_name-in-Some.result c.add_name-in-Some.ensures.adds.fault (λ done all. all)
          (λ error told. fault-behind c.args.version (c.args.frame.now.function.now ∷ [])
          (c.in-Some.place.file.now ∷ []) _ _ _ _ error c.in_ok-add_name.ensures.adds.added told);
      few = λ few. c.add_name-in-Some.ensures.adds.few (c.add_name.ensures.adds.few few);
    })
