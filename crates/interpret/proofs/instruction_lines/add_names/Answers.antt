use Rattle.std.proofs.lemmas.Result.{MatchResult-weaker, err_from_is_err_and}
use Rattle.interpret.specs.FrameKept.{module_names, names_in}
use Rattle.interpret.specs.Resolved.{names_called}
use Rattle.interpret.proofs.AddingLemmas.{adds-then, fault-behind, fault-first}
use Rattle.interpret.proofs.instruction_lines.add_names.Goals as goal

pub returns-in_err-add_module_name-clause-adds : goal.returns-in_err-add_module_name-clause-adds
unfolding names_called
returns-in_err-add_module_name-clause-adds c =
    let p = err_from_is_err_and c.from_residual.result c.from_residual.ensures.1 in
    rw (p.1, p.2) (record {
      added = tt;
      fault =
          fault-first (module_names c.args.found.now.module_name) (names_in c.args.found.now.texts) c.args.names.now
          c.in_err-add_module_name.field-0.0 c.in_err-add_module_name.ensures.adds.fault;
      few = c.add_module_name.ensures.adds.few;
    })

pub returns-clause-adds : goal.returns-clause-adds
unfolding names_called
returns-clause-adds c = record {
  added = MatchResult-weaker c.add_frames.result c.add_frames.ensures.adds.added
      (λ done adds. adds-then c.args.version (module_names c.args.found.now.module_name)
      (names_in c.args.found.now.texts) _ _ _ _ _ _ c.in_ok-add_module_name.ensures.adds.added adds)
      (λ error all. all);
  fault = MatchResult-weaker c.add_frames.result c.add_frames.ensures.adds.fault (λ done all. all)
      (λ error told. fault-behind c.args.version (module_names c.args.found.now.module_name)
      (names_in c.args.found.now.texts) _ _ _ _ error c.in_ok-add_module_name.ensures.adds.added told);
  few = λ few. c.add_frames.ensures.adds.few (c.add_module_name.ensures.adds.few few);
}
