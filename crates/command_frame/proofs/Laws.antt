-- The laws on what the contracts speak of, for the crates above. All else here is private.
pub use Rattle.command_frame.proofs.EndedLemmas.{ended_text, text_ended}
pub use Rattle.command_frame.proofs.EndsLemmas.{TaskEnded, defined_by, front_by, gives_as, is_delivered, judged_by}
pub use Rattle.command_frame.proofs.EndsLemmas.{run_ends, silent_by, task_quiet, told_by, wrote}
pub use Rattle.command_frame.proofs.FaultLemmas.{bytes_of_lines-push}
pub use Rattle.command_frame.proofs.FrontLoop.{good_append}
pub use Rattle.command_frame.proofs.LinesFactLemmas.{gives_nothing}
pub use Rattle.command_frame.proofs.OutputLemmas.{append_nothing}
pub use Rattle.command_frame.proofs.QuietLemmas.{IsQuiet, fault_isnt_zero, plan_quiet}
pub use Rattle.command_frame.proofs.ReachedLemmas.{unreached_by}
pub use Rattle.command_frame.proofs.ReadToEndLemmas.{to_end_by}
pub use Rattle.command_frame.proofs.RunsToLemmas.{not_four, runs_as, runs_quiet, runs_wanting, runs_wanting_by}
pub use Rattle.command_frame.proofs.RunsToLemmas.{status_told}
pub use Rattle.command_frame.proofs.WordsLemmas.{words_not_ran, words_ran}
