use Rattle.std.proofs.Common.{◌≡◌, List, ℕ, subst, sym, ◌∙◌}
use Rattle.command_frame.proofs.PageLemmas.{front_of}
use Rattle.command_frame.proofs.ready_text.PagedReadyText.write.Goals as goal

pub returns-clause-front : goal.returns-clause-front
returns-clause-front g c =
    rw (← c.self.view_is)
    (front_of c.write_pieces.result _ _ _ c.write_pieces.ensures.written c.write_pieces.ensures.cut)
