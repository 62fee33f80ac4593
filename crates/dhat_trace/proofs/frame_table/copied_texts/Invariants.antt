-- The texts so far are copied.
use Rattle.std.proofs.Common.{◌≡◌, take}
use Rattle.dhat_trace.proofs.frame_table.copied_texts.Given as goal

abbrev pub invariant-each_text : goal.invariant-each_text
invariant-each_text l = l.texts ≡ take l.place l.names
